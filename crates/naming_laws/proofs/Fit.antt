-- A named function fits a listing where its body does, by the body's own numbers.
use Rattle.std.proofs.Common.{◌≡◌, ℕ, Bool, List, [], ◌∷◌, ◌++◌, map, refl, sym, ap, ap₂, ◌∙◌, subst}
use Rattle.std.specs.Prelude.{◌&&◌, IsTrue}
use Rattle.pcode_model.specs.declared.listing.Listing.{Listing}
use Rattle.pcode_model.specs.Spaces.{register_space}
use Rattle.cmeaning.specs.declared.tree.Arm.{Arm, roll-Arm, map-Arm}
use Rattle.cmeaning.specs.declared.tree.Stmt.{Stmt, roll-Stmt, map-Stmt}
use Rattle.cmeaning.specs.declared.tree.Stmt.TheFolds.{ind-Stmt}
use Rattle.cmeaning.specs.declared.tree.Stmt.TheOpen.{Stmt-F, Arm-F}
use Rattle.cmeaning.specs.Callees.{returns_by}
use Rattle.cmeaning.specs.Do.{widths_in}
use Rattle.cmeaning.specs.Fits.{Fits, lies_in, all_true, fits_step, stmt_fits, arm_fits, body_fits, params_fit}
use Rattle.cmeaning.specs.Mentions.{Mention, stmt_step, in_expr, in_stmt, in_arm, in_arms, in_body}
use Rattle.cmeaning.proofs.Layers.{arm_fits_is, fits_roll}
use Rattle.cmeaning.proofs.Mentions.{in_arm_body}
use Rattle.naming.specs.declared.head.Head.{Head}
use Rattle.naming.specs.Renamed.{Names, stmt_layer, stmt_by, arm_by, body_by}
use Rattle.naming.specs.Named.{named_function}
use Rattle.naming.specs.Run.{widths_of, returns_of}
use Rattle.naming_laws.specs.Kept.{Kept}
use Rattle.naming.specs.Covered.{IsCovered}
use Rattle.naming_laws.proofs.Mentions.{stmt_by_roll, arm_by_is, in_stmt_roll}
use Rattle.naming_laws.proofs.Values.{kept_first, kept_second}
use Rattle.naming_laws.proofs.Named.{names, named_keeps}

module _ (l : Listing) (r : Names) (ws vs : ℕ → ℕ) (returns gives_back : ℕ → Bool) where
  abbrev Stays : List Mention → Type 0
  Stays xs = Kept r ws vs returns gives_back xs

  first : (xs ys : List Mention) → Stays (xs ++ ys) → Stays xs
  first xs ys k = kept_first r ws vs returns gives_back xs ys k

  second : (xs ys : List Mention) → Stays (xs ++ ys) → Stays ys
  second xs ys k = kept_second r ws vs returns gives_back xs ys k

  abbrev SameFit : Stmt → Type 0
  SameFit s = Stays (in_stmt s) → stmt_fits l vs (stmt_by r s) ≡ stmt_fits l ws s

  abbrev SameFits : List Stmt → Type 0
  SameFits body = Stays (in_body body) → body_fits l vs (body_by r body) ≡ body_fits l ws body

  abbrev SameArm : Arm → Type 0
  SameArm a = SameFits a.body

  bodies : {A : Type 0} (g : A → Stmt) → ((a : A) → SameFit (g a)) → (xs : List A) → SameFits (map g xs)
  bodies g h [] k = refl
  bodies g h (x ∷ xs) k =
      ap₂ (λ (a b : Bool). a && b) (h x (first (in_stmt (g x)) (in_body (map g xs)) k))
      (bodies g h xs (second (in_stmt (g x)) (in_body (map g xs)) k))

  arm : (a : Arm) → SameArm a → Stays (in_arm a) → arm_fits l vs (arm_by r a) ≡ arm_fits l ws a
  arm a h k =
      ap (arm_fits l vs) (arm_by_is r a)
      ∙ arm_fits_is l vs (record { cases = a.cases; body = body_by r a.body })
      ∙ h (subst Stays (in_arm_body a) k)
      ∙ sym (arm_fits_is l ws a)

  arms : {B : Type 0} (o : B → Arm)
      → ((b : B) → SameArm (o b))
      → (xs : List B)
      → Stays (in_arms (map o xs))
      → all_true (map (arm_fits l vs) (map (arm_by r) (map o xs))) ≡ all_true (map (arm_fits l ws) (map o xs))
  arms o q [] k = refl
  arms o q (x ∷ xs) k =
      ap₂ (λ (a b : Bool). a && b) (arm (o x) (q x) (first (in_arm (o x)) (in_arms (map o xs)) k))
      (arms o q xs (second (in_arm (o x)) (in_arms (map o xs)) k))

  layer : {A B : Type 0} (g : A → Stmt) (o : B → Arm)
      → ((a : A) → SameFit (g a))
      → ((b : B) → SameArm (o b))
      → (y : Stmt-F A B)
      → Stays (stmt_step (map-Stmt Stmt Arm (List Mention) (List Mention) in_stmt in_arm (map-Stmt A B Stmt Arm g o y)))
      → fits_step l vs (map-Stmt Stmt Arm Bool Bool (stmt_fits l vs) (arm_fits l vs)
      (stmt_layer r (map-Stmt Stmt Arm Stmt Arm (stmt_by r) (arm_by r) (map-Stmt A B Stmt Arm g o y))))
      ≡ fits_step l ws (map-Stmt Stmt Arm Bool Bool (stmt_fits l ws) (arm_fits l ws) (map-Stmt A B Stmt Arm g o y))
  layer g o h q (Stmt-F.Assign v e) k = refl
  layer g o h q (Stmt-F.Load v space a) k = refl
  layer g o h q (Stmt-F.Store space a e) k = refl
  layer g o h q (Stmt-F.Call v address es) k = refl
  layer g o h q (Stmt-F.CallInd v e es) k = refl
  layer g o h q (Stmt-F.Other v index es) k = refl
  layer g o h q (Stmt-F.Extra v offset) k = ap (lies_in l (register_space l) offset) (sym k.0)
  layer g o h q (Stmt-F.Divide v op a b) k = refl
  layer g o h q (Stmt-F.If c xs) k = bodies g h xs (second (in_expr c) (in_body (map g xs)) k)
  layer g o h q (Stmt-F.IfElse c xs ys) k =
      let rest = second (in_expr c) (in_body (map g xs) ++ in_body (map g ys)) k in
      ap₂ (λ (a b : Bool). a && b) (bodies g h xs (first (in_body (map g xs)) (in_body (map g ys)) rest))
      (bodies g h ys (second (in_body (map g xs)) (in_body (map g ys)) rest))
  layer g o h q (Stmt-F.While c xs) k = bodies g h xs (second (in_expr c) (in_body (map g xs)) k)
  layer g o h q (Stmt-F.DoWhile xs c) k = bodies g h xs (first (in_body (map g xs)) (in_expr c) k)
  layer g o h q (Stmt-F.Loop xs) k = bodies g h xs k
  layer g o h q Stmt-F.Break k = refl
  layer g o h q (Stmt-F.Switch e xs) k = arms o q xs (second (in_expr e) (in_arms (map o xs)) k)
  layer g o h q (Stmt-F.Goto n) k = refl
  layer g o h q (Stmt-F.Label n) k = refl
  layer g o h q (Stmt-F.Return e) k = refl

  rolled : {A B : Type 0} (g : A → Stmt) (o : B → Arm)
      → ((a : A) → SameFit (g a))
      → ((b : B) → SameArm (o b))
      → (y : Stmt-F A B)
      → SameFit (roll-Stmt (map-Stmt A B Stmt Arm g o y))
  rolled {A} {B} g o h q y k =
      let m = map-Stmt A B Stmt Arm g o y in
      ap (stmt_fits l vs) (stmt_by_roll r m)
      ∙ fits_roll l vs (stmt_layer r (map-Stmt Stmt Arm Stmt Arm (stmt_by r) (arm_by r) m))
      ∙ layer g o h q y (subst Stays (in_stmt_roll m) k)
      ∙ sym (fits_roll l ws m)

  arm_rolled : {A B : Type 0} (g : A → Stmt) (o : B → Arm)
      → ((a : A) → SameFit (g a))
      → (y : Arm-F A B)
      → SameArm (roll-Arm (map-Arm A B Stmt Arm g o y))
  arm_rolled g o h y = bodies g h y.body

  fit_by : (s : Stmt) → SameFit s
  fit_by s = ind-Stmt SameFit SameArm
      (λ y z is. subst (λ (x : Stmt-F Stmt Arm). SameFit (roll-Stmt x)) is
      (rolled (λ p. p.0) (λ p. p.0) (λ p. p.1) (λ p. p.1) z))
      (λ y z is. subst (λ (x : Arm-F Stmt Arm). SameArm (roll-Arm x)) is
      (arm_rolled (λ p. p.0) (λ p. p.0) (λ p. p.1) z))
      s

  pub fits_by : (body : List Stmt) → SameFits body
  fits_by [] k = refl
  fits_by (x ∷ xs) k =
      ap₂ (λ (a b : Bool). a && b) (fit_by x (first (in_stmt x) (in_body xs) k))
      (fits_by xs (second (in_stmt x) (in_body xs) k))

-- its parameters are those of the head
pub named_fits : (l : Listing) (h : Head) (body : List Stmt)
    → IsCovered h body
    → IsTrue (params_fit l h.params)
    → IsTrue (body_fits l (widths_of h) body)
    → Fits l (named_function h body)
named_fits l h body covered params fits =
    let f = named_function h body in
    let same = fits_by l (names h body covered) (widths_of h) (widths_in f) (returns_of h) (returns_by f.callees) body
    (named_keeps h body covered) in
    record { params = params; body = same ∙ fits }
