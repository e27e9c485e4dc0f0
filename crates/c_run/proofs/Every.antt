-- In a valid function that fits its listing, each step may be carried out.
use Rattle.std.proofs.Common.{◌≡◌, ℕ, suc, ◌+◌, ◌-◌, ◌&&◌, Bool, true, false, List, [], ◌∷◌, ◌++◌, map, sym, ap, ◌∙◌, subst}
use Rattle.std.specs.Prelude.{nat_lt, if◌then◌else◌}
use Rattle.std.specs.List.{AllByRecursion}
use Rattle.std.proofs.lemmas.List.{map-id}
use Rattle.pcode_model.specs.declared.listing.Listing.{Listing}
use Rattle.pcode_model.specs.Spaces.{register_space}
use Rattle.pcode_model.specs.WellFormed.{IsWellFormed}
use Rattle.cmeaning.proofs.Layers.{arm_fits_is}
use Rattle.cmeaning.specs.declared.tree.Arm.{Arm, roll-Arm, map-Arm}
use Rattle.cmeaning.specs.declared.tree.CFunction.{CFunction}
use Rattle.cmeaning.specs.declared.tree.Stmt.{Stmt, out-Stmt, roll-Stmt, map-Stmt, fold-roll-Stmt}
use Rattle.cmeaning.specs.declared.tree.Stmt.TheFolds.{ind-Stmt}
use Rattle.cmeaning.specs.declared.tree.Stmt.TheOpen.{Stmt-F, Arm-F}
use Rattle.cmeaning.specs.declared.tree.Stmt.TheVariants as S
use Rattle.cmeaning.specs.declared.tree.Stmt.TheViews.{out-roll-Stmt}
use Rattle.cmeaning.specs.Do.{widths_in}
use Rattle.cmeaning.specs.Flat.{Flat, Do, Test, Jump, Piece, Branch, spans, all_labels, all_steps, arm_span, arm_spans, arm_steps, breaks, flat_of, found_in, piece_of, piece_step, pieces_of, returns_by}
use Rattle.cmeaning.specs.Shape.{shape_of, is_right, has_width, is_condition}
use Rattle.cmeaning.specs.Valid.{IsValid, Rule, Cased, all_cases, all_hold, are_cases_of, are_right, arms_hold, cased_of, cased_step, declared_in, has_case, is_assigned, is_long, is_space, is_target, is_variable, rule_of, rule_step}
use Rattle.cmeaning.proofs.Flat.{branch_of, branch_is, piece_roll}
use Rattle.cmeaning.specs.Fits.{Fits, all_true, arm_fits, arm_step, fits_step, stmt_fits}
use Rattle.c_run.specs.May.{MayStep, StepFits, fits_layer, may_layer}
use Rattle.c_run.proofs.Rules.{assigned_right, call_right, returned_right, right_condition, right_value, target_there, there}
use Rattle.c_run.proofs.Spaces.{both, inside, ram_accessed}
use Rattle.cmeaning.proofs.Switches.{cased_is}

-- the step may be carried out
abbrev pub Sound : Listing → CFunction → Flat → Type 0
Sound l f x = MayStep (widths_in f) x × StepFits l (widths_in f) x

abbrev pub AllSound : Listing → CFunction → List Flat → Type 0
AllSound l f xs = AllByRecursion (Sound l f) xs

sound_append : (l : Listing) (f : CFunction) (xs ys : List Flat)
    → AllSound l f xs
    → AllSound l f ys
    → AllSound l f (xs ++ ys)
sound_append l f [] ys h k = k
sound_append l f (x ∷ xs) ys h k = (h.0, sound_append l f xs ys h.1 k)

-- ---- simple statements

of_layer : (P : Stmt-F Stmt Arm → Type 0) (s : Stmt) (y : Stmt-F Stmt Arm) → roll-Stmt y ≡ s → P y → P (out-Stmt s)
of_layer P s y is h = subst P (sym (out-roll-Stmt y) ∙ ap out-Stmt is) h

done : (l : Listing) (f : CFunction) (s : Stmt) (y : Stmt-F Stmt Arm)
    → roll-Stmt y ≡ s
    → may_layer (widths_in f) y
    → fits_layer l (widths_in f) y
    → AllSound l f (Do s ∷ [])
done l f s y is may fit =
    ((of_layer (may_layer (widths_in f)) s y is may, of_layer (fits_layer l (widths_in f)) s y is fit), tt)

-- ---- statements

module _ (l : Listing) (f : CFunction) (labels : ℕ) where
  -- the steps of a statement that obeys its rule and fits
  abbrev pub StmtSound : Stmt → Type 0
  StmtSound t =
      (after_call in_loop : Bool) (room : ℕ)
      → (rule_of f labels t).holds after_call in_loop room ≡ true
      → stmt_fits l (widths_in f) t ≡ true
      → (place : ℕ → ℕ) (out p : ℕ) → AllSound l f ((piece_of (returns_by f.callees) t).steps place out p)

  abbrev pub BodySound : List Stmt → Type 0
  BodySound xs =
      (after_call in_loop : Bool) (room : ℕ)
      → all_hold after_call (map (rule_of f labels) xs) in_loop room ≡ true
      → all_true (map (stmt_fits l (widths_in f)) xs) ≡ true
      → (place : ℕ → ℕ) (out p : ℕ) → AllSound l f (all_steps (map (piece_of (returns_by f.callees)) xs) place out p)

  abbrev pub ArmSound : Arm → Type 0
  ArmSound a = BodySound a.body

body_sound : (l : Listing) (f : CFunction) (labels : ℕ) {A : Type 0} (g : A → Stmt)
    → ((a : A) → StmtSound l f labels (g a))
    → (xs : List A)
    → BodySound l f labels (map g xs)
body_sound l f labels g h [] after_call in_loop room ok fit place out p = tt
body_sound l f labels g h (x ∷ xs) after_call in_loop room ok fit place out p =
    let r = rule_of f labels (g x) in
    let piece = piece_of (returns_by f.callees) (g x) in
    let others = all_hold r.calls (map (rule_of f labels) (map g xs)) in_loop room in
    let three = both (nat_lt 0 room) (r.holds after_call in_loop (room - 1) && others) ok in
    let two = both (r.holds after_call in_loop (room - 1)) others three.1 in
    let fits = both (stmt_fits l (widths_in f) (g x)) (all_true (map (stmt_fits l (widths_in f)) (map g xs))) fit in
    sound_append l f (piece.steps place out p)
    (all_steps (map (piece_of (returns_by f.callees)) (map g xs)) place out (p + piece.span))
    (h x after_call in_loop (room - 1) two.0 fits.0 place out p)
    (body_sound l f labels g h xs r.calls in_loop room two.1 fits.1 place out (p + piece.span))

-- ---- arms

break_sound : (l : Listing) (f : CFunction) (past : ℕ) (b : Bool) → AllSound l f (if b then Jump past ∷ [] else [])
break_sound l f past true = ((tt, tt), tt)
break_sound l f past false = tt

arms_sound : (l : Listing) (f : CFunction) (labels : ℕ) {B : Type 0} (o : B → Arm)
    → ((b : B) → ArmSound l f labels (o b))
    → (arms : List B) (room : ℕ)
    → arms_hold (map (cased_of f labels) (map o arms)) room ≡ true
    → all_true (map (arm_fits l (widths_in f)) (map o arms)) ≡ true
    → (place : ℕ → ℕ) (out past p : ℕ)
    → AllSound l f (arm_steps (map (branch_of (returns_by f.callees)) (map o arms)) place out past p)
arms_sound l f labels o q [] room ok fit place out past p = tt
arms_sound l f labels o q (a ∷ arms) room ok fit place out past p =
    let c = cased_of f labels (o a) in
    let b = branch_of (returns_by f.callees) (o a) in
    let rest = map (branch_of (returns_by f.callees)) (map o arms) in
    let held =
    both (has_case c.cases)
    (all_hold false c.body false room && arms_hold (map (cased_of f labels) (map o arms)) room) ok in
    let two = both (all_hold false c.body false room) (arms_hold (map (cased_of f labels) (map o arms)) room) held.1 in
    let fits = both (arm_fits l (widths_in f) (o a)) (all_true (map (arm_fits l (widths_in f)) (map o arms))) fit in
    let P : Branch → Type 0 = λ z. AllSound l f (all_steps z.body place out p) in
    let body : AllSound l f (all_steps b.body place out p) = subst P (sym (branch_is (returns_by f.callees) (o a)))
    (q a false false room
    (ap (λ (z : Cased). all_hold false z.body false room) (sym (cased_is f labels (o a))) ∙ two.0)
    (sym (arm_fits_is l (widths_in f) (o a)) ∙ fits.0) place out p) in
    sound_append l f (all_steps b.body place out p)
    ((if breaks b then Jump past ∷ [] else []) ++ arm_steps rest place out past (p + arm_span b)) body
    (sound_append l f (if breaks b then Jump past ∷ [] else []) (arm_steps rest place out past (p + arm_span b))
    (break_sound l f past (breaks b))
    (arms_sound l f labels o q arms room two.1 fits.1 place out past (p + arm_span b)))

-- ---- a statement by its layer

abbrev Holding : CFunction → ℕ → Stmt-F Rule Cased → Bool → Bool → ℕ → Type 0
Holding f labels y after_call in_loop room = (rule_step f labels y).holds after_call in_loop room ≡ true

stmt_layer : (l : Listing) (f : CFunction) (labels : ℕ)
    → IsWellFormed l
    → {A B : Type 0} (g : A → Stmt) (o : B → Arm)
    → ((a : A) → StmtSound l f labels (g a))
    → ((b : B) → ArmSound l f labels (o b))
    → (y : Stmt-F A B) (after_call in_loop : Bool) (room : ℕ)
    → Holding f labels
    (map-Stmt Stmt Arm Rule Cased (rule_of f labels) (cased_of f labels) (map-Stmt A B Stmt Arm g o y)) after_call
    in_loop room
    → fits_step l (widths_in f) (map-Stmt Stmt Arm Bool Bool (stmt_fits l (widths_in f)) (arm_fits l (widths_in f))
    (map-Stmt A B Stmt Arm g o y))
    ≡ true
    → (place : ℕ → ℕ) (out p : ℕ)
    → AllSound l f ((piece_step (returns_by f.callees)
    (map-Stmt Stmt Arm Piece Branch (piece_of (returns_by f.callees)) (branch_of (returns_by f.callees))
    (map-Stmt A B Stmt Arm g o y))).steps
    place out p)
stmt_layer l f labels formed g o h q (Stmt-F.Assign v e) after_call in_loop room ok fit place out p =
    done l f (S.Assign v e) (Stmt-F.Assign v e) (S.rolls-Assign v e) (assigned_right (widths_in f) v e ok) tt
stmt_layer l f labels formed g o h q (Stmt-F.Load v space a) after_call in_loop room ok fit place out p =
    let ws = widths_in f in
    let three = both (is_variable ws v) (is_space space && is_right (shape_of ws a)) ok in
    let two = both (is_space space) (is_right (shape_of ws a)) three.1 in
    done l f (S.Load v space a) (Stmt-F.Load v space a) (S.rolls-Load v space a) (there ws v three.0, two.1)
    (ram_accessed l space formed fit)
stmt_layer l f labels formed g o h q (Stmt-F.Store space a e) after_call in_loop room ok fit place out p =
    let ws = widths_in f in
    let three = both (is_space space) (is_right (shape_of ws a) && is_right (shape_of ws e)) ok in
    done l f (S.Store space a e) (Stmt-F.Store space a e) (S.rolls-Store space a e)
    (both (is_right (shape_of ws a)) (is_right (shape_of ws e)) three.1) (ram_accessed l space formed fit)
stmt_layer l f labels formed g o h q (Stmt-F.Call v address es) after_call in_loop room ok fit place out p =
    done l f (S.Call v address es) (Stmt-F.Call v address es) (S.rolls-Call v address es)
    (call_right (widths_in f) v es (declared_in f.callees address) ok) tt
stmt_layer l f labels formed g o h q (Stmt-F.CallInd v e es) after_call in_loop room ok fit place out p =
    let ws = widths_in f in
    let three = both (is_target ws v) (is_right (shape_of ws e) && are_right ws es) ok in
    let two = both (is_right (shape_of ws e)) (are_right ws es) three.1 in
    done l f (S.CallInd v e es) (Stmt-F.CallInd v e es) (S.rolls-CallInd v e es)
    (target_there ws v three.0, two.0, two.1) tt
stmt_layer l f labels formed g o h q (Stmt-F.Other v index es) after_call in_loop room ok fit place out p =
    let ws = widths_in f in
    let three = both (is_target ws v) (is_long index && are_right ws es) ok in
    let two = both (is_long index) (are_right ws es) three.1 in
    done l f (S.Other v index es) (Stmt-F.Other v index es) (S.rolls-Other v index es)
    (target_there ws v three.0, two.1) tt
stmt_layer l f labels formed g o h q (Stmt-F.Extra v offset) after_call in_loop room ok fit place out p =
    let ws = widths_in f in
    let three = both after_call (is_variable ws v && is_long offset) ok in
    let two = both (is_variable ws v) (is_long offset) three.1 in
    done l f (S.Extra v offset) (Stmt-F.Extra v offset) (S.rolls-Extra v offset) (there ws v two.0)
    (inside l (register_space l) offset (ws v) fit)
stmt_layer l f labels formed g o h q (Stmt-F.Divide v op a b) after_call in_loop room ok fit place out p =
    let ws = widths_in f in
    let two = both (is_assigned ws v (shape_of ws a)) (has_width (ws v) (shape_of ws b)) ok in
    let first = assigned_right ws v a two.0 in
    done l f (S.Divide v op a b) (Stmt-F.Divide v op a b) (S.rolls-Divide v op a b) (first, (first.0, two.1)) tt
stmt_layer l f labels formed g o h q (Stmt-F.If c xs) after_call in_loop room ok fit place out p =
    let two =
    both (is_condition (shape_of (widths_in f) c))
    (all_hold false (map (rule_of f labels) (map g xs)) in_loop room) ok in (
      (right_condition (shape_of (widths_in f) c) two.0, tt),
      body_sound l f labels g h xs false in_loop room two.1 fit place out (suc p),
    )
stmt_layer l f labels formed g o h q (Stmt-F.IfElse c xs ys) after_call in_loop room ok fit place out p =
    let ws = widths_in f in
    let first = all_hold false (map (rule_of f labels) (map g xs)) in_loop room in
    let second = all_hold false (map (rule_of f labels) (map g ys)) in_loop room in
    let three = both (is_condition (shape_of ws c)) (first && second) ok in
    let two = both first second three.1 in
    let fits = both (all_true (map (stmt_fits l ws) (map g xs))) (all_true (map (stmt_fits l ws) (map g ys))) fit in
    let yes = map (piece_of (returns_by f.callees)) (map g xs) in
    let no = map (piece_of (returns_by f.callees)) (map g ys) in (
      (right_condition (shape_of ws c) three.0, tt),
      sound_append l f (all_steps yes place out (suc p))
          (Jump (suc (suc p + spans yes) + spans no) ∷ all_steps no place out (suc (suc p + spans yes)))
          (body_sound l f labels g h xs false in_loop room two.0 fits.0 place out (suc p)) (
            (tt, tt),
            body_sound l f labels g h ys false in_loop room two.1 fits.1 place out (suc (suc p + spans yes)),
          ),
    )
stmt_layer l f labels formed g o h q (Stmt-F.While c xs) after_call in_loop room ok fit place out p =
    let two =
    both (is_condition (shape_of (widths_in f) c)) (all_hold false (map (rule_of f labels) (map g xs)) true room)
    ok in
    let body = map (piece_of (returns_by f.callees)) (map g xs) in
    let end = suc (suc p + spans body) in (
      (right_condition (shape_of (widths_in f) c) two.0, tt),
      sound_append l f (all_steps body place end (suc p)) (Jump p ∷ [])
          (body_sound l f labels g h xs false true room two.1 fit place end (suc p)) ((tt, tt), tt),
    )
stmt_layer l f labels formed g o h q (Stmt-F.DoWhile xs c) after_call in_loop room ok fit place out p =
    let two =
    both (is_condition (shape_of (widths_in f) c)) (all_hold false (map (rule_of f labels) (map g xs)) true room)
    ok in
    let body = map (piece_of (returns_by f.callees)) (map g xs) in
    let end = suc (p + spans body) in
    sound_append l f (all_steps body place end p) (Test c p end ∷ [])
    (body_sound l f labels g h xs false true room two.1 fit place end p)
    ((right_condition (shape_of (widths_in f) c) two.0, tt), tt)
stmt_layer l f labels formed g o h q (Stmt-F.Loop xs) after_call in_loop room ok fit place out p =
    let body = map (piece_of (returns_by f.callees)) (map g xs) in
    let end = suc (p + spans body) in
    sound_append l f (all_steps body place end p) (Jump p ∷ [])
    (body_sound l f labels g h xs false true room ok fit place end p) ((tt, tt), tt)
stmt_layer l f labels formed g o h q Stmt-F.Break after_call in_loop room ok fit place out p = ((tt, tt), tt)
stmt_layer l f labels formed g o h q (Stmt-F.Switch e arms) after_call in_loop room ok fit place out p =
    let cased = map (cased_of f labels) (map o arms) in
    let branches = map (branch_of (returns_by f.callees)) (map o arms) in
    let two = both (are_cases_of (all_cases cased) (shape_of (widths_in f) e)) (arms_hold cased room) ok in (
      (right_value (all_cases cased) (shape_of (widths_in f) e) two.0, tt),
      arms_sound l f labels o q arms room two.1 fit place out (suc p + arm_spans branches) (suc p),
    )
stmt_layer l f labels formed g o h q (Stmt-F.Goto n) after_call in_loop room ok fit place out p = ((tt, tt), tt)
stmt_layer l f labels formed g o h q (Stmt-F.Label n) after_call in_loop room ok fit place out p = tt
stmt_layer l f labels formed g o h q (Stmt-F.Return e) after_call in_loop room ok fit place out p =
    ((returned_right (widths_in f) f.gives e ok, tt), tt)

module _ (l : Listing) (f : CFunction) where
  stmt_rolled : (labels : ℕ)
      → IsWellFormed l
      → {A B : Type 0} (g : A → Stmt) (o : B → Arm)
      → ((a : A) → StmtSound l f labels (g a))
      → ((b : B) → ArmSound l f labels (o b))
      → (y : Stmt-F A B)
      → StmtSound l f labels (roll-Stmt (map-Stmt A B Stmt Arm g o y))
  unfolding rule_of cased_of stmt_fits arm_fits
  stmt_rolled labels formed {A} {B} g o h q y after_call in_loop room ok fit place out p =
      let m = map-Stmt A B Stmt Arm g o y in
      let P : Piece → Type 0 = λ z. AllSound l f (z.steps place out p) in
      subst P (sym (piece_roll (returns_by f.callees) m))
      (stmt_layer l f labels formed g o h q y after_call in_loop room
      (ap (λ (r : Rule). r.holds after_call in_loop room)
      (sym (fold-roll-Stmt Rule Cased (rule_step f labels) cased_step m))
      ∙ ok)
      (sym (fold-roll-Stmt Bool Bool (fits_step l (widths_in f)) arm_step m) ∙ fit) place out p)

  arm_rolled : (labels : ℕ) {A B : Type 0} (g : A → Stmt) (o : B → Arm)
      → ((a : A) → StmtSound l f labels (g a))
      → (y : Arm-F A B)
      → ArmSound l f labels (roll-Arm (map-Arm A B Stmt Arm g o y))
  arm_rolled labels g o h y = body_sound l f labels g h y.body

  stmt_sound : (labels : ℕ) → IsWellFormed l → (t : Stmt) → StmtSound l f labels t
  stmt_sound labels formed t = ind-Stmt (StmtSound l f labels) (ArmSound l f labels)
      (λ y z is. subst (λ (x : Stmt-F Stmt Arm). StmtSound l f labels (roll-Stmt x)) is
      (stmt_rolled labels formed (λ p. p.0) (λ p. p.0) (λ p. p.1) (λ p. p.1) z))
      (λ y z is. subst (λ (x : Arm-F Stmt Arm). ArmSound l f labels (roll-Arm x)) is
      (arm_rolled labels (λ p. p.0) (λ p. p.0) (λ p. p.1) z))
      t

  all_sound : (labels : ℕ) → IsWellFormed l → (xs : List Stmt) → BodySound l f labels xs
  all_sound labels formed xs =
      subst (BodySound l f labels) (map-id xs) (body_sound l f labels (λ x. x) (stmt_sound labels formed) xs)

  flat_sound : IsWellFormed l → IsValid f → Fits l f → AllSound l f (flat_of f)
  unfolding flat_of
  flat_sound formed valid fits =
      let body = pieces_of (returns_by f.callees) f.body in
      all_sound valid.next.label formed f.body false false 256 valid.body fits.body
      (found_in (all_labels body 0) (spans body)) (spans body) 0

  firsts : (xs : List Flat) → AllSound l f xs → AllByRecursion (MayStep (widths_in f)) xs
  firsts [] h = tt
  firsts (x ∷ xs) h = (h.0.0, firsts xs h.1)

  seconds : (xs : List Flat)
      → AllSound l f xs
      → AllByRecursion (StepFits l (widths_in f)) xs
  seconds [] h = tt
  seconds (x ∷ xs) h = (h.0.1, seconds xs h.1)

  pub flat_may : IsWellFormed l
      → IsValid f
      → Fits l f
      → AllByRecursion (MayStep (widths_in f)) (flat_of f)
  flat_may formed valid fits = firsts (flat_of f) (flat_sound formed valid fits)

  pub flat_fits : IsWellFormed l
      → IsValid f
      → Fits l f
      → AllByRecursion (StepFits l (widths_in f)) (flat_of f)
  flat_fits formed valid fits = seconds (flat_of f) (flat_sound formed valid fits)
