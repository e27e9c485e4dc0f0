-- The statement of an op: at most one, whose target is the op's value and which reads its inputs.
use Rattle.std.proofs.Common.{◌≡◌, ℕ, zero, suc, ◌<◌, Bool, true, false, List, [], ◌∷◌, ◌++◌, ◌⊎◌, inl, inr, map, Option, Some, None, refl, sym, ap, ◌∙◌, arith, true≢false}
use Rattle.std.specs.Prelude.{◌==◌, ◌&&◌}
use Rattle.std.proofs.lemmas.Bool.{cases_eq}
use Rattle.bits_core.specs.declared.word.Width.{Width}
use Rattle.pcode_model.specs.declared.listing.Listing.{Listing}
use Rattle.pcode_model.specs.declared.storage.ParamStorage.{ParamStorage}
use Rattle.cmeaning.specs.declared.tree.Expr.{Expr}
use Rattle.cmeaning.specs.declared.tree.Expr.TheVariants as E
use Rattle.cmeaning.specs.declared.tree.Arm.{Arm}
use Rattle.cmeaning.specs.declared.tree.Stmt.{Stmt, out-Stmt, roll-Stmt}
use Rattle.cmeaning.specs.declared.tree.Stmt.TheVariants as S
use Rattle.cmeaning.specs.declared.tree.Stmt.TheViews.{out-roll-Stmt}
use Rattle.cmeaning.specs.declared.tree.Stmt.TheOpen.{Stmt-F}
use Rattle.node_lists.specs.Chains.{IsIn}
use Rattle.node_lists.proofs.Chains.{in_left, in_right}
use Rattle.parts.specs.Exprs.{One, Two, one, two, variables, times, reads, reads_all}
use Rattle.parts.specs.Exprs as node
use Rattle.parts.specs.Stmts.{layer_action, layer_target, layer_args, action_of, target_of, args_of}
use Rattle.parts.proofs.Nodes.{variables_const, variables_var, variables_one, variables_two}
use Rattle.ssa_model.specs.Roles.{Role, Constant, Starts, Joins, Copies, Unary, Arithmetic, Shifts, Compares, Signed, Extends, Piece, Part, Overflow, Count, Divides, Loads, Stores, Calls, CallsInd, CallsOther, Extra, Tests, Switches, Returns}
use Rattle.ssa_model.specs.Outline.{bytes_of}
use Rattle.ssa_model.specs.Paths.{IsJoin}
use Rattle.ssa_model.specs.Lines.{said, target, word_in, line_by}
use Rattle.ssa_model.specs.Formed.{fits}
use Rattle.ssa_laws.specs.Law.{computes}

pub both_hold : (b c : Bool) → (b && c) ≡ true → (b ≡ true) × (c ≡ true)
both_hold true true h = (refl, refl)
both_hold true false h = absurd (true≢false (sym h))
both_hold false c h = absurd (true≢false (sym h))

-- ---- what is read

times_in : (v : ℕ) (xs : List ℕ) → 0 < times v xs → IsIn v xs
times_in v [] h = absurd (omega (arith, h))
times_in v (x ∷ xs) h = by_case (cases_eq v x) (times_in v xs)
  where
    by_case : (v ≡ x) ⊎ (v ≡ x → ⊥) → (0 < times v xs → IsIn v xs) → IsIn v (x ∷ xs)
    by_case (inl e) next = inl e
    by_case (inr n) next = inr (next (grind (arith, h, n)))

-- each read of some expressions
abbrev pub read_by : List Expr → List ℕ
read_by [] = []
read_by (e ∷ es) = variables e ++ read_by es

pub reads_in : (es : List Expr) (v : ℕ) → 0 < reads_all es v → IsIn v (read_by es)
unfolding reads
reads_in [] v h = absurd (omega (arith, h))
reads_in (e ∷ es) v h = by_case (times v (variables e)) refl (reads_in es v)
  where
    by_case : (n : ℕ) → times v (variables e) ≡ n → (0 < reads_all es v → IsIn v (read_by es)) → IsIn v (variables e ++ read_by es)
    by_case zero is next = in_right v (variables e) (read_by es) (next (omega (arith, h, is)))
    by_case (suc n) is next = in_left v (variables e) (read_by es) (times_in v (variables e) (omega (arith, is)))

none_more : (xs : List ℕ) → xs ++ [] ≡ xs
none_more [] = refl
none_more (x ∷ xs) = ap (λ ys. x ∷ ys) (none_more xs)

read_vars : (vs : List ℕ) → read_by (map E.Var vs) ≡ vs
read_vars [] = refl
read_vars (v ∷ vs) = (λ i. variables_var v i ++ read_vars vs i)

reads_one : (k : One) (v : ℕ) → variables (one k (E.Var v)) ≡ v ∷ []
reads_one k v = variables_one k (E.Var v) ∙ variables_var v

reads_two : (k : Two) (a b : ℕ) → variables (two k (E.Var a) (E.Var b)) ≡ a ∷ b ∷ []
reads_two k a b = variables_two k (E.Var a) (E.Var b) ∙ (λ i. variables_var a i ++ variables_var b i)

read_first : (e : Expr) (vs : List ℕ) → variables e ≡ vs → read_by (e ∷ []) ≡ vs
read_first e vs is = none_more (variables e) ∙ is

read_both : (a b : ℕ) → read_by (E.Var a ∷ E.Var b ∷ []) ≡ a ∷ b ∷ []
read_both a b = read_vars (a ∷ b ∷ [])

-- ---- the statement

-- an entry value or a MULTIEQUAL
abbrev pub IsGiven : Role → Type 0
IsGiven role = IsJoin role ⊎ ((s : ParamStorage) × (role ≡ Starts s))

pub data IsLine (l : Listing) (x : ℕ) (vs : List ℕ) (role : Role) (w : Option Width) : Type 0 where
  NoLine : line_by l x vs role w ≡ [] → (0 < bytes_of w → IsGiven role) → IsLine l x vs role w
  OneLine : (a : Stmt)
      → line_by l x vs role w ≡ a ∷ []
      → target_of a ≡ target x w
      → read_by (args_of a) ≡ vs
      → (computes (action_of a) ≡ true → 0 < bytes_of w)
      → IsLine l x vs role w

nothing : 0 < 0 → ⊥
nothing h = omega (arith, h)

module _ (l : Listing) (x : ℕ) where
  -- by the statement, and its layer
  line : (vs : List ℕ) (role : Role) (w : Option Width) (a : Stmt) (y : Stmt-F Stmt Arm)
      → roll-Stmt y ≡ a
      → line_by l x vs role w ≡ a ∷ []
      → layer_target y ≡ target x w
      → read_by (layer_args y) ≡ vs
      → (computes (layer_action y) ≡ true → 0 < bytes_of w)
      → IsLine l x vs role w
  line vs role w a y rolls is t r c =
      let out : out-Stmt a ≡ y = ap out-Stmt (sym rolls) ∙ out-roll-Stmt y in
      OneLine a is (ap layer_target out ∙ t) (ap (λ z. read_by (layer_args z)) out ∙ r)
      (λ h. c (ap (λ z. computes (layer_action z)) (sym out) ∙ h))

  assigns : (vs : List ℕ) (role : Role) (w : Width) (e : Expr)
      → line_by l x vs role (Some w) ≡ S.Assign x e ∷ []
      → variables e ≡ vs
      → IsLine l x vs role (Some w)
  assigns vs role w e is r =
      line vs role (Some w) (S.Assign x e) (Stmt-F.Assign x e) (S.rolls-Assign x e) is refl (read_first e vs r)
      (λ h. w.from)

  no_value : (vs : List ℕ) (role : Role) → line_by l x vs role None ≡ [] → IsLine l x vs role None
  no_value vs role is = NoLine is (λ h. absurd (nothing h))

  unfit : {P : Type 0} → false ≡ true → P
  unfit e = absurd (true≢false (sym e))

  not_zero : (w : Width) {P : Type 0} → (w.bytes == 0) ≡ true → P
  not_zero w e = absurd (grind (arith, w.from, e))

  -- each op that has the inputs and the widths that its role asks
  pub line_is : (ws : ℕ → ℕ) (vs : List ℕ) (role : Role) (w : Option Width)
      → fits role (bytes_of w) (map ws vs) ≡ true
      → IsLine l x vs role w
  line_is ws vs (Constant n) None e = no_value vs (Constant n) refl
  line_is ws [] (Constant n) (Some w) e = assigns [] (Constant n) w (E.Const (word_in w n)) refl (variables_const (word_in w n))
  line_is ws (v ∷ vs) (Constant n) (Some w) e = unfit e
  line_is ws vs (Starts s) w e = NoLine refl (λ h. inr (s, refl))
  line_is ws vs (Joins atom) w e = NoLine refl (λ h. inl tt)
  line_is ws vs Copies None e = no_value vs Copies refl
  line_is ws [] Copies (Some w) e = unfit e
  line_is ws (v ∷ []) Copies (Some w) e = assigns (v ∷ []) Copies w (E.Var v) refl (variables_var v)
  line_is ws (v ∷ u ∷ vs) Copies (Some w) e = unfit e
  line_is ws vs (Unary op) None e = no_value vs (Unary op) refl
  line_is ws [] (Unary op) (Some w) e = unfit e
  line_is ws (v ∷ []) (Unary op) (Some w) e =
      assigns (v ∷ []) (Unary op) w (E.Unary op (E.Var v)) refl (reads_one (node.Unary op) v)
  line_is ws (v ∷ u ∷ vs) (Unary op) (Some w) e = unfit e
  line_is ws vs (Arithmetic op) None e = no_value vs (Arithmetic op) refl
  line_is ws [] (Arithmetic op) (Some w) e = unfit e
  line_is ws (a ∷ []) (Arithmetic op) (Some w) e = unfit e
  line_is ws (a ∷ b ∷ []) (Arithmetic op) (Some w) e =
      assigns (a ∷ b ∷ []) (Arithmetic op) w (E.Arithmetic op (E.Var a) (E.Var b)) refl
      (reads_two (node.Arithmetic op) a b)
  line_is ws (a ∷ b ∷ c ∷ vs) (Arithmetic op) (Some w) e = unfit e
  line_is ws vs (Shifts op) None e = no_value vs (Shifts op) refl
  line_is ws [] (Shifts op) (Some w) e = unfit e
  line_is ws (a ∷ []) (Shifts op) (Some w) e = unfit e
  line_is ws (a ∷ b ∷ []) (Shifts op) (Some w) e =
      assigns (a ∷ b ∷ []) (Shifts op) w (E.Shift op (E.Var a) (E.Var b)) refl (reads_two (node.Shift op) a b)
  line_is ws (a ∷ b ∷ c ∷ vs) (Shifts op) (Some w) e = unfit e
  line_is ws vs (Compares op) None e = no_value vs (Compares op) refl
  line_is ws [] (Compares op) (Some w) e = unfit e
  line_is ws (a ∷ []) (Compares op) (Some w) e = unfit e
  line_is ws (a ∷ b ∷ []) (Compares op) (Some w) e =
      assigns (a ∷ b ∷ []) (Compares op) w (E.Compare op (E.Var a) (E.Var b)) refl (reads_two (node.Compare op) a b)
  line_is ws (a ∷ b ∷ c ∷ vs) (Compares op) (Some w) e = unfit e
  line_is ws vs (Signed op) None e = no_value vs (Signed op) refl
  line_is ws [] (Signed op) (Some w) e = unfit e
  line_is ws (a ∷ []) (Signed op) (Some w) e = unfit e
  line_is ws (a ∷ b ∷ []) (Signed op) (Some w) e =
      assigns (a ∷ b ∷ []) (Signed op) w (E.SignedCompare op (E.Var a) (E.Var b)) refl
      (reads_two (node.SignedCompare op) a b)
  line_is ws (a ∷ b ∷ c ∷ vs) (Signed op) (Some w) e = unfit e
  line_is ws vs (Extends op) None e = no_value vs (Extends op) refl
  line_is ws [] (Extends op) (Some w) e = unfit e
  line_is ws (v ∷ []) (Extends op) (Some w) e =
      assigns (v ∷ []) (Extends op) w (E.Extend op w (E.Var v)) refl (reads_one (node.Extend op w) v)
  line_is ws (v ∷ u ∷ vs) (Extends op) (Some w) e = unfit e
  line_is ws vs Piece None e = no_value vs Piece refl
  line_is ws [] Piece (Some w) e = unfit e
  line_is ws (a ∷ []) Piece (Some w) e = unfit e
  line_is ws (a ∷ b ∷ []) Piece (Some w) e =
      assigns (a ∷ b ∷ []) Piece w (E.Concat (E.Var a) (E.Var b)) refl (reads_two node.Concat a b)
  line_is ws (a ∷ b ∷ c ∷ vs) Piece (Some w) e = unfit e
  line_is ws vs (Part dropped) None e = no_value vs (Part dropped) refl
  line_is ws [] (Part dropped) (Some w) e = unfit e
  line_is ws (v ∷ []) (Part dropped) (Some w) e =
      assigns (v ∷ []) (Part dropped) w (E.Part dropped w (E.Var v)) refl (reads_one (node.Part dropped w) v)
  line_is ws (v ∷ u ∷ vs) (Part dropped) (Some w) e = unfit e
  line_is ws vs (Overflow op) None e = no_value vs (Overflow op) refl
  line_is ws [] (Overflow op) (Some w) e = unfit e
  line_is ws (a ∷ []) (Overflow op) (Some w) e = unfit e
  line_is ws (a ∷ b ∷ []) (Overflow op) (Some w) e =
      assigns (a ∷ b ∷ []) (Overflow op) w (E.Overflow op (E.Var a) (E.Var b)) refl (reads_two (node.Overflow op) a b)
  line_is ws (a ∷ b ∷ c ∷ vs) (Overflow op) (Some w) e = unfit e
  line_is ws vs (Count op) None e = no_value vs (Count op) refl
  line_is ws [] (Count op) (Some w) e = unfit e
  line_is ws (v ∷ []) (Count op) (Some w) e =
      assigns (v ∷ []) (Count op) w (E.Count op (E.Var v)) refl (reads_one (node.Count op) v)
  line_is ws (v ∷ u ∷ vs) (Count op) (Some w) e = unfit e
  line_is ws vs (Divides op) None e = no_value vs (Divides op) refl
  line_is ws [] (Divides op) (Some w) e = unfit e
  line_is ws (a ∷ []) (Divides op) (Some w) e = unfit e
  line_is ws (a ∷ b ∷ []) (Divides op) (Some w) e =
      line (a ∷ b ∷ []) (Divides op) (Some w) (S.Divide x op (E.Var a) (E.Var b))
      (Stmt-F.Divide x op (E.Var a) (E.Var b)) (S.rolls-Divide x op (E.Var a) (E.Var b)) refl refl (read_both a b)
      (λ h. w.from)
  line_is ws (a ∷ b ∷ c ∷ vs) (Divides op) (Some w) e = unfit e
  line_is ws vs (Loads space) None e = no_value vs (Loads space) refl
  line_is ws [] (Loads space) (Some w) e = unfit e
  line_is ws (v ∷ []) (Loads space) (Some w) e =
      line (v ∷ []) (Loads space) (Some w) (S.Load x (said l space) (E.Var v))
      (Stmt-F.Load x (said l space) (E.Var v)) (S.rolls-Load x (said l space) (E.Var v)) refl refl
      (read_vars (v ∷ [])) (λ h. w.from)
  line_is ws (v ∷ u ∷ vs) (Loads space) (Some w) e = unfit e
  line_is ws [] (Stores space) w e = unfit e
  line_is ws (a ∷ []) (Stores space) w e = unfit e
  line_is ws (a ∷ b ∷ []) (Stores space) None e =
      line (a ∷ b ∷ []) (Stores space) None (S.Store (said l space) (E.Var a) (E.Var b))
      (Stmt-F.Store (said l space) (E.Var a) (E.Var b)) (S.rolls-Store (said l space) (E.Var a) (E.Var b)) refl refl
      (read_both a b) (λ h. unfit h)
  line_is ws (a ∷ b ∷ []) (Stores space) (Some w) e = not_zero w e
  line_is ws (a ∷ b ∷ c ∷ vs) (Stores space) w e = unfit e
  line_is ws vs (Calls callee) w e =
      line vs (Calls callee) w (S.Call (target x w) callee (map E.Var vs))
      (Stmt-F.Call (target x w) callee (map E.Var vs)) (S.rolls-Call (target x w) callee (map E.Var vs)) refl refl
      (read_vars vs) (λ h. unfit h)
  line_is ws [] CallsInd w e = unfit e
  line_is ws (v ∷ vs) CallsInd w e =
      line (v ∷ vs) CallsInd w (S.CallInd (target x w) (E.Var v) (map E.Var vs))
      (Stmt-F.CallInd (target x w) (E.Var v) (map E.Var vs))
      (S.rolls-CallInd (target x w) (E.Var v) (map E.Var vs)) refl refl (read_vars (v ∷ vs)) (λ h. unfit h)
  line_is ws vs (CallsOther index) w e =
      line vs (CallsOther index) w (S.Other (target x w) index (map E.Var vs))
      (Stmt-F.Other (target x w) index (map E.Var vs)) (S.rolls-Other (target x w) index (map E.Var vs)) refl refl
      (read_vars vs) (λ h. unfit h)
  line_is ws vs (Extra offset) None e = no_value vs (Extra offset) refl
  line_is ws [] (Extra offset) (Some w) e =
      line [] (Extra offset) (Some w) (S.Extra x offset) (Stmt-F.Extra x offset) (S.rolls-Extra x offset) refl refl refl
      (λ h. w.from)
  line_is ws (v ∷ vs) (Extra offset) (Some w) e = unfit e
  line_is ws vs Tests None e = no_value vs Tests refl
  line_is ws [] Tests (Some w) e = unfit e
  line_is ws (v ∷ []) Tests (Some w) e = not_zero w (both_hold (w.bytes == 0) (ws v == 1) e).0
  line_is ws (v ∷ u ∷ vs) Tests (Some w) e = unfit e
  line_is ws vs Switches None e = no_value vs Switches refl
  line_is ws [] Switches (Some w) e = unfit e
  line_is ws (v ∷ []) Switches (Some w) e = not_zero w e
  line_is ws (v ∷ u ∷ vs) Switches (Some w) e = unfit e
  line_is ws vs Returns None e = no_value vs Returns refl
  line_is ws [] Returns (Some w) e = not_zero w e
  line_is ws (v ∷ []) Returns (Some w) e = not_zero w e
  line_is ws (v ∷ u ∷ vs) Returns (Some w) e = unfit e
