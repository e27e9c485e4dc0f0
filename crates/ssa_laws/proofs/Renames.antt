-- The statement of an op whose inputs are other values, and an exit over another value: the same with other variables.
-- What they do is equal where the other values hold the same.
use Rattle.std.proofs.Common.{◌≡◌, ℕ, suc, ◌<◌, Bool, true, false, List, [], ◌∷◌, map, Option, Some, None, refl, sym, ap, ◌∙◌, slice_get, arith, true≢false}
use Rattle.std.specs.Prelude.{◌==◌, cond}
use Rattle.node_lists.proofs.Chains.{eqb_is}
use Rattle.bits_core.specs.declared.word.Width.{Width}
use Rattle.pcode_model.specs.declared.listing.Listing.{Listing}
use Rattle.cmeaning.specs.declared.tree.Expr.{Expr}
use Rattle.cmeaning.specs.declared.tree.Expr.TheVariants as E
use Rattle.cmeaning.specs.declared.tree.Arm.{Arm}
use Rattle.cmeaning.specs.declared.tree.Stmt.{Stmt, out-Stmt, roll-Stmt}
use Rattle.cmeaning.specs.declared.tree.Stmt.TheVariants as S
use Rattle.cmeaning.specs.declared.tree.Stmt.TheViews.{out-roll-Stmt}
use Rattle.cmeaning.specs.declared.tree.Stmt.TheOpen.{Stmt-F}
use Rattle.cmeaning.specs.Value.{value_of}
use Rattle.cmeaning.specs.Do.{Local, values_of, do_simple}
use Rattle.cmeaning.proofs.Value.{value_of_var, width_of_var}
use Rattle.blockcode.specs.declared.code.Exit.{Exit}
use Rattle.blockcode.specs.declared.code.Exit.TheVariants as C
use Rattle.blockcode.specs.Run.{call_returns}
use Rattle.parts.specs.Exprs.{Env, One, Two, one, two, reads, reads_all, with_all, with_each, named, seen_through, both, all_of, widths_of}
use Rattle.parts.specs.Exprs as node
use Rattle.parts.specs.Stmts.{target_of, args_of, map_target, layer_changed, with_args, performed, act, done_with}
use Rattle.parts.proofs.Nodes.{with_const, with_var, with_one, with_two}
use Rattle.parts.proofs.Values.{value_unread, values_with, widths_with}
use Rattle.parts.proofs.Parts.{do_by_parts, changed_is}
use Rattle.edges.specs.Exits.{exit_with}
use Rattle.ssa_model.specs.declared.form.Arm.{Arm as Case}
use Rattle.ssa_model.specs.declared.form.SsaExit.{SsaExit}
use Rattle.ssa_model.specs.declared.form.SsaExit.TheVariants as X
use Rattle.ssa_model.specs.Roles.{Role, Constant, Starts, Joins, Copies, Unary, Arithmetic, Shifts, Compares, Signed, Extends, Piece, Part, Overflow, Count, Divides, Loads, Stores, Calls, CallsInd, CallsOther, Extra, Tests, Switches, Returns}
use Rattle.ssa_model.specs.Outline.{bytes_of}
use Rattle.ssa_model.specs.Lines.{said, target, word_in, line_by, exit_over, beside, or_else}
use Rattle.ssa_model.specs.Formed.{fits}
use Rattle.ssa_laws.proofs.Leaving.{IsRead}

unfit : {P : Type 0} → false ≡ true → P
unfit e = absurd (true≢false (sym e))

map_target_own : (x : ℕ) (w : Option Width) → map_target (λ v. v) (target x w) ≡ target x w
map_target_own x None = refl
map_target_own x (Some w) = refl

-- ---- statements

module _ (g : ℕ → ℕ) where
  abbrev f : ℕ → Expr
  f = named g

  with_vars : (vs : List ℕ) → with_each f (map E.Var vs) ≡ map E.Var (map g vs)
  with_vars [] = refl
  with_vars (v ∷ vs) = λ i. with_var f v i ∷ with_vars vs i

  one_with : (k : One) (v : ℕ) → with_all f (one k (E.Var v)) ≡ one k (E.Var (g v))
  one_with k v = with_one f k (E.Var v) ∙ ap (one k) (with_var f v)

  two_with : (k : Two) (u v : ℕ) → with_all f (two k (E.Var u) (E.Var v)) ≡ two k (E.Var (g u)) (E.Var (g v))
  two_with k u v = with_two f k (E.Var u) (E.Var v) ∙ (λ i. two k (with_var f u i) (with_var f v i))

  -- by the statement's layer
  changed_as : (a b : Stmt) (y : Stmt-F Stmt Arm)
      → roll-Stmt y ≡ a
      → layer_changed (λ v. v) f a y ≡ b
      → with_args f a ≡ b
  changed_as a b y rolls is =
      ap (layer_changed (λ v. v) f a) (ap out-Stmt (sym rolls) ∙ out-roll-Stmt y) ∙ is

  assigned : (x : ℕ) (e d : Expr) → with_all f e ≡ d → with_args f (S.Assign x e) ≡ S.Assign x d
  assigned x e d is =
      changed_as (S.Assign x e) (S.Assign x d) (Stmt-F.Assign x e) (S.rolls-Assign x e) (ap (S.Assign x) is)

  module _ (l : Listing) (x : ℕ) (ws : ℕ → ℕ) where
    -- the op's statement with its inputs under g is its statement under g
    abbrev IsUnder : List ℕ → Role → Option Width → Type 0
    IsUnder vs role w = line_by l x (map g vs) role w ≡ map (with_args f) (line_by l x vs role w)

    one_under : (a b : Stmt) → with_args f a ≡ b → b ∷ [] ≡ map (with_args f) (a ∷ [])
    one_under a b is = ap (λ z. z ∷ []) (sym is)

    two_line : (u v : ℕ) (vs : List ℕ) (role : Role) (w : Width) (k : Two)
        → line_by l x (u ∷ v ∷ vs) role (Some w) ≡ S.Assign x (two k (E.Var u) (E.Var v)) ∷ []
        → line_by l x (g u ∷ g v ∷ map g vs) role (Some w) ≡ S.Assign x (two k (E.Var (g u)) (E.Var (g v))) ∷ []
        → IsUnder (u ∷ v ∷ vs) role (Some w)
    two_line u v vs role w k is is' =
        is'
        ∙ one_under (S.Assign x (two k (E.Var u) (E.Var v))) (S.Assign x (two k (E.Var (g u)) (E.Var (g v))))
        (assigned x (two k (E.Var u) (E.Var v)) (two k (E.Var (g u)) (E.Var (g v))) (two_with k u v))
        ∙ ap (map (with_args f)) (sym is)

    pub line_under : (vs : List ℕ) (role : Role) (w : Option Width)
        → fits role (bytes_of w) (map ws vs) ≡ true
        → IsUnder vs role w
    line_under vs (Constant n) None h = refl
    line_under vs (Constant n) (Some w) h =
        one_under (S.Assign x (E.Const (word_in w n))) (S.Assign x (E.Const (word_in w n)))
        (assigned x (E.Const (word_in w n)) (E.Const (word_in w n)) (with_const f (word_in w n)))
    line_under vs (Starts s) w h = refl
    line_under vs (Joins atom) w h = refl
    line_under vs Copies None h = refl
    line_under [] Copies (Some w) h = unfit h
    line_under (v ∷ vs) Copies (Some w) h =
        one_under (S.Assign x (E.Var v)) (S.Assign x (E.Var (g v))) (assigned x (E.Var v) (E.Var (g v)) (with_var f v))
    line_under vs (Unary op) None h = refl
    line_under [] (Unary op) (Some w) h = unfit h
    line_under (v ∷ vs) (Unary op) (Some w) h =
        one_under (S.Assign x (E.Unary op (E.Var v))) (S.Assign x (E.Unary op (E.Var (g v))))
        (assigned x (E.Unary op (E.Var v)) (E.Unary op (E.Var (g v))) (one_with (node.Unary op) v))
    line_under vs (Arithmetic op) None h = refl
    line_under [] (Arithmetic op) (Some w) h = unfit h
    line_under (u ∷ []) (Arithmetic op) (Some w) h = unfit h
    line_under (u ∷ v ∷ vs) (Arithmetic op) (Some w) h =
        two_line u v vs (Arithmetic op) w (node.Arithmetic op) refl refl
    line_under vs (Shifts op) None h = refl
    line_under [] (Shifts op) (Some w) h = unfit h
    line_under (u ∷ []) (Shifts op) (Some w) h = unfit h
    line_under (u ∷ v ∷ vs) (Shifts op) (Some w) h = two_line u v vs (Shifts op) w (node.Shift op) refl refl
    line_under vs (Compares op) None h = refl
    line_under [] (Compares op) (Some w) h = unfit h
    line_under (u ∷ []) (Compares op) (Some w) h = unfit h
    line_under (u ∷ v ∷ vs) (Compares op) (Some w) h = two_line u v vs (Compares op) w (node.Compare op) refl refl
    line_under vs (Signed op) None h = refl
    line_under [] (Signed op) (Some w) h = unfit h
    line_under (u ∷ []) (Signed op) (Some w) h = unfit h
    line_under (u ∷ v ∷ vs) (Signed op) (Some w) h = two_line u v vs (Signed op) w (node.SignedCompare op) refl refl
    line_under vs (Extends op) None h = refl
    line_under [] (Extends op) (Some w) h = unfit h
    line_under (v ∷ vs) (Extends op) (Some w) h =
        one_under (S.Assign x (E.Extend op w (E.Var v))) (S.Assign x (E.Extend op w (E.Var (g v))))
        (assigned x (E.Extend op w (E.Var v)) (E.Extend op w (E.Var (g v))) (one_with (node.Extend op w) v))
    line_under vs Piece None h = refl
    line_under [] Piece (Some w) h = unfit h
    line_under (u ∷ []) Piece (Some w) h = unfit h
    line_under (u ∷ v ∷ vs) Piece (Some w) h = two_line u v vs Piece w node.Concat refl refl
    line_under vs (Part dropped) None h = refl
    line_under [] (Part dropped) (Some w) h = unfit h
    line_under (v ∷ vs) (Part dropped) (Some w) h =
        one_under (S.Assign x (E.Part dropped w (E.Var v))) (S.Assign x (E.Part dropped w (E.Var (g v))))
        (assigned x (E.Part dropped w (E.Var v)) (E.Part dropped w (E.Var (g v))) (one_with (node.Part dropped w) v))
    line_under vs (Overflow op) None h = refl
    line_under [] (Overflow op) (Some w) h = unfit h
    line_under (u ∷ []) (Overflow op) (Some w) h = unfit h
    line_under (u ∷ v ∷ vs) (Overflow op) (Some w) h = two_line u v vs (Overflow op) w (node.Overflow op) refl refl
    line_under vs (Count op) None h = refl
    line_under [] (Count op) (Some w) h = unfit h
    line_under (v ∷ vs) (Count op) (Some w) h =
        one_under (S.Assign x (E.Count op (E.Var v))) (S.Assign x (E.Count op (E.Var (g v))))
        (assigned x (E.Count op (E.Var v)) (E.Count op (E.Var (g v))) (one_with (node.Count op) v))
    line_under vs (Divides op) None h = refl
    line_under [] (Divides op) (Some w) h = unfit h
    line_under (u ∷ []) (Divides op) (Some w) h = unfit h
    line_under (u ∷ v ∷ vs) (Divides op) (Some w) h =
        let a = S.Divide x op (E.Var u) (E.Var v) in
        let b = S.Divide x op (E.Var (g u)) (E.Var (g v)) in
        one_under a b
        (changed_as a b (Stmt-F.Divide x op (E.Var u) (E.Var v)) (S.rolls-Divide x op (E.Var u) (E.Var v))
        (λ i. S.Divide x op (with_var f u i) (with_var f v i)))
    line_under vs (Loads space) None h = refl
    line_under [] (Loads space) (Some w) h = unfit h
    line_under (v ∷ vs) (Loads space) (Some w) h =
        let a = S.Load x (said l space) (E.Var v) in
        let b = S.Load x (said l space) (E.Var (g v)) in
        one_under a b
        (changed_as a b (Stmt-F.Load x (said l space) (E.Var v)) (S.rolls-Load x (said l space) (E.Var v))
        (ap (S.Load x (said l space)) (with_var f v)))
    line_under [] (Stores space) w h = unfit h
    line_under (u ∷ []) (Stores space) w h = unfit h
    line_under (u ∷ v ∷ vs) (Stores space) w h =
        let a = S.Store (said l space) (E.Var u) (E.Var v) in
        let b = S.Store (said l space) (E.Var (g u)) (E.Var (g v)) in
        one_under a b
        (changed_as a b (Stmt-F.Store (said l space) (E.Var u) (E.Var v))
        (S.rolls-Store (said l space) (E.Var u) (E.Var v))
        (λ i. S.Store (said l space) (with_var f u i) (with_var f v i)))
    line_under vs (Calls callee) w h =
        let a = S.Call (target x w) callee (map E.Var vs) in
        let b = S.Call (target x w) callee (map E.Var (map g vs)) in
        one_under a b
        (changed_as a b (Stmt-F.Call (target x w) callee (map E.Var vs))
        (S.rolls-Call (target x w) callee (map E.Var vs))
        (λ i. S.Call (map_target_own x w i) callee (with_vars vs i)))
    line_under [] CallsInd w h = unfit h
    line_under (v ∷ vs) CallsInd w h =
        let a = S.CallInd (target x w) (E.Var v) (map E.Var vs) in
        let b = S.CallInd (target x w) (E.Var (g v)) (map E.Var (map g vs)) in
        one_under a b
        (changed_as a b (Stmt-F.CallInd (target x w) (E.Var v) (map E.Var vs))
        (S.rolls-CallInd (target x w) (E.Var v) (map E.Var vs))
        (λ i. S.CallInd (map_target_own x w i) (with_var f v i) (with_vars vs i)))
    line_under vs (CallsOther index) w h =
        let a = S.Other (target x w) index (map E.Var vs) in
        let b = S.Other (target x w) index (map E.Var (map g vs)) in
        one_under a b
        (changed_as a b (Stmt-F.Other (target x w) index (map E.Var vs))
        (S.rolls-Other (target x w) index (map E.Var vs))
        (λ i. S.Other (map_target_own x w i) index (with_vars vs i)))
    line_under vs (Extra offset) None h = refl
    line_under vs (Extra offset) (Some w) h =
        one_under (S.Extra x offset) (S.Extra x offset)
        (changed_as (S.Extra x offset) (S.Extra x offset) (Stmt-F.Extra x offset) (S.rolls-Extra x offset) refl)
    line_under vs Tests w h = refl
    line_under vs Switches w h = refl
    line_under vs Returns w h = refl

  -- ---- exits

  pub exit_under : (e : SsaExit) (vs : List ℕ) → IsRead e vs → exit_over e (map g vs) ≡ exit_with f (exit_over e vs)
  exit_under X.Return [] h = refl
  exit_under X.Return (v ∷ vs) h = ap (λ z. C.Return (Some z)) (sym (with_var f v))
  exit_under (X.Jump to) vs h = refl
  exit_under (X.Test taken other) [] h = absurd (h refl)
  exit_under (X.Test taken other) (v ∷ vs) h = ap (λ z. C.Test z taken.0 other.0) (sym (with_var f v))
  exit_under (X.Switch arms) [] h = absurd (h refl)
  exit_under (X.Switch arms) (v ∷ vs) h =
      ap (λ z. C.Switch z (map (λ (a : Case). record { value = a.value; to = a.to.0 }) arms)) (sym (with_var f v))
  exit_under X.Stop vs h = refl

  returns_under : (cs : List Stmt) (e : Exit) → call_returns cs (exit_with f e) ≡ call_returns cs e
  returns_under [] (C.Return None) = refl
  returns_under [] (C.Return (Some a)) = refl
  returns_under [] (C.Jump b) = refl
  returns_under [] (C.Test a b c) = refl
  returns_under [] (C.Switch a arms) = refl
  returns_under [] C.Stop = refl
  returns_under (c ∷ cs) e = refl

  -- statements one by one under g return as they did
  pub calls_under : (cs : List Stmt) (e : Exit)
      → call_returns (map (with_args f) cs) (exit_with f e) ≡ call_returns cs e
  calls_under [] e = returns_under [] e
  calls_under (c ∷ cs) e = refl

  -- ---- what is done, where what is read holds the same under g

  module _ (ws : ℕ → ℕ) (env : Env) where
    -- each variable that is read has its width and holds the same
    abbrev pub AreSame : (ℕ → ℕ) → Type 0
    AreSame count = (v : ℕ) → 0 < count v → (ws (g v) ≡ ws v) × (env (g v) ≡ env v)

    values_unread : (s : Env) (es : List Expr)
        → ((v : ℕ) → 0 < reads_all es v → s v ≡ env v)
        → all_of (values_of ws s es) ≡ all_of (values_of ws env es)
    values_unread s [] h = refl
    values_unread s (e ∷ es) h =
        ap (λ o. both o (all_of (values_of ws s es))) (value_unread ws s env e (λ v r. h v (omega (arith, r))))
        ∙ ap (both (value_of ws env e)) (values_unread s es (λ v r. h v (omega (arith, r))))

    pub values_under : (es : List Expr)
        → AreSame (reads_all es)
        → all_of (values_of ws env (with_each f es)) ≡ all_of (values_of ws env es)
    values_under es h =
        values_with ws ws f env es (λ v r. width_of_var ws (g v) ∙ (h v r).0)
        ∙ values_unread (seen_through ws f env) es (λ v r. value_of_var ws env (g v) ∙ (h v r).1)

  pub does_under : (l : Listing) (ws : ℕ → ℕ) (returns : ℕ → Bool) (a : Stmt) (y : Local)
      → AreSame ws y.env (reads_all (args_of a))
      → do_simple l ws returns (with_args f a) y ≡ do_simple l ws returns a y
  does_under l ws returns a y h =
      let b = with_args f a in
      let is = changed_is (λ v. v) f a in
      let values : all_of (values_of ws y.env (args_of b)) ≡ all_of (values_of ws y.env (args_of a)) =
      ap (λ es. all_of (values_of ws y.env es)) is.args ∙ values_under ws y.env (args_of a) h in
      let widths : widths_of ws (args_of b) ≡ widths_of ws (args_of a) =
      ap (widths_of ws) is.args ∙ widths_with ws ws f (args_of a) (λ v r. width_of_var ws (g v) ∙ (h v r).0) in
      do_by_parts l ws returns b y
      ∙ (λ i. done_with (values i) y (λ ns. performed ws ((is.target ∙ target_kept (target_of a)) i)
      (act l returns (is.action i) (widths i) ns y.left y.world) y))
      ∙ sym (do_by_parts l ws returns a y)
    where
      target_kept : (o : Option ℕ) → map_target (λ v. v) o ≡ o
      target_kept None = refl
      target_kept (Some v) = refl

-- ---- edges

-- what is beside a number stands where the number does
pub beside_under : (g : ℕ → ℕ) (env : Env) (from v : ℕ) (bs vs : List ℕ)
    → ((k u : ℕ) → slice_get bs k ≡ Some from → slice_get vs k ≡ Some u → env (g u) ≡ env u)
    → env (or_else (beside from bs (map g vs)) v) ≡ env (or_else (beside from bs vs) v)
beside_under g env from v [] vs h = refl
beside_under g env from v (b ∷ bs) [] h = refl
beside_under g env from v (b ∷ bs) (u ∷ vs) h =
    by (b == from) refl (beside_under g env from v bs vs (λ k z is at. h (suc k) z is at))
  where
    by : (t : Bool)
        → (b == from) ≡ t
        → env (or_else (beside from bs (map g vs)) v) ≡ env (or_else (beside from bs vs) v)
        → env (or_else (cond t (Some (g u)) (beside from bs (map g vs))) v)
        ≡ env (or_else (cond t (Some u) (beside from bs vs)) v)
    by true is next = h 0 u (ap Some (eqb_is b from is)) refl
    by false is next = next
