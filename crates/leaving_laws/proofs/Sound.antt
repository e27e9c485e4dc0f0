-- The blocks of a function in SSA form are sound: simple statements, whose expressions have values wherever their
-- variables have, and a call before each exit Stop.
use Rattle.std.proofs.Common.{◌≡◌, ℕ, ◌<◌, true, List, [], ◌∷◌, ◌++◌, length, map, Option, Some, None, refl, sym, ap, ◌∙◌, subst}
use Rattle.std.specs.Prelude.{drop}
use Rattle.bits_core.specs.declared.word.Width.{Width}
use Rattle.bits_core.specs.declared.word.Word.{Word}
use Rattle.pcode_model.specs.declared.listing.Listing.{Listing}
use Rattle.pcode_model.specs.World.{Entry}
use Rattle.cmeaning.specs.declared.tree.Arm.{Arm}
use Rattle.cmeaning.specs.declared.tree.Expr.{Expr}
use Rattle.cmeaning.specs.declared.tree.Expr.TheVariants as E
use Rattle.cmeaning.specs.declared.tree.Stmt.{Stmt, out-Stmt, roll-Stmt}
use Rattle.cmeaning.specs.declared.tree.Stmt.TheVariants as S
use Rattle.cmeaning.specs.declared.tree.Stmt.TheViews.{out-roll-Stmt}
use Rattle.cmeaning.specs.declared.tree.Stmt.TheOpen.{Stmt-F}
use Rattle.cmeaning.specs.Value.{with_value, with_values, width_of}
use Rattle.cmeaning.proofs.Value.{value_of_const, value_of_var}
use Rattle.parts.specs.Exprs.{One, Two, one, two, one_value, two_value, IsTotal, AreTotal}
use Rattle.parts.specs.Exprs as node
use Rattle.parts.specs.Stmts.{layer_action, layer_args, is_simple}
use Rattle.parts.proofs.Nodes.{value_one, value_two}
use Rattle.parts.proofs.Values.{reads_self, in_one, in_left, in_right}
use Rattle.edges.specs.Exits.{exit_args}
use Rattle.edges.specs.Run.{Blocks, stmts_of, exit_of, stmts_at, exit_at}
use Rattle.edges.specs.Live.{AreSound, IsBlock, IsSound}
use Rattle.node_lists.specs.Chains.{last_or}
use Rattle.opgraph.specs.Graph.{OpRow, op_at, block_at, IsWhole}
use Rattle.ssa_model.specs.declared.form.SsaExit.{SsaExit}
use Rattle.ssa_model.specs.declared.form.SsaExit.TheVariants as X
use Rattle.ssa_model.specs.declared.form.Parts.{Parts}
use Rattle.ssa_model.specs.Roles.{Role, Constant, Starts, Joins, Copies, Unary, Arithmetic, Shifts, Compares, Signed, Extends, Piece, Part, Overflow, Count, Divides, Loads, Stores, Calls, CallsInd, CallsOther, Extra, Tests, Switches, Returns, role_of}
use Rattle.ssa_model.specs.Outline.{form, exit_in, block_with}
use Rattle.ssa_model.specs.Edits.{IsSsa}
use Rattle.ssa_model.specs.Lines.{said, target, input, line_of, line_by, body_of, exit_over, last_inputs, block_by}
use Rattle.ssa_model.specs.Run.{blocks_of}
use Rattle.ssa_laws.proofs.Runs.{exit_is, in_ids}
use Rattle.ssa_laws.proofs.Stopping.{stops_called}

-- ---- expressions over variables

module _ (ws : ℕ → ℕ) where
  total_const : (c : Word) → IsTotal ws (E.Const c)
  total_const c env h = (c.value, value_of_const ws env c)

  total_var : (v : ℕ) → IsTotal ws (E.Var v)
  total_var v env h = let r = h v (reads_self v) in (r.0, value_of_var ws env v ∙ r.1)

  one_has : (k : One) (w x : ℕ) → (n : ℕ) × (one_value k w x ≡ Some n)
  one_has (node.Unary op) w x = (_, refl)
  one_has (node.Extend op v) w x = (_, refl)
  one_has (node.Part dropped v) w x = (_, refl)
  one_has (node.Count op) w x = (_, refl)

  total_one : (k : One) (v : ℕ) → IsTotal ws (one k (E.Var v))
  total_one k v env h =
      let a = E.Var v in
      let r = total_var v env (λ y q. h y (in_one k a y q)) in
      let n = one_has k (width_of ws a) r.0 in
      (n.0, value_one ws env k a ∙ ap (λ o. with_value o (one_value k (width_of ws a))) r.1 ∙ n.1)

  -- nodes of two operands, but divisions
  abbrev NoDivision : Two → Type 0
  NoDivision k = (v w x y : ℕ) → (n : ℕ) × (two_value k v w x y ≡ Some n)

  total_two : (k : Two) → NoDivision k → (u v : ℕ) → IsTotal ws (two k (E.Var u) (E.Var v))
  total_two k has u v env h =
      let a = E.Var u in
      let b = E.Var v in
      let r = total_var u env (λ y q. h y (in_left k a b y q)) in
      let s = total_var v env (λ y q. h y (in_right k a b y q)) in
      let f = two_value k (width_of ws a) (width_of ws b) in
      let n = has (width_of ws a) (width_of ws b) r.0 s.0 in (
        n.0,
        value_two ws env k a b
            ∙ (λ i. with_values (r.1 i) (s.1 i) f)
            ∙ n.1,
      )

  total_vars : (vs : List ℕ) → AreTotal ws (map E.Var vs)
  total_vars [] = tt
  total_vars (v ∷ vs) = (total_var v, total_vars vs)

  -- ---- statements

  sound_stmt : (a : Stmt) (y : Stmt-F Stmt Arm)
      → roll-Stmt y ≡ a
      → is_simple (layer_action y) ≡ true
      → AreTotal ws (layer_args y)
      → AreSound ws (a ∷ [])
  sound_stmt a y rolls simple total =
      let out : out-Stmt a ≡ y = ap out-Stmt (sym rolls) ∙ out-roll-Stmt y in (
        ap (λ z. is_simple (layer_action z)) out ∙ simple,
        subst (λ z. AreTotal ws (layer_args z)) (sym out) total,
        tt,
      )

  sound_assign : (x : ℕ) (e : Expr) → IsTotal ws e → AreSound ws (S.Assign x e ∷ [])
  sound_assign x e total = sound_stmt (S.Assign x e) (Stmt-F.Assign x e) (S.rolls-Assign x e) refl (total, tt)

  -- the statement of an op
  line_sound : (l : Listing) (x : ℕ) (vs : List ℕ) (role : Role) (w : Option Width) → AreSound ws (line_by l x vs role w)
  line_sound l x vs (Constant n) None = tt
  line_sound l x vs (Constant n) (Some w) = sound_assign x (E.Const _) (total_const _)
  line_sound l x vs (Starts s) w = tt
  line_sound l x vs (Joins atom) w = tt
  line_sound l x vs Copies None = tt
  line_sound l x vs Copies (Some w) = sound_assign x (input vs 0) (total_var _)
  line_sound l x vs (Unary op) None = tt
  line_sound l x vs (Unary op) (Some w) = sound_assign x (E.Unary op (input vs 0)) (total_one (node.Unary op) _)
  line_sound l x vs (Arithmetic op) None = tt
  line_sound l x vs (Arithmetic op) (Some w) =
      sound_assign x (E.Arithmetic op (input vs 0) (input vs 1))
      (total_two (node.Arithmetic op) (λ v w x y. (_, refl)) _ _)
  line_sound l x vs (Shifts op) None = tt
  line_sound l x vs (Shifts op) (Some w) =
      sound_assign x (E.Shift op (input vs 0) (input vs 1)) (total_two (node.Shift op) (λ v w x y. (_, refl)) _ _)
  line_sound l x vs (Compares op) None = tt
  line_sound l x vs (Compares op) (Some w) =
      sound_assign x (E.Compare op (input vs 0) (input vs 1)) (total_two (node.Compare op) (λ v w x y. (_, refl)) _ _)
  line_sound l x vs (Signed op) None = tt
  line_sound l x vs (Signed op) (Some w) =
      sound_assign x (E.SignedCompare op (input vs 0) (input vs 1))
      (total_two (node.SignedCompare op) (λ v w x y. (_, refl)) _ _)
  line_sound l x vs (Extends op) None = tt
  line_sound l x vs (Extends op) (Some w) =
      sound_assign x (E.Extend op w (input vs 0)) (total_one (node.Extend op w) _)
  line_sound l x vs Piece None = tt
  line_sound l x vs Piece (Some w) =
      sound_assign x (E.Concat (input vs 0) (input vs 1)) (total_two node.Concat (λ v w x y. (_, refl)) _ _)
  line_sound l x vs (Part dropped) None = tt
  line_sound l x vs (Part dropped) (Some w) =
      sound_assign x (E.Part dropped w (input vs 0)) (total_one (node.Part dropped w) _)
  line_sound l x vs (Overflow op) None = tt
  line_sound l x vs (Overflow op) (Some w) =
      sound_assign x (E.Overflow op (input vs 0) (input vs 1)) (total_two (node.Overflow op) (λ v w x y. (_, refl)) _ _)
  line_sound l x vs (Count op) None = tt
  line_sound l x vs (Count op) (Some w) = sound_assign x (E.Count op (input vs 0)) (total_one (node.Count op) _)
  line_sound l x vs (Divides op) None = tt
  line_sound l x vs (Divides op) (Some w) =
      let a = input vs 0 in
      let b = input vs 1 in
      sound_stmt (S.Divide x op a b) (Stmt-F.Divide x op a b) (S.rolls-Divide x op a b) refl
      (total_var _, (total_var _, tt))
  line_sound l x vs (Loads space) None = tt
  line_sound l x vs (Loads space) (Some w) =
      let s = said l space in
      let a = input vs 0 in
      sound_stmt (S.Load x s a) (Stmt-F.Load x s a) (S.rolls-Load x s a) refl (total_var _, tt)
  line_sound l x vs (Stores space) w =
      let s = said l space in
      let a = input vs 0 in
      let b = input vs 1 in
      sound_stmt (S.Store s a b) (Stmt-F.Store s a b) (S.rolls-Store s a b) refl (total_var _, (total_var _, tt))
  line_sound l x vs (Calls callee) w =
      let t = target x w in
      let es = map E.Var vs in
      sound_stmt (S.Call t callee es) (Stmt-F.Call t callee es) (S.rolls-Call t callee es) refl (total_vars vs)
  line_sound l x vs CallsInd w =
      let t = target x w in
      let a = input vs 0 in
      let ws = drop 1 vs in
      let es = map E.Var ws in
      sound_stmt (S.CallInd t a es) (Stmt-F.CallInd t a es) (S.rolls-CallInd t a es) refl (total_var _, total_vars ws)
  line_sound l x vs (CallsOther index) w =
      let t = target x w in
      let es = map E.Var vs in
      sound_stmt (S.Other t index es) (Stmt-F.Other t index es) (S.rolls-Other t index es) refl (total_vars vs)
  line_sound l x vs (Extra offset) None = tt
  line_sound l x vs (Extra offset) (Some w) =
      sound_stmt (S.Extra x offset) (Stmt-F.Extra x offset) (S.rolls-Extra x offset) refl tt
  line_sound l x vs Tests w = tt
  line_sound l x vs Switches w = tt
  line_sound l x vs Returns w = tt

  sound_append : (fs bs : List Stmt) → AreSound ws fs → AreSound ws bs → AreSound ws (fs ++ bs)
  sound_append [] bs h k = k
  sound_append (a ∷ fs) bs h k = (h.0, h.1, sound_append fs bs h.2 k)

  -- ---- exits

  exit_total : (e : SsaExit) (vs : List ℕ) → AreTotal ws (exit_args (exit_over e vs))
  exit_total X.Return [] = tt
  exit_total X.Return (v ∷ vs) = (total_var v, tt)
  exit_total (X.Jump to) vs = tt
  exit_total (X.Test taken other) vs = (total_var _, tt)
  exit_total (X.Switch arms) vs = (total_var _, tt)
  exit_total X.Stop vs = tt

-- ---- functions

module _ (l : Listing) (p : Parts) (e : Entry) (whole : IsWhole p.graph) (ssa : IsSsa (form p)) where
  abbrev k : Blocks
  k = blocks_of l p

  row_sound : (x : ℕ) (o : Option OpRow) → AreSound k.widths (line_of l x o)
  row_sound x None = tt
  row_sound x (Some r) = line_sound k.widths l x r.inputs (role_of r.code) r.width

  body_sound : (xs : List ℕ) → AreSound k.widths (body_of l p.graph xs)
  body_sound [] = tt
  body_sound (x ∷ xs) =
      sound_append k.widths (line_of l x (op_at p.graph x)) (body_of l p.graph xs) (row_sound x (op_at p.graph x))
      (body_sound xs)

  stmts_sound : (b : ℕ) → AreSound k.widths (stmts_at k b)
  stmts_sound b = by_exit (exit_in (block_with b p.blocks))
    where
      by_exit : (o : Option SsaExit) → AreSound k.widths (stmts_of (block_by l p.graph b o))
      by_exit None = tt
      by_exit (Some x) = body_sound (block_at p.graph b)

  exits_total : (b : ℕ) → AreTotal k.widths (exit_args (exit_at k b))
  exits_total b = by_exit (exit_in (block_with b p.blocks))
    where
      by_exit : (o : Option SsaExit) → AreTotal k.widths (exit_args (exit_of (block_by l p.graph b o)))
      by_exit None = tt
      by_exit (Some x) = exit_total k.widths x (last_inputs p.graph (last_or None (block_at p.graph b)))

  -- each number below the count is that of a block
  pub is_block : (b : ℕ) → b < length p.graph.blocks → IsBlock k b
  is_block b low =
      let z = in_ids l p e whole ssa b p.blocks ((ssa.formed.all b).1 low) in
      (_, ap (λ o. block_by l p.graph b (exit_in o)) z.1)

  -- The blocks are sound.
  pub function_sound : IsSound k
  function_sound = record {
    entry = is_block p.entry.0 ssa.formed.entry;
    onward = λ b c to. is_block c (ssa.formed.exits b c (exit_is l p e whole ssa b to.0 c to.1));
    stmts = stmts_sound;
    exits = exits_total;
    stops = stops_called l p ssa;
  }
