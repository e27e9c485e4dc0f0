-- What stands for an op does what the op does. A further operation adds its cases here.
use Rattle.std.proofs.Common.{◌≡◌, ◌≢◌, ℕ, ◌<◌, ◌≤◌, Bool, true, false, List, [], ◌∷◌, length, Option, Some, None, refl, sym, ap, ◌∙◌, subst, inl, inr, ⊎_elim}
use Rattle.std.specs.Prelude.{cond, Ok}
use Rattle.std.proofs.lemmas.Bool.{cases_eq}
use Rattle.machine.specs.Trace.{DivZero}
use Rattle.bits_core.specs.declared.ops.Unary.{Unary}
use Rattle.bits_core.specs.declared.ops.Binary.{Binary}
use Rattle.bits_core.specs.declared.ops.Binary.TheVariants as B
use Rattle.bits_core.specs.declared.ops.Divide.{Divide}
use Rattle.bits_core.specs.Value.{limit, binary_value, divide_value, quotient_or_rest, unary_value}
use Rattle.laws.proofs.Division.{divide_none, divide_some}
use Rattle.laws.proofs.Words.{binary_word, divide_word, unary_word}
use Rattle.pcode_model.specs.declared.listing.SpaceKind.{SpaceKind}
use Rattle.pcode_model.specs.declared.listing.SpaceKind.TheVariants.{Constant, Ram, Register, Unique}
use Rattle.pcode_model.specs.declared.listing.Varnode.{Varnode}
use Rattle.pcode_model.specs.declared.listing.Instruction.{Instruction}
use Rattle.pcode_model.specs.declared.listing.Place.{Place}
use Rattle.pcode_model.specs.declared.listing.Listing.{Listing}
use Rattle.pcode_model.specs.declared.opcode.Opcode.{Opcode}
use Rattle.pcode_model.specs.declared.opcode.Opcode.TheVariants as O
use Rattle.pcode_model.specs.declared.flow.Turn.TheVariants.{GoesOn}
use Rattle.pcode_model.specs.Flow.{call_turn, turn_of}
use Rattle.pcode_model.specs.Places.{Does, next_place}
use Rattle.pcode_model.specs.Spaces.{kind_of}
use Rattle.pcode_model.specs.Memory.{Acts, Bytes, Frame}
use Rattle.pcode_model.specs.Step.{Reads, State, all_read, byte_address, callee_at, moved, read_all, step_at, word_in_bytes, write_varnode}
use Rattle.pcode_model.specs.Step.{returns as does_return}
use Rattle.pcode_laws.specs.AsBytes.{AsBytes}
use Rattle.range_words.specs.Own.{HasOwn}
use Rattle.range_words.proofs.Variables.{word_below}
use Rattle.cmeaning.specs.declared.tree.Expr.{Expr}
use Rattle.cmeaning.specs.declared.tree.Stmt.{Stmt}
use Rattle.cmeaning.specs.declared.tree.Stmt.TheVariants as S
use Rattle.cmeaning.specs.Do.{Local, assigned, divide_of, do_simple, ends}
use Rattle.cmeaning.specs.Do as code
use Rattle.cmeaning.specs.Value.{value_of, width_of}
use Rattle.cmeaning.proofs.Do.{do_divide}
use Rattle.blockcode.proofs.Straight.{run_all}
use Rattle.op_values.specs.Nodes.{binary_node, divides_by, division_node, nearest, statement_of, unary_node}
use Rattle.op_values.proofs.Means.{Means, nearest_is}
use Rattle.op_values.proofs.Operations.{IsDropped, binary_means, unary_means}
use Rattle.op_values.proofs.Divisions.{division_means, divides_some, statement_is}
use Rattle.op_code.specs.Made.{address, divides, divides_at, loads_by, name_of, op_made, reads, stores_by, word_at}
use Rattle.op_code.specs.Form.{IsLoad, IsOperand, IsOutput, IsPlainOp, IsSecond, IsStore}
use Rattle.op_code.proofs.Access.{address_points, load_runs}
use Rattle.op_code.proofs.Calling.{indirect_meets, other_meets, returning_meets}
use Rattle.op_code.proofs.Computes.{computed, computes_meets, constant_has, one_of, stores_meet, two_of}
use Rattle.op_code.proofs.Framed.{load_framed, store_framed}
use Rattle.op_code.proofs.Sees.{AreWide, Meets, Sees, Setting}
use Rattle.op_code.proofs.Sets.{Fails, Makes, assign_makes, ended_meets}
use Rattle.op_code.proofs.Steps.{op_of, binary_step, divide_ends, divide_step, load_step, store_step, unary_step}

-- ---- statements that assign a word

module _ (l : Listing) (ws : ℕ → ℕ) (x : Local) where
  -- a division as a statement
  divided_is : (op : Divide) (v k a b : ℕ) (d e : Expr) (returns : ℕ → Bool)
      → Means ws x.env d k a
      → Means ws x.env e k b
      → do_simple l ws returns (S.Divide v (statement_of op) d e) x ≡ code.divided v (divide_value op k a b) x
  divided_is op v k a b d e returns m n =
      do_divide l ws returns v (statement_of op) d e x
      ∙ ap (λ o. code.with_word o x (λ m. code.with_word (value_of ws x.env e) x
      (λ n. code.divided v (divide_value (divide_of (statement_of op)) (width_of ws d) m n) x))) m.value
      ∙ ap (λ o. code.with_word o x
      (λ n. code.divided v (divide_value (divide_of (statement_of op)) (width_of ws d) a n) x)) n.value
      ∙ ap (λ q. code.divided v (divide_value q (width_of ws d) a b) x) (statement_is op)
      ∙ ap (λ w. code.divided v (divide_value op w a b) x) m.width

constant_divides : (k : SpaceKind) (op : Divide) (v : Varnode) → divides_at k op v ≡ true → k ≡ Constant
constant_divides Constant op v h = refl
constant_divides Ram op v h = absurd (cc)
constant_divides Register op v h = absurd (cc)
constant_divides Unique op v h = absurd (cc)

divides_then : (k : SpaceKind) (op : Divide) (v : Varnode)
    → divides_at k op v ≡ true
    → divides_by op (nearest v.size) v.offset ≡ true
divides_then Constant op v h = h
divides_then Ram op v h = absurd (cc)
divides_then Register op v h = absurd (cc)
divides_then Unique op v h = absurd (cc)

dropped_by : (l : Listing) (op : Binary) (w : Varnode) (b : ℕ)
    → IsSecond l op w
    → (kind_of l w.space ≡ Constant → w.offset ≡ b)
    → IsDropped op w.offset b
dropped_by l B.Subpiece w b second h = h second
dropped_by l op w b second h = tt

-- ---- divisions

module _
    (l : Listing)
    (ws : ℕ → ℕ)
    (y : Local)
    (op : Divide)
    (w : Varnode)
    (k a b : ℕ)
    (d e : Expr)
    (means : Means ws y.env d k a)
    (also : Means ws y.env e k b)
  where
    -- by a constant that makes the division an expression
    known : divides_at (kind_of l w.space) op w ≡ true
        → (kind_of l w.space ≡ Constant → w.offset ≡ b)
        → nearest w.size ≡ k
        → divides_by op k b ≡ true
    known t fixed wide =
        let c = divides_then (kind_of l w.space) op w t in
        let at : w.offset ≡ b = fixed (constant_divides (kind_of l w.space) op w t) in
        sym (ap (λ j. divides_by op j b) wide) ∙ sym (ap (divides_by op (nearest w.size)) at) ∙ c

    divides_some_by : (t : Bool)
        → divides_at (kind_of l w.space) op w ≡ t
        → (kind_of l w.space ≡ Constant → w.offset ≡ b)
        → nearest w.size ≡ k
        → b ≢ 0
        → Makes l ws (λ v. cond t (S.Assign v (division_node op d e)) (S.Divide v (statement_of op) d e)) k
        (quotient_or_rest op k a b) y y
    divides_some_by true is fixed wide some =
        assign_makes l ws y (division_node op d e) k (quotient_or_rest op k a b)
        (division_means ws y.env k a b d e means also op (known is fixed wide))
    divides_some_by false is fixed wide some =
        λ v returns same. divided_is l ws y op v k a b d e returns means also
        ∙ ap (λ o. code.divided v o y) (divide_some op k a b some)

    divides_none_by : (t : Bool)
        → divides_at (kind_of l w.space) op w ≡ t
        → (kind_of l w.space ≡ Constant → w.offset ≡ b)
        → nearest w.size ≡ k
        → divide_value op k a b ≡ None
        → b ≡ 0
        → Fails l ws (λ v. cond t (S.Assign v (division_node op d e)) (S.Divide v (statement_of op) d e)) y (ends DivZero y)
    divides_none_by true is fixed wide none zero = absurd (divides_some op k b (known is fixed wide) zero)
    divides_none_by false is fixed wide none zero =
        λ v returns. divided_is l ws y op v k a b d e returns means also ∙ ap (λ o. code.divided v o y) none

-- ---- all ops

module _
    {M : Type 0}
    (m : Acts M)
    (l : Listing)
    (f : Frame)
    (look : M → Bytes)
    (own : M → ℕ → ℕ)
    (ranges : List Varnode)
    (ws : ℕ → ℕ)
    (is : AsBytes m l look)
    (has : HasOwn m l look own)
    (set : Setting l ranges ws)
    (i : Instruction)
    (s : State M)
    (x : Local)
    (go : s.world.over ≡ None)
    (sees : Sees l ranges look own s x)
    (n : ℕ)
    (free : length ranges ≤ n)
    (returns : List Stmt → Bool)
  where
    abbrev at : Place
    at = next_place i s.at.index

    -- the state after an op
    abbrev done : Opcode → Option Varnode → List Varnode → State M
    done code out vs = step_at m l f (Does i (op_of code out vs)) s

    abbrev Meet : Opcode → Option Varnode → List Varnode → Type 0
    Meet code out vs = Meets l ranges look own at (done code out vs)
        (run_all l ws returns (op_made l (f.own s.at) ranges n code out vs).statements x)

    unary_meets : (op : Unary) (z v : Varnode)
        → IsPlainOp l (f.own s.at) ranges (O.Unary op) (Some z) (v ∷ [])
        → AreWide ws n (op_made l (f.own s.at) ranges n (O.Unary op) (Some z) (v ∷ [])).locals
        → Meet (O.Unary op) (Some z) (v ∷ [])
    unary_meets op z v h wide =
        let d = word_at (reads l (f.own s.at) ranges n (Reads v ∷ [])) 0 in
        let node = unary_node op z.size d in
        let small = h.1.1.0 in
        let made = computed m l f look own ranges ws is has set at s go n free in
        computes_meets m l f look own ranges ws is has set at s go n free (Reads v ∷ []) z returns
        (λ u. S.Assign u node) x (done (O.Unary op) (Some z) (v ∷ [])) h.1.1
        (h.1.0, tt) wide
        sees
        (λ y r.
        let o = one_of m l f ws s y.env v d r.words r.have in
        let word = unary_value op v.size o.word z.size in
        inl (made z (λ u. S.Assign u node) y (done (O.Unary op) (Some z) (v ∷ [])) word r.sees
        (unary_word op v.size z.size o.word small.0 h.0 o.has.below)
        (assign_makes l ws y node z.size word
        (unary_means ws y.env op v.size z.size o.word d h.0 small.0 small.1 h.1.0.0.1 o.has.below o.has.means))
        (unary_step m l f i s op z v o.word (r.read ∙ ap (λ q. Ok q) o.are))))

    binary_meets : (op : Binary) (z v w : Varnode)
        → IsPlainOp l (f.own s.at) ranges (O.Binary op) (Some z) (v ∷ w ∷ [])
        → AreWide ws n (op_made l (f.own s.at) ranges n (O.Binary op) (Some z) (v ∷ w ∷ [])).locals
        → Meet (O.Binary op) (Some z) (v ∷ w ∷ [])
    binary_meets op z v w h wide =
        let reading = reads l (f.own s.at) ranges n (Reads v ∷ Reads w ∷ []) in
        let d = word_at reading 0 in
        let e = word_at reading 1 in
        let node = binary_node op v.size w.offset z.size d e in
        let small = h.1.1.0 in
        let made = computed m l f look own ranges ws is has set at s go n free in
        computes_meets m l f look own ranges ws is has set at s go n free (Reads v ∷ Reads w ∷ []) z
        returns
        (λ u. S.Assign u node) x (done (O.Binary op) (Some z) (v ∷ w ∷ [])) h.1.1
        (h.1.0.0, (h.1.0.1, tt)) wide sees
        (λ y r.
        let o = two_of m l f ws s y.env v w d e r.words r.have in
        let word = binary_value op v.size o.first w.size o.second z.size in
        let drops = dropped_by l op w o.second h.0.0
        (λ c. constant_has m l f ws s y.env (kind_of l w.space) w e o.second c o.also) in
        inl (made z (λ u. S.Assign u node) y (done (O.Binary op) (Some z) (v ∷ w ∷ [])) word r.sees
        (binary_word op v.size w.size z.size o.first o.second small.0 h.0.1 o.has.below o.also.below)
        (assign_makes l ws y node z.size word
        (binary_means ws y.env op v.size w.size z.size o.first o.second w.offset d e h.0.1 drops h.1.0.0.0 small
        o.has.below o.has.means o.also.means))
        (binary_step m l f i s op z v w o.first o.second (r.read ∙ ap (λ q. Ok q) o.are))))

    divide_meets : (op : Divide) (z v w : Varnode)
        → IsPlainOp l (f.own s.at) ranges (O.Divide op) (Some z) (v ∷ w ∷ [])
        → AreWide ws n (op_made l (f.own s.at) ranges n (O.Divide op) (Some z) (v ∷ w ∷ [])).locals
        → Meet (O.Divide op) (Some z) (v ∷ w ∷ [])
    divide_meets op z v w h wide =
        let reading = reads l (f.own s.at) ranges n (Reads v ∷ Reads w ∷ []) in
        let d = word_at reading 0 in
        let e = word_at reading 1 in
        let t = divides_at (kind_of l w.space) op w in
        let small = h.1.1.0 in
        let there = done (O.Divide op) (Some z) (v ∷ w ∷ []) in
        let made = computed m l f look own ranges ws is has set at s go n free in
        computes_meets m l f look own ranges ws is has set at s go n free (Reads v ∷ Reads w ∷ []) z
        returns
        (divides l op w d e) x (done (O.Divide op) (Some z) (v ∷ w ∷ [])) h.1.1
        (h.1.0.0, (h.1.0.1, tt)) wide sees
        (λ y r.
        let o = two_of m l f ws s y.env v w d e r.words r.have in
        let a = o.first in
        let b = o.second in
        let P : ℕ → Type 0 = λ k. Means ws y.env d k a in
        let Q : ℕ → Type 0 = λ k. Means ws y.env e k b in
        let R : ℕ → Type 0 = λ k. a < limit k in
        let means : Means ws y.env d z.size a = subst P h.0.0 o.has.means in
        let also : Means ws y.env e z.size b = subst Q h.0.1 o.also.means in
        let fixed : kind_of l w.space ≡ Constant → w.offset ≡ b =
        λ c. constant_has m l f ws s y.env (kind_of l w.space) w e b c o.also in
        let near : nearest w.size ≡ z.size = ap nearest h.0.1 ∙ nearest_is z.size small.0 small.1 in
        let read : read_all m l f s (all_read (v ∷ w ∷ [])) ≡ Ok (a ∷ b ∷ []) = r.read ∙ ap (λ q. Ok q) o.are in
        ⊎_elim
        (λ (zero : b ≡ 0).
        let none : divide_value op z.size a b ≡ None = ap (divide_value op z.size a) zero ∙ divide_none op z.size a in
        let P : State M → Type 0 = λ u. Meets l ranges look own at u (ends DivZero y) in
        inr (record {
          to = ends DivZero y;
          end = DivZero;
          over = refl;
          fails = divides_none_by l ws y op w z.size a b d e means also t refl fixed near none zero;
          meets = subst P (sym (divide_ends m l f i s op z v w a b read none))
              (ended_meets l ranges look own at s y DivZero r.sees);
        }))
        (λ (some : b ≢ 0).
        inl (made z (divides l op w d e) y there (quotient_or_rest op z.size a b) r.sees
        (divide_word op z.size a b (quotient_or_rest op z.size a b) (subst R h.0.0 o.has.below)
        (divide_some op z.size a b some))
        (divides_some_by l ws y op w z.size a b d e means also t refl fixed near some)
        (divide_step m l f i s op z v w a b read some)))
        (cases_eq b 0))

    -- a LOAD by a pointer, or of a frame variable
    load_by : (o : Option ℕ) (z from v : Varnode)
        → f.own s.at 0 ≡ o
        → IsLoad o l ranges from z
        → IsOperand l ranges v
        → IsOutput l ranges z
        → AreWide ws n (loads_by o l ranges n (Some z) (from ∷ v ∷ [])).locals
        → Meets l ranges look own at (done O.Load (Some z) (from ∷ v ∷ []))
        (run_all l ws returns (loads_by o l ranges n (Some z) (from ∷ v ∷ [])).statements x)
    load_by None z from v unframed h operand output wide =
        let d = word_at (reads l (f.own s.at) ranges n (Reads v ∷ [])) 0 in
        let e = address l from.offset v.size d in
        let there = done O.Load (Some z) (from ∷ v ∷ []) in
        let made = computed m l f look own ranges ws is has set at s go n free in
        computes_meets m l f look own ranges ws is has set at s go n free (Reads v ∷ []) z returns
        (λ u. S.Load u (name_of l from.offset) e) x there output (operand, tt) wide sees
        (λ y r.
        let o = one_of m l f ws s y.env v d r.words r.have in
        let to = byte_address l from.offset o.word in
        let mem : look s.world.memory ≡ y.world.memory = ap (λ w. w.memory) r.sees.world in
        let P : Bytes → Type 0 = λ b. word_in_bytes l from.offset to z.size b < limit z.size in
        inl (made z (λ u. S.Load u (name_of l from.offset) e) y there
        (word_in_bytes l from.offset to z.size y.world.memory) r.sees
        (subst P mem (word_below l from.offset to z.size (look s.world.memory) r.sees.memory))
        (λ u returns wide. load_runs l ws returns from.offset h u z.size to e y wide
        (address_points ws y.env l from.offset v.size o.word d h operand.0.0 operand.0.1 o.has.means))
        (load_step m l f i s look is from v z o.word (r.read ∙ ap (λ q. Ok q) o.are) unframed
        ∙ ap (λ b. write_varnode m l (kind_of l z.space) z (word_in_bytes l from.offset to z.size b) (moved at s))
        mem)))
    load_by (Some c) z from v framed h operand output wide =
        load_framed m l f look own ranges ws is has set i s x go sees n free returns c framed z from v h output wide

    -- a STORE by a pointer, or of a frame variable
    store_by : (o : Option ℕ) (to v w : Varnode)
        → f.own s.at 0 ≡ o
        → IsStore o l ranges to w
        → IsOperand l ranges v
        → IsOperand l ranges w
        → AreWide ws n (stores_by o l ranges n (to ∷ v ∷ w ∷ [])).locals
        → Meets l ranges look own at (done O.Store None (to ∷ v ∷ w ∷ []))
        (run_all l ws returns (stores_by o l ranges n (to ∷ v ∷ w ∷ [])).statements x)
    store_by None to v w unframed h address stored wide =
        stores_meet m l f look own ranges ws is has set at s go n free to.offset v w returns x
        (done O.Store None (to ∷ v ∷ w ∷ [])) h (address, (stored, tt)) wide sees
        (λ a b read. store_step m l f i s to v w a b read unframed)
    store_by (Some c) to v w framed h address stored wide =
        store_framed m l f look own ranges ws is has set i s x go sees n free returns c framed to v w h stored wide

    -- A call that returns.
    call_goes : (to : Varnode) (b : Bool) → does_return (callee_at l to.offset) ≡ b → call_turn b ≡ GoesOn → b ≡ true
    call_goes to true e turn = refl
    call_goes to false e turn = absurd (cc)

    -- An op that goes on, where a call in front of any statements returns.
    pub op_meets : (code : Opcode) (out : Option Varnode) (vs : List Varnode)
        → IsPlainOp l (f.own s.at) ranges code out vs
        → turn_of l code vs ≡ GoesOn
        → AreWide ws n (op_made l (f.own s.at) ranges n code out vs).locals
        → ((ss : List Stmt) → returns ss ≡ true)
        → Meets l ranges look own (next_place i s.at.index) (step_at m l f (Does i (op_of code out vs)) s)
        (run_all l ws returns (op_made l (f.own s.at) ranges n code out vs).statements x)
    op_meets (O.Unary op) (Some z) (v ∷ []) h turn wide all = unary_meets op z v h wide
    op_meets (O.Binary op) (Some z) (v ∷ w ∷ []) h turn wide all = binary_meets op z v w h wide
    op_meets (O.Divide op) (Some z) (v ∷ w ∷ []) h turn wide all = divide_meets op z v w h wide
    op_meets O.Load (Some z) (from ∷ v ∷ []) h turn wide all =
        load_by (f.own s.at 0) z from v refl h.0 h.1.0 h.1.1 wide
    op_meets O.Store None (to ∷ v ∷ w ∷ []) h turn wide all =
        store_by (f.own s.at 0) to v w refl h.0 h.1.0 h.1.1 wide
    op_meets O.Call None (to ∷ []) h turn wide all =
        let goes = call_goes to (does_return (callee_at l to.offset)) refl turn in
        returning_meets m l f look own ranges ws is has set i s x go sees n free returns to h goes wide all
    op_meets O.CallInd None (to ∷ []) h turn wide all =
        indirect_meets m l f look own ranges ws is has set i s x go sees n free returns to h wide all
    op_meets O.CallOther out (index ∷ vs) h turn wide all =
        other_meets m l f look own ranges ws is has set i s x go sees n free returns out index vs h wide
    op_meets O.Branch out vs h turn wide all = absurd (cc)
    op_meets O.CBranch out vs h turn wide all = absurd (cc)
    op_meets O.Return out vs h turn wide all = absurd (cc)
    op_meets (O.Unary op) None vs h turn wide all = absurd h
    op_meets (O.Unary op) (Some z) [] h turn wide all = absurd h
    op_meets (O.Unary op) (Some z) (v ∷ w ∷ vs) h turn wide all = absurd h
    op_meets (O.Binary op) None vs h turn wide all = absurd h
    op_meets (O.Binary op) (Some z) [] h turn wide all = absurd h
    op_meets (O.Binary op) (Some z) (v ∷ []) h turn wide all = absurd h
    op_meets (O.Binary op) (Some z) (v ∷ w ∷ u ∷ vs) h turn wide all = absurd h
    op_meets (O.Divide op) None vs h turn wide all = absurd h
    op_meets (O.Divide op) (Some z) [] h turn wide all = absurd h
    op_meets (O.Divide op) (Some z) (v ∷ []) h turn wide all = absurd h
    op_meets (O.Divide op) (Some z) (v ∷ w ∷ u ∷ vs) h turn wide all = absurd h
    op_meets O.Load None vs h turn wide all = absurd h
    op_meets O.Load (Some z) [] h turn wide all = absurd h
    op_meets O.Load (Some z) (v ∷ []) h turn wide all = absurd h
    op_meets O.Load (Some z) (v ∷ w ∷ u ∷ vs) h turn wide all = absurd h
    op_meets O.Store (Some z) vs h turn wide all = absurd h
    op_meets O.Store None [] h turn wide all = absurd h
    op_meets O.Store None (v ∷ []) h turn wide all = absurd h
    op_meets O.Store None (v ∷ w ∷ []) h turn wide all = absurd h
    op_meets O.Store None (v ∷ w ∷ u ∷ t ∷ vs) h turn wide all = absurd h
    op_meets O.Call (Some z) vs h turn wide all = absurd h
    op_meets O.Call None [] h turn wide all = absurd h
    op_meets O.Call None (to ∷ v ∷ vs) h turn wide all = absurd h
    op_meets O.CallInd (Some z) vs h turn wide all = absurd h
    op_meets O.CallInd None [] h turn wide all = absurd h
    op_meets O.CallInd None (to ∷ v ∷ vs) h turn wide all = absurd h
    op_meets O.CallOther out [] h turn wide all = absurd h
    op_meets code out vs h turn wide all = absurd h
