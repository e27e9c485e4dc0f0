-- What holds of each kind of statement and of exit holds of all blocks of the plain lowering.
use Rattle.std.proofs.Common.{◌≡◌, ℕ, suc, ◌+◌, ◌<◌, ◌≤◌, ◌^◌, Bool, true, false, List, [], ◌∷◌, ◌++◌, append-nil, map, zero, drop, length, Option, Some, None, refl, sym, ◌∙◌, subst, arith, inl, inr}
use Rattle.std.specs.Prelude.{cond, not, slice_get, ◌==◌, IfSome}
use Rattle.std.specs.List.{AllByRecursion}
use Rattle.std.proofs.lemmas.Bool.{and_parts, eqb-true}
use Rattle.std.proofs.lemmas.Option.{slice_get_within}
use Rattle.bits_core.specs.declared.ops.Divide.{Divide}
use Rattle.bits_core.specs.Value.{limit}
use Rattle.pcode_model.specs.declared.listing.SpaceKind.{SpaceKind}
use Rattle.pcode_model.specs.declared.listing.SpaceKind.TheVariants.{Constant, Ram, Register, Unique}
use Rattle.pcode_model.specs.declared.listing.Varnode.{Varnode}
use Rattle.pcode_model.specs.declared.listing.Place.{Place}
use Rattle.pcode_model.specs.declared.listing.Listing.{Listing}
use Rattle.pcode_model.specs.declared.listing.Proto.{Proto}
use Rattle.pcode_model.specs.declared.opcode.Opcode.{Opcode}
use Rattle.pcode_model.specs.declared.opcode.Opcode.TheVariants as O
use Rattle.pcode_model.specs.declared.tables.TableAt.{TableAt}
use Rattle.pcode_model.specs.declared.flow.Exit as flow_exit
use Rattle.pcode_model.specs.declared.flow.Exit.TheVariants as F
use Rattle.pcode_model.specs.declared.flow.Block as flow_block
use Rattle.pcode_model.specs.declared.flow.Turn.TheVariants.{GoesOn, Stops}
use Rattle.pcode_model.specs.Spaces.{first_ram, is_big, kind_of, register_space, size_of, word_size}
use Rattle.pcode_model.specs.Places.{Standing, Nothing, Passes, Does, standing}
use Rattle.pcode_model.specs.Step.{Operand, Reads as ReadsRange, ReadsStack, all_read, arguments, callee_at, proto_of, returns as does_return, varnode_at}
use Rattle.pcode_model.specs.Flow.{AllRun, IsIn, IsStart, JumpsTo, LeavesBy, RunsBlock, TestsTo, call_turn, next_in, places_of, turn_at, turn_in, turn_of}
use Rattle.pcode_model.proofs.Members.{behind, in_front}
use Rattle.cmeaning.specs.declared.tree.Expr.{Expr}
use Rattle.cmeaning.specs.declared.tree.Expr.TheVariants as E
use Rattle.cmeaning.specs.declared.tree.Stmt.{Stmt}
use Rattle.cmeaning.specs.declared.tree.Stmt.TheVariants as S
use Rattle.blockcode.specs.declared.code.Exit.{Exit}
use Rattle.blockcode.specs.declared.code.Exit.TheVariants as X
use Rattle.blockcode.proofs.Straight.{get_of_drop, rest_of_drop}
use Rattle.op_values.specs.Nodes.{binary_node, constant, divides_by, division_node, nearest, statement_of, unary_node}
use Rattle.op_values.proofs.Means.{nearest_is}
use Rattle.op_code.specs.declared.covers.Piece.{Piece}
use Rattle.range_words.specs.Own.{frame_range}
use Rattle.op_code.specs.Cover.{HasCover, IsRow, cover}
use Rattle.op_code.specs.Words.{parts_by, target_by}
use Rattle.op_code.specs.Left.{extras, is_left, left_from, leftovers, meets_some, spared}
use Rattle.op_code.specs.Made.{Made, Own, Read, ReadOne, above, above_stack, address, address_of, answered, call_made, calls, computes, divides, divides_at, frame_word, gives_back, indirect_read, loads_by, local_for, local_of, name_of, none_own, offset_bytes, op_made, passed, pops, pops_by, range_word, read_by, read_one, read_operand, read_stack, reads, set_by, sets, sets_range, stores_by}
use Rattle.op_code.specs.Form.{AllOperands, IsCallable, IsDirect, IsGiven, IsLoad, IsLocalBy, IsMemory, IsNarrow, IsOnStack, IsOperand, IsOperandBy, IsOutput, IsOutputBy, IsPlainOp, IsRead, IsResult, IsStore}
use Rattle.op_code.specs.Lowered.{WayOut, block_made, blocks_made, condition_in, directly, made_in, place_made, places_made, tests, way_out}
use Rattle.op_code.specs.Lowerable.{IsPlain}
use Rattle.op_code.proofs.Sees.{Setting}
use Rattle.plain_valid.proofs.Shapes.{Fits, as_wide, constant_fits, deeper, variable_fits}
use Rattle.plain_valid.proofs.Expressions.{IsAddress, address_fits, binary_fits, division_node_fits, unary_fits}
use Rattle.plain_valid.specs.Long.{NamesLong, StandsLong}
use Rattle.plain_valid.proofs.Covers.{IsPiece, above_fits, frame_fits, parts_right, piece_variable, pointer_fits, row_fills, word_fits}
use Rattle.plain_valid.proofs.EachKind.{AllHold, AreLocals, Gives, HaveWidths, IsLeft, IsTarget, IsVariable, Kinds, are_right, locals_back, locals_front, width_read, widths_passed}

module _
    (l : Listing)
    (ranges : List Varnode)
    (ws : ℕ → ℕ)
    (n : ℕ)
    (starts : List Place)
    (P : List Stmt → Type 0)
    (B : List Stmt → Exit → Type 0)
    (kinds : Kinds l ranges ws n (length starts) P B)
    (set : Setting l ranges ws)
    (few : n ≤ 2 ^ 32)
    (known : length ranges ≤ n)
    (low : (k : ℕ) (v : Varnode) → slice_get ranges k ≡ Some v → v.space ≡ register_space l → v.offset < 2 ^ 64)
  where
    -- ---- variables

    local_variable : (next : ℕ) (v : Varnode)
        → IsNarrow v
        → AreLocals ws n next (local_of v.size ∷ [])
        → IsVariable ws n next v.size
    local_variable next v narrow are = record {
      within = omega (arith, are.within);
      width = are.wide.0 ∙ nearest_is v.size narrow.0 narrow.1;
      some = narrow.0;
    }

    of_variable : (v w : ℕ) → IsVariable ws n v w → Fits ws n (E.Var v) w 16
    of_variable v w is =
        deeper ws n (E.Var v) w 1 16 (omega arith) (variable_fits ws n v w is.within few is.width is.some)

    of_range : (v : Varnode) → IsNarrow v → HasCover ranges v → Fits ws n (range_word l ranges v) v.size 16
    of_range = word_fits l ranges ws n set few known

    -- ---- memory

    direct_fits : (v : Varnode) → IsDirect l v → Fits ws n (address_of l v) (offset_bytes l v.space) 1
    direct_fits v is =
        let small = (is.0).few in
        constant_fits ws n (offset_bytes l v.space) v.offset (is.0).some (omega (arith, small))

    -- an address that an operand counts
    address_right : (s w : ℕ) (e : Expr)
        → IsMemory l s
        → 0 < w
        → w ≤ 16
        → Fits ws n e w 16
        → IsAddress ws n (address l s w e)
    address_right s w e is some small f =
        address_fits ws n (offset_bytes l s) (word_size l s) w e is.some (omega (arith, is.few)) some small f

    -- ---- operands

    -- what an operand is read by
    record Reads (r : ReadOne) (w : ℕ) : Type 0 where
      loads : P r.loads
      word : Fits ws n r.word w 16

    reads_by : (k : SpaceKind) (next : ℕ) (v : Varnode)
        → IsNarrow v
        → IsOperandBy k l ranges v
        → AreLocals ws n next (read_by k l ranges next v).locals
        → Reads (read_by k l ranges next v) v.size
    reads_by Constant next v narrow h are =
        let e = constant v.size v.offset in
        record {
          loads = kinds.none;
          word = deeper ws n e v.size 1 16 (omega arith) (constant_fits ws n v.size v.offset narrow.0 narrow.1);
        }
    reads_by Ram next v narrow h are =
        let is = local_variable next v narrow are in
        record {
          loads = kinds.load next v.size v.space (offset_bytes l v.space) 1 (address_of l v) is h.0 (direct_fits v h);
          word = of_variable next v.size is;
        }
    reads_by Register next v narrow h are = record { loads = kinds.none; word = of_range v narrow h }
    reads_by Unique next v narrow h are = record { loads = kinds.none; word = of_range v narrow h }

    operand_right : (next : ℕ) (v : Varnode)
        → IsOperand l ranges v
        → AreLocals ws n next (read_one l ranges next v).locals
        → Reads (read_one l ranges next v) v.size
    operand_right next v h are = reads_by (kind_of l v.space) next v h.0 h.1 are

    -- ---- the frame, and what stands on the stack

    stack_right : (o : Option ℕ) (next offset k : ℕ)
        → (0 < k) × (k ≤ 16)
        → IsOnStack o l ranges k
        → AreLocals ws n next (read_stack o l ranges next offset k).locals
        → Reads (read_stack o l ranges next offset k) k
    stack_right None next offset k narrow has are =
        let v : Varnode = frame_range l 0 k in
        let is = local_variable next v narrow are in
        record {
          loads = kinds.load next k (first_ram l) has.pointer.size 18 (above_stack l ranges l.stack offset) is has.memory
              (pointer_fits l ranges ws n set few known offset has);
          word = of_variable next k is;
        }
    stack_right (Some c) next offset k narrow is are =
        record { loads = kinds.none; word = frame_fits l ranges ws n set few known c k narrow is }

    read_right : (own : Own) (next : ℕ) (x : Operand)
        → IsRead l own ranges x
        → AreLocals ws n next (read_operand l own ranges next x).locals
        → Reads (read_operand l own ranges next x) (width_read x)
    read_right own next (ReadsRange v) h are = operand_right next v h are
    read_right own next (ReadsStack i offset k) h are = stack_right (own i) next offset k h.0 h.1 are

    narrow_read : (own : Own) (x : Operand) → IsRead l own ranges x → (0 < width_read x) × (width_read x ≤ 16)
    narrow_read own (ReadsRange v) h = h.0
    narrow_read own (ReadsStack i offset k) h = h.0

    -- operands, in their order
    record AllRead (r : Read) (ks : List ℕ) : Type 0 where
      loads : P r.loads
      words : HaveWidths ws n r.words ks

    reads_right : (own : Own) (next : ℕ) (xs : List Operand)
        → AllOperands l own ranges xs
        → AreLocals ws n next (reads l own ranges next xs).locals
        → AllRead (reads l own ranges next xs) (map width_read xs)
    reads_right own next [] h are = record { loads = kinds.none; words = tt }
    reads_right own next (x ∷ xs) h are =
        let one = read_operand l own ranges next x in
        let rest = reads l own ranges (next + length one.locals) xs in
        let r = read_right own next x h.0 (locals_front ws n next one.locals rest.locals are) in
        let s = reads_right own (next + length one.locals) xs h.1 (locals_back ws n next one.locals rest.locals are) in
        record {
          loads = kinds.append one.loads rest.loads r.loads s.loads;
          words = ((narrow_read own x h.0, r.word), s.words);
        }

    -- the number of the next free variable behind an operand
    abbrev behind_one : ℕ → Varnode → ℕ
    behind_one next x = next + length (read_one l ranges next x).locals

    -- ---- outputs

    -- the variable that is assigned a range's word: its own, or a local whose parts several are assigned
    record Sets (big : Bool) (next : ℕ) (z : Varnode) (ps : List Piece) : Type 0 where
      variable : IsVariable ws n (target_by next ps) z.size
      parts : P (parts_by big z next ps)

    range_right : (big : Bool) (next : ℕ) (z : Varnode) (ps : List Piece)
        → IsNarrow z
        → IsRow ranges z.space z.offset ps (z.offset + z.size)
        → AreLocals ws n next (local_for ps z)
        → Sets big next z ps
    range_right big next z [] narrow row are = absurd (omega (arith, narrow.0, row))
    range_right big next z (p ∷ []) narrow row are =
        let size : p.range.size ≡ z.size = omega (arith, row.1) in
        let R : ℕ → Type 0 = λ w. IsVariable ws n p.variable w in
        let small : p.range.size ≤ 16 = omega (arith, size, narrow.1) in
        let is : IsPiece ranges p = record { listed = row.0.listed; some = row.0.some } in
        record {
          variable = subst R size (piece_variable l ranges ws n set few known p is small);
          parts = kinds.none;
        }
    range_right big next z (p ∷ q ∷ ps) narrow row are =
        let is = local_variable next z narrow are in
        let all = p ∷ q ∷ ps in
        record {
          variable = is;
          parts = parts_right l ranges ws n set few known (length starts) P B kinds big z narrow next
              (of_variable next z.size is) all z.size (row_fills ranges z.space z.offset z.size all row) narrow.1;
        }

    module _ (next : ℕ) (z : Varnode) (make : ℕ → Stmt)
        (makes : (v : ℕ) → IsVariable ws n v z.size → P (make v ∷ [])) where
      -- one variable is set, or several are assigned the parts of a local
      set_local : IsNarrow z
          → HasCover ranges z
          → AreLocals ws n next (local_for (cover ranges z) z)
          → P (make (target_by next (cover ranges z)) ∷ parts_by (is_big l z.space) z next (cover ranges z))
      set_local narrow has are =
          let ps = cover ranges z in
          let big = is_big l z.space in
          let r = range_right big next z ps narrow has are in
          kinds.append (make (target_by next ps) ∷ []) (parts_by big z next ps) (makes (target_by next ps) r.variable)
          r.parts

      set_right : (k : SpaceKind)
          → IsNarrow z
          → IsOutputBy k l ranges z
          → AreLocals ws n next (set_by k l ranges next z make).locals
          → P (set_by k l ranges next z make).statements
      set_right Constant narrow h are = absurd h
      set_right Ram narrow h are =
          let is = local_variable next z narrow are in
          kinds.append (make next ∷ []) (S.Store (name_of l z.space) (address_of l z) (E.Var next) ∷ []) (makes next is)
          (kinds.store z.space (offset_bytes l z.space) 1 z.size 16 (address_of l z) (E.Var next) h.0 (direct_fits z h)
          (of_variable next z.size is))
      set_right Register narrow h are = set_local narrow h are
      set_right Unique narrow h are = set_local narrow h are

      -- a range of variables, whichever space it has
      range_set : IsNarrow z
          → HasCover ranges z
          → AreLocals ws n next (sets_range l ranges next z make).locals
          → P (sets_range l ranges next z make).statements
      range_set narrow has are = set_local narrow has are

    -- an output that is set by what is read
    computes_right : (next : ℕ) (z : Varnode) (r : Read) (make : ℕ → Stmt)
        → P r.loads
        → IsOutput l ranges z
        → AreLocals ws n next (computes l ranges next (Some z) r make).locals
        → ((v : ℕ) → IsVariable ws n v z.size → P (make v ∷ []))
        → P (computes l ranges next (Some z) r make).statements
    computes_right next z r make loads out are makes =
        let free = next + length r.locals in
        let made = set_by (kind_of l z.space) l ranges free z make in
        kinds.append r.loads made.statements loads
        (set_right free z make makes (kind_of l z.space) out.0 out.1 (locals_back ws n next r.locals made.locals are))

    -- ---- divisions

    module _ (op : Divide) (w : ℕ) (d : Expr) (some : 0 < w) (small : w ≤ 16) (f : Fits ws n d w 16) (v : ℕ)
        (is : IsVariable ws n v w) where
      -- by any divisor
      divide_right : (e : Expr) → Fits ws n e w 16 → P (S.Divide v (statement_of op) d e ∷ [])
      divide_right e g = kinds.divide (statement_of op) v w d e is f g

      abbrev divided : Bool → Expr → Stmt
      divided t e = cond t (S.Assign v (division_node op d e)) (S.Divide v (statement_of op) d e)

      divided_right : (k : SpaceKind) (next : ℕ) (y : Varnode)
          → y.size ≡ w
          → IsOperandBy k l ranges y
          → Fits ws n (read_by k l ranges next y).word w 16
          → P (divided (divides_at k op y) (read_by k l ranges next y).word ∷ [])
      divided_right Constant next y same h g = by (divides_by op (nearest y.size) y.offset) refl
        where
          by : (t : Bool)
              → divides_by op (nearest y.size) y.offset ≡ t
              → P (divided t (constant y.size y.offset) ∷ [])
          by true e =
              let R : ℕ → Type 0 = λ u. Fits ws n (division_node op d (constant u y.offset)) w 17 in
              let L : ℕ → Type 0 = λ u. y.offset < limit u in
              let D : ℕ → Type 0 = λ u. divides_by op (nearest u) y.offset ≡ true in
              kinds.assign v w 17 (division_node op d (constant y.size y.offset)) is
              (subst R (sym same)
              (division_node_fits ws n w y.offset d some small (subst L same h) f op (subst D same e)))
          by false e = divide_right (constant y.size y.offset) g
      divided_right Ram next y same h g = divide_right (read_by Ram l ranges next y).word g
      divided_right Register next y same h g = divide_right (read_by Register l ranges next y).word g
      divided_right Unique next y same h g = divide_right (read_by Unique l ranges next y).word g

    -- ---- calls

    -- the arguments of a call
    passed_right : (own : Own) (next : ℕ) (p : Proto)
        → IsCallable l own ranges p
        → AreLocals ws n next (passed l own ranges next p).locals
        → AllRead (passed l own ranges next p) (widths_passed p.args)
    passed_right own next p h are = reads_right own next (arguments 0 p.args) h.args are

    -- a variable of a range of registers can take what a call left there
    left_at : (k : ℕ) (v : Varnode)
        → slice_get ranges k ≡ Some v
        → v.space ≡ register_space l
        → IsLeft l ws n (record { variable = k; offset = v.offset })
    left_at k v get is =
        let narrow = set.narrow k v get in
        let R : ℕ → Type 0 = λ s. v.offset + v.size ≤ size_of l s in
        record {
          width = v.size;
          is = record {
            within = omega (arith, slice_get_within ranges k v get, known);
            width = set.widths k v get narrow;
            some = narrow.0;
          };
          inside = subst R is (set.table.inside k v get);
          long = low k v get is;
        }

    left_right : (p : Proto) (k : ℕ) (vs : List Varnode)
        → drop k ranges ≡ vs
        → AllByRecursion (IsLeft l ws n) (left_from l p k vs)
    left_right p k [] e = tt
    left_right p k (v ∷ vs) e = by (is_left l p v) refl (left_right p (suc k) vs (rest_of_drop ranges k v vs e)) where
      by : (t : Bool)
          → is_left l p v ≡ t
          → AllByRecursion (IsLeft l ws n) (left_from l p (suc k) vs)
          → AllByRecursion (IsLeft l ws n)
          (cond t (record { variable = k; offset = v.offset } ∷ left_from l p (suc k) vs) (left_from l p (suc k) vs))
      by true is all =
          let parts = and_parts (v.space == register_space l) (not (meets_some (spared l p) v)) is in
          (left_at k v (get_of_drop ranges k v vs e) (eqb-true v.space (register_space l) parts.0), all)
      by false is all = all

    -- what follows a call that takes an answer
    gives_right : (next : ℕ) (p : Proto) (gives : Option Varnode) (make : Option ℕ → Stmt)
        → IfSome gives (IsGiven l ranges)
        → AreLocals ws n next (gives_back l ranges next p gives make).locals
        → ((v : Option ℕ) → IsTarget ws n v gives → P (make v ∷ extras l p ranges))
        → P (gives_back l ranges next p gives make).statements
    gives_right next p None make h are makes = makes None tt
    gives_right next p (Some z) make h are makes =
        let ps = cover ranges z in
        let big = is_big l z.space in
        let r = range_right big next z ps h.1.0 h.1.1 are in
        kinds.append (make (Some (target_by next ps)) ∷ extras l p ranges) (parts_by big z next ps)
        (makes (Some (target_by next ps)) (h.1.0, r.variable)) r.parts

    -- the stack pointer is popped
    pops_right : (stack : Option Varnode) (k next : ℕ)
        → IfSome stack (IsGiven l ranges)
        → AreLocals ws n next (pops_by stack k l ranges next).locals
        → P (pops_by stack k l ranges next).statements
    pops_right None k next given are = kinds.none
    pops_right (Some sp) zero next given are = kinds.none
    pops_right (Some sp) (suc k) next given are =
        let e = above l ranges sp (suc k) in
        range_set next sp (λ v. S.Assign v e)
        (λ v is. kinds.assign v sp.size 18 e is (above_fits l ranges ws n set few known sp (suc k) given.1.0 given.1.1)) given.1.0 given.1.1 are

    answered_right : (own : Own) (next : ℕ) (p : Proto) (make : Option ℕ → Stmt)
        → IsCallable l own ranges p
        → AreLocals ws n next (answered l ranges next p p.gives make).locals
        → ((v : Option ℕ) → IsTarget ws n v p.gives → P (make v ∷ extras l p ranges))
        → P (answered l ranges next p p.gives make).statements
    answered_right own next p make h are makes =
        let back = gives_back l ranges next p p.gives make in
        let popped = pops l ranges (next + length back.locals) p in
        kinds.append back.statements popped.statements
        (gives_right next p p.gives make h.gives (locals_front ws n next back.locals popped.locals are) makes)
        (pops_right l.stack p.pop (next + length back.locals) h.stack
        (locals_back ws n next back.locals popped.locals are))

    calls_right : (own : Own) (next : ℕ) (p : Proto) (r : Read) (make : Option ℕ → Stmt)
        → IsCallable l own ranges p
        → P r.loads
        → AreLocals ws n next (calls l ranges next p r make).locals
        → ((v : Option ℕ) → IsTarget ws n v p.gives → P (make v ∷ extras l p ranges))
        → P (calls l ranges next p r make).statements
    calls_right own next p r make h loads are makes =
        let free = next + length r.locals in
        let made = answered l ranges free p p.gives make in
        kinds.append r.loads made.statements loads
        (answered_right own free p make h (locals_back ws n next r.locals made.locals are) makes)

    -- a call of a function that returns
    call_right : (own : Own) (t : Bool) (next a : ℕ)
        → does_return (callee_at l a) ≡ t
        → a < 2 ^ 64
        → IsCallable l own ranges (proto_of l (callee_at l a))
        → (call_turn t ≡ Stops → ⊥)
        → AreLocals ws n next (call_made t l own ranges next a (proto_of l (callee_at l a))).locals
        → P (call_made t l own ranges next a (proto_of l (callee_at l a))).statements
    call_right own true next a is long h leads are =
        let p = proto_of l (callee_at l a) in
        let r = passed l own ranges next p in
        let make : Option ℕ → Stmt = λ v. S.Call v a r.words in
        let made = answered l ranges (next + length r.locals) p p.gives make in
        let all = passed_right own next p h (locals_front ws n next r.locals made.locals are) in
        calls_right own next p r make h all.loads are
        (λ v target. kinds.call v a r.words (leftovers l p ranges) long is target all.words
        (left_right p 0 ranges refl))
    call_right own false next a is long h leads are = absurd (leads refl)

    indirect_right : (own : Own) (next : ℕ) (to : Varnode)
        → IsOperand l ranges to
        → IsCallable l own ranges (proto_of l None)
        → AreLocals ws n next (op_made l own ranges next O.CallInd None (to ∷ [])).locals
        → P (op_made l own ranges next O.CallInd None (to ∷ [])).statements
    indirect_right own next to operand h are =
        let p = proto_of l None in
        let xs = arguments 0 p.args in
        let r = indirect_read l own ranges next to p in
        let e = (read_one l ranges next to).word in
        let words = (reads l own ranges (behind_one next to) xs).words in
        let make : Option ℕ → Stmt = λ v. S.CallInd v e words in
        let made = answered l ranges (next + length r.locals) p p.gives make in
        let all = reads_right own next (ReadsRange to ∷ xs) (operand, h.args)
        (locals_front ws n next r.locals made.locals are) in
        calls_right own next p r make h all.loads are
        (λ v target. kinds.indirect v p.gives to.size e words (leftovers l p ranges) target all.words.0.1
        (are_right ws n words (map width_read xs) all.words.1) (left_right p 0 ranges refl))

    other_right : (next : ℕ) (out : Option Varnode) (index : Varnode) (vs : List Varnode)
        → AllOperands l none_own ranges (all_read vs)
        → IfSome out (IsOutput l ranges)
        → index.offset < 2 ^ 64
        → AreLocals ws n next (op_made l none_own ranges next O.CallOther out (index ∷ vs)).locals
        → P (op_made l none_own ranges next O.CallOther out (index ∷ vs)).statements
    other_right next None index vs operands h long are =
        let r = reads l none_own ranges next (all_read vs) in
        let all = reads_right none_own next (all_read vs) operands (locals_front ws n next r.locals [] are) in
        kinds.append r.loads (S.Other None index.offset r.words ∷ []) all.loads
        (kinds.other None None index.offset r.words long tt
        (are_right ws n r.words (map width_read (all_read vs)) all.words))
    other_right next (Some z) index vs operands h long are =
        let r = reads l none_own ranges next (all_read vs) in
        let make : ℕ → Stmt = λ v. S.Other (Some v) index.offset r.words in
        let all = reads_right none_own next (all_read vs) operands
        (locals_front ws n next r.locals (sets l ranges (next + length r.locals) (Some z) make).locals are) in
        let own = are_right ws n r.words (map width_read (all_read vs)) all.words in
        computes_right next z r make all.loads h are
        (λ v is. kinds.other (Some v) (Some z) index.offset r.words long (h.0, is) own)

    -- ---- LOAD and STORE

    load_right : (o : Option ℕ) (next : ℕ) (z s x : Varnode)
        → IsLoad o l ranges s z
        → IsOperand l ranges x
        → IsOutput l ranges z
        → AreLocals ws n next (loads_by o l ranges next (Some z) (s ∷ x ∷ [])).locals
        → P (loads_by o l ranges next (Some z) (s ∷ x ∷ [])).statements
    load_right None next z s x memory operand out are =
        let r = reads l none_own ranges next (ReadsRange x ∷ []) in
        let e = (read_one l ranges next x).word in
        let make : ℕ → Stmt = λ v. S.Load v (name_of l s.offset) (address l s.offset x.size e) in
        let all = reads_right none_own next (ReadsRange x ∷ []) (operand, tt)
        (locals_front ws n next r.locals (sets l ranges (next + length r.locals) (Some z) make).locals are) in
        let at = address_right s.offset x.size e memory operand.0.0 operand.0.1 all.words.0.1 in
        computes_right next z r make all.loads out are
        (λ v is. kinds.load v z.size s.offset at.width 18 (address l s.offset x.size e) is memory at.fits)
    load_right (Some c) next z s x own operand out are =
        let e = frame_word l ranges c z.size in
        set_right next z (λ v. S.Assign v e)
        (λ v is. kinds.assign v z.size 16 e is (frame_fits l ranges ws n set few known c z.size out.0 own.1)) (kind_of l z.space) out.0 out.1 are

    store_right : (o : Option ℕ) (next : ℕ) (s x y : Varnode)
        → IsStore o l ranges s y
        → IsOperand l ranges x
        → IsOperand l ranges y
        → AreLocals ws n next (stores_by o l ranges next (s ∷ x ∷ y ∷ [])).locals
        → P (stores_by o l ranges next (s ∷ x ∷ y ∷ [])).statements
    store_right None next s x y memory f g are =
        let xs : List Operand = ReadsRange x ∷ ReadsRange y ∷ [] in
        let r = reads l none_own ranges next xs in
        let d = (read_one l ranges next x).word in
        let e = (read_one l ranges (behind_one next x) y).word in
        let all = reads_right none_own next xs (f, (g, tt)) (locals_front ws n next r.locals [] are) in
        let at = address_right s.offset x.size d memory f.0.0 f.0.1 all.words.0.1 in
        kinds.append r.loads (S.Store (name_of l s.offset) (address l s.offset x.size d) e ∷ []) all.loads
        (kinds.store s.offset at.width 18 y.size 16 (address l s.offset x.size d) e memory at.fits all.words.1.0.1)
    store_right (Some c) next s x y own f g are =
        let xs : List Operand = ReadsRange y ∷ [] in
        let r = reads l none_own ranges next xs in
        let e = (read_one l ranges next y).word in
        let z = frame_range l c y.size in
        let make : ℕ → Stmt = λ v. S.Assign v e in
        let made = sets_range l ranges (next + length r.locals) z make in
        let all = reads_right none_own next xs (g, tt) (locals_front ws n next r.locals made.locals are) in
        kinds.append r.loads made.statements all.loads
        (range_set (next + length r.locals) z make
        (λ v is. kinds.assign v y.size 16 e is all.words.0.1) g.0 own.1.cover
        (locals_back ws n next r.locals made.locals are))

    -- ---- ops that lead on

    op_right : (own : Own) (next : ℕ) (code : Opcode) (out : Option Varnode) (vs : List Varnode)
        → IsPlainOp l own ranges code out vs
        → NamesLong code vs
        → (turn_of l code vs ≡ Stops → ⊥)
        → AreLocals ws n next (op_made l own ranges next code out vs).locals
        → P (op_made l own ranges next code out vs).statements
    op_right own next (O.Unary op) (Some z) (x ∷ []) h long leads are =
        let r = reads l none_own ranges next (ReadsRange x ∷ []) in
        let e = (read_one l ranges next x).word in
        let make : ℕ → Stmt = λ v. S.Assign v (unary_node op z.size e) in
        let all = reads_right none_own next (ReadsRange x ∷ []) (h.1.0, tt)
        (locals_front ws n next r.locals (sets l ranges (next + length r.locals) (Some z) make).locals are) in
        computes_right next z r make all.loads h.1.1 are
        (λ v is. kinds.assign v z.size 18 (unary_node op z.size e) is
        (unary_fits ws n op x.size z.size e h.0 ((h.1.1).0).0 ((h.1.1).0).1 all.words.0.1))
    op_right own next (O.Binary op) (Some z) (x ∷ y ∷ []) h long leads are =
        let r = reads l none_own ranges next (ReadsRange x ∷ ReadsRange y ∷ []) in
        let d = (read_one l ranges next x).word in
        let e = (read_one l ranges (behind_one next x) y).word in
        let make : ℕ → Stmt = λ v. S.Assign v (binary_node op x.size y.offset z.size d e) in
        let all = reads_right none_own next (ReadsRange x ∷ ReadsRange y ∷ []) ((h.1.0).0, ((h.1.0).1, tt))
        (locals_front ws n next r.locals (sets l ranges (next + length r.locals) (Some z) make).locals are) in
        let narrow : IsNarrow x = ((h.1.0).0).0 in
        computes_right next z r make all.loads h.1.1 are
        (λ v is. kinds.assign v z.size 18 (binary_node op x.size y.offset z.size d e) is
        (binary_fits ws n x.size y.offset y.size z.size d e ((h.1.1).0).0 ((h.1.1).0).1 all.words.0.1 all.words.1.0.1
        op narrow.0 narrow.1 h.0.1))
    op_right own next (O.Divide op) (Some z) (x ∷ y ∷ []) h long leads are =
        let r = reads l none_own ranges next (ReadsRange x ∷ ReadsRange y ∷ []) in
        let d = (read_one l ranges next x).word in
        let e = (read_one l ranges (behind_one next x) y).word in
        let make : ℕ → Stmt = divides l op y d e in
        let all = reads_right none_own next (ReadsRange x ∷ ReadsRange y ∷ []) ((h.1.0).0, ((h.1.0).1, tt))
        (locals_front ws n next r.locals (sets l ranges (next + length r.locals) (Some z) make).locals are) in
        let of_x : Fits ws n d z.size 16 = as_wide ws n d x.size z.size 16 h.0.0 all.words.0.1 in
        let of_y : Fits ws n e z.size 16 = as_wide ws n e y.size z.size 16 h.0.1 all.words.1.0.1 in
        computes_right next z r make all.loads h.1.1 are
        (λ v is. divided_right op z.size d ((h.1.1).0).0 ((h.1.1).0).1 of_x v is (kind_of l y.space)
        (behind_one next x) y h.0.1 ((h.1.0).1).1 of_y)
    op_right own next O.Load (Some z) (s ∷ x ∷ []) h long leads are =
        load_right (own 0) next z s x h.0 h.1.0 h.1.1 are
    op_right own next O.Store None (s ∷ x ∷ y ∷ []) h long leads are =
        store_right (own 0) next s x y h.0 h.1.0 h.1.1 are
    op_right own next O.Branch None (to ∷ []) h long leads are = kinds.none
    op_right own next O.CBranch None (to ∷ x ∷ []) h long leads are = kinds.none
    op_right own next O.Return None (to ∷ []) h long leads are = kinds.none
    op_right own next O.Call None (to ∷ []) h long leads are =
        call_right own (does_return (callee_at l to.offset)) next to.offset refl long h leads are
    op_right own next O.CallInd None (to ∷ []) h long leads are = indirect_right own next to h.0 h.1 are
    op_right own next O.CallOther out (index ∷ vs) h long leads are = other_right next out index vs h.0 h.1 long are
    op_right own next code out vs h long leads are = absurd h

    made_right : (own : Own) (next : ℕ) (here : Standing)
        → IsPlain l own ranges here
        → StandsLong here
        → (turn_in l here ≡ Stops → ⊥)
        → AreLocals ws n next (made_in l own ranges next here).locals
        → P (made_in l own ranges next here).statements
    made_right own next Nothing h long leads are = absurd h
    made_right own next (Passes i) h long leads are = kinds.none
    made_right own next (Does i op) h long leads are = op_right own next op.code op.out op.inputs h long leads are

    -- ---- exits

    abbrev Leaves : WayOut → Type 0
    Leaves out = B out.loads out.exit

    start_below : (to : Option Place) (b : ℕ) → IsStart starts to b → b < length starts
    start_below to b h = slice_get_within starts b h.0 h.1.1

    jump_right : (next : ℕ) (here : Standing) (to : Option Place) (e : flow_exit.Exit)
        → JumpsTo starts to e
        → Leaves (way_out l ranges next here e)
    jump_right next here to F.Return h = absurd h
    jump_right next here to (F.Jump b) h = kinds.jump b (start_below to b h)
    jump_right next here to (F.Test a b) h = absurd h
    jump_right next here to (F.Switch t ns) h = absurd h
    jump_right next here to F.Stop h = absurd h

    -- the condition is read, unless both ways lead to one block
    test_if : (next : ℕ) (c : Varnode) (a b : ℕ) (same : Bool)
        → c.size ≡ 1
        → IsOperand l ranges c
        → a < length starts
        → b < length starts
        → (let out = cond same (directly (X.Jump a)) (tests (read_one l ranges next c) a b) in
        AreLocals ws n next out.locals → Leaves out)
    test_if next c a b true byte h la lb are = kinds.jump a la
    test_if next c a b false byte h la lb are =
        let r = operand_right next c h are in
        let e = (read_one l ranges next c).word in
        let loads = (read_one l ranges next c).loads in
        let R : List Stmt → Type 0 = λ xs. B xs (X.Test e a b) in
        subst R (append-nil loads)
        (kinds.before loads [] (X.Test e a b) r.loads (kinds.test e a b (as_wide ws n e c.size 1 16 byte r.word) la lb))

    test_right : (next : ℕ) (c : Varnode) (here : Standing) (to behind : Option Place) (e : flow_exit.Exit)
        → condition_in l ranges next here ≡ read_one l ranges next c
        → c.size ≡ 1
        → IsOperand l ranges c
        → TestsTo starts to behind e
        → AreLocals ws n next (way_out l ranges next here e).locals
        → Leaves (way_out l ranges next here e)
    test_right next c here to behind F.Return is byte h by are = absurd by
    test_right next c here to behind (F.Jump b) is byte h by are = absurd by
    test_right next c here to behind (F.Test a b) is byte h by are =
        let out : ReadOne → WayOut = λ r. cond (a == b) (directly (X.Jump a)) (tests r a b) in
        let R : ReadOne → Type 0 = λ r. AreLocals ws n next (out r).locals in
        let T : ReadOne → Type 0 = λ r. Leaves (out r) in
        subst T (sym is)
        (test_if next c a b (a == b) byte h (start_below to a by.0) (start_below behind b by.1) (subst R is are))
    test_right next c here to behind (F.Switch t ns) is byte h by are = absurd by
    test_right next c here to behind F.Stop is byte h by are = absurd by

    is_local : (k : SpaceKind) (v : Varnode) → IsLocalBy k ranges v → HasCover ranges v
    is_local Constant v h = absurd h
    is_local Ram v h = absurd h
    is_local Register v h = h
    is_local Unique v h = h

    result_right : (o : Option Varnode) → IsResult l ranges o → Gives l ranges ws n o
    result_right None h = tt
    result_right (Some v) h = (h.0, of_range v h.0 (is_local (kind_of l v.space) v h.1))

    return_right : (next : ℕ) (here : Standing) (e : flow_exit.Exit)
        → IsResult l ranges (proto_of l None).gives
        → e ≡ F.Return
        → Leaves (way_out l ranges next here e)
    return_right next here e h is =
        let R : flow_exit.Exit → Type 0 = λ x. Leaves (way_out l ranges next here x) in
        subst R (sym is) (kinds.returns (result_right (proto_of l None).gives h))

    call_leaves : (tables : List TableAt) (next : ℕ) (p : Place) (here : Standing) (t : Bool) (e : flow_exit.Exit)
        → (call_turn t ≡ Stops → ⊥)
        → LeavesBy tables starts p here (call_turn t) e
        → Leaves (way_out l ranges next here e)
    call_leaves tables next p here true e leads by = jump_right next here (next_in here p.index) e by
    call_leaves tables next p here false e leads by = absurd (leads refl)

    op_leaves : (own : Own) (t : List TableAt) (next : ℕ) (p : Place) (here : Standing) (code : Opcode) (out : Option Varnode)
        (vs : List Varnode) (e : flow_exit.Exit)
        → condition_in l ranges next here ≡ read_one l ranges next (varnode_at vs 1)
        → IsPlainOp l own ranges code out vs
        → (turn_of l code vs ≡ Stops → ⊥)
        → LeavesBy t starts p here (turn_of l code vs) e
        → AreLocals ws n next (way_out l ranges next here e).locals
        → Leaves (way_out l ranges next here e)
    op_leaves own t next p here (O.Unary op) out vs e is h leads by are = jump_right next here (next_in here p.index) e by
    op_leaves own t next p here (O.Binary op) out vs e is h leads by are = jump_right next here (next_in here p.index) e by
    op_leaves own t next p here (O.Divide op) out vs e is h leads by are = jump_right next here (next_in here p.index) e by
    op_leaves own t next p here O.Load out vs e is h leads by are = jump_right next here (next_in here p.index) e by
    op_leaves own t next p here O.Store out vs e is h leads by are = jump_right next here (next_in here p.index) e by
    op_leaves own t next p here O.Call None (to ∷ []) e is h leads by are =
        call_leaves t next p here (does_return (callee_at l to.offset)) e leads by
    op_leaves own t next p here O.CallInd None vs e is h leads by are = jump_right next here (next_in here p.index) e by
    op_leaves own t next p here O.CallOther out vs e is h leads by are = jump_right next here (next_in here p.index) e by
    op_leaves own t next p here O.Branch None (to ∷ []) e is h leads by are = jump_right next here _ e by
    op_leaves own t next p here O.CBranch None (to ∷ c ∷ []) e is h leads by are =
        test_right next c here _ _ e is h.0 h.1 by are
    op_leaves own t next p here O.Return None (to ∷ []) e is h leads by are = return_right next here e h.1 by
    op_leaves own t next p here code out vs e is h leads by are = absurd h

    -- ---- the last place of a block

    abbrev Ends : Made → WayOut → Type 0
    Ends here out = B (here.statements ++ out.loads) out.exit

    -- a call of a function that returns leads on, and any other is the block's last statement
    call_ends : (own : Own) (tables : List TableAt) (next a : ℕ) (p : Place) (here : Standing) (e : flow_exit.Exit) (t : Bool)
        → does_return (callee_at l a) ≡ t
        → a < 2 ^ 64
        → IsCallable l own ranges (proto_of l (callee_at l a))
        → LeavesBy tables starts p here (call_turn t) e
        → (let m = call_made t l own ranges next a (proto_of l (callee_at l a)) in
        let out = way_out l ranges (next + length m.locals) here e in
        AreLocals ws n next (m.locals ++ out.locals) → Ends m out)
    call_ends own tables next a p here e true is long h by are =
        let m = call_made true l own ranges next a (proto_of l (callee_at l a)) in
        let free = next + length m.locals in
        let out = way_out l ranges free here e in
        kinds.before m.statements out.loads out.exit
        (call_right own true next a is long h (λ f. absurd (cc)) (locals_front ws n next m.locals out.locals are))
        (jump_right free here (next_in here p.index) e by)
    call_ends own tables next a p here e false is long h by are =
        let proto = proto_of l (callee_at l a) in
        let r = passed l own ranges next proto in
        let m = call_made false l own ranges next a proto in
        let free = next + length m.locals in
        let out = way_out l ranges free here e in
        let all = passed_right own next proto h
        (locals_front ws n next r.locals [] (locals_front ws n next m.locals out.locals are)) in
        let R : flow_exit.Exit → Type 0 = λ x. Ends m (way_out l ranges free here x) in
        let T : List Stmt → Type 0 = λ xs. B xs X.Stop in
        subst R (sym by) (subst T (sym (append-nil m.statements))
        (kinds.before r.loads (S.Call None a r.words ∷ []) X.Stop all.loads
        (kinds.stops a r.words long is all.words)))

    lead_ends : (own : Own) (tables : List TableAt) (next : ℕ) (p : Place) (here : Standing) (code : Opcode) (o : Option Varnode)
        (vs : List Varnode) (e : flow_exit.Exit)
        → ((k : ℕ) → condition_in l ranges k here ≡ read_one l ranges k (varnode_at vs 1))
        → IsPlainOp l own ranges code o vs
        → NamesLong code vs
        → (turn_of l code vs ≡ Stops → ⊥)
        → LeavesBy tables starts p here (turn_of l code vs) e
        → (let m = op_made l own ranges next code o vs in
        let out = way_out l ranges (next + length m.locals) here e in
        AreLocals ws n next (m.locals ++ out.locals) → Ends m out)
    lead_ends own tables next p here code o vs e is h long leads by are =
        let m = op_made l own ranges next code o vs in
        let free = next + length m.locals in
        let out = way_out l ranges free here e in
        kinds.before m.statements out.loads out.exit
        (op_right own next code o vs h long leads (locals_front ws n next m.locals out.locals are))
        (op_leaves own tables free p here code o vs e (is free) h leads by (locals_back ws n next m.locals out.locals are))

    op_ends : (own : Own) (tables : List TableAt) (next : ℕ) (p : Place) (here : Standing) (code : Opcode) (o : Option Varnode)
        (vs : List Varnode) (e : flow_exit.Exit)
        → ((k : ℕ) → condition_in l ranges k here ≡ read_one l ranges k (varnode_at vs 1))
        → IsPlainOp l own ranges code o vs
        → NamesLong code vs
        → LeavesBy tables starts p here (turn_of l code vs) e
        → (let m = op_made l own ranges next code o vs in
        let out = way_out l ranges (next + length m.locals) here e in
        AreLocals ws n next (m.locals ++ out.locals) → Ends m out)
    op_ends own tables next p here O.Call None (to ∷ []) e is h long by are =
        call_ends own tables next to.offset p here e (does_return (callee_at l to.offset)) refl long h by are
    op_ends own tables next p here O.Call o vs e is h long by are = absurd h
    op_ends own tables next p here code o vs e is h long by are =
        lead_ends own tables next p here code o vs e is h long (λ f. absurd (cc)) by are

    last_right : (own : Own) (tables : List TableAt) (next : ℕ) (p : Place) (here : Standing) (e : flow_exit.Exit)
        → IsPlain l own ranges here
        → StandsLong here
        → LeavesBy tables starts p here (turn_in l here) e
        → (let m = made_in l own ranges next here in
        let out = way_out l ranges (next + length m.locals) here e in
        AreLocals ws n next (m.locals ++ out.locals) → Ends m out)
    last_right own tables next p Nothing e h long by are = absurd h
    last_right own tables next p (Passes i) e h long by are =
        jump_right (next + 0) (Passes i) (next_in (Passes i) p.index) e by
    last_right own tables next p (Does i op) e h long by are =
        op_ends own tables next p (Does i op) op.code op.out op.inputs e (λ k. refl) h long by are

    -- ---- blocks

    module _ (own : Place → Own) where
      abbrev PlainIn : List Place → Type 0
      PlainIn ps = (q : Place) → IsIn q ps → IsPlain l (own q) ranges (standing l q) × StandsLong (standing l q)

      places_right : (t : List TableAt) (next : ℕ) (ps : List Place) (e : flow_exit.Exit)
          → PlainIn ps
          → RunsBlock l t starts ps e
          → AreLocals ws n next (places_made l own ranges next ps e).locals
          → B (places_made l own ranges next ps e).block.body (places_made l own ranges next ps e).block.exit
      places_right t next [] e plain runs are = absurd runs
      places_right t next (p ∷ []) e plain runs are =
          let h = plain p (inl refl) in
          last_right (own p) t next p (standing l p) e h.0 h.1 runs are
      places_right t next (p ∷ q ∷ ps) e plain runs are =
          let here = place_made l own ranges next p in
          let rest = places_made l own ranges (next + length here.locals) (q ∷ ps) e in
          let h = plain p (inl refl) in
          let leads : (turn_at l p ≡ Stops → ⊥) =
          λ f. let on : GoesOn ≡ Stops = sym runs.0.goes_on ∙ f in absurd (cc) in
          let made = made_right (own p) next (standing l p) h.0 h.1 leads (locals_front ws n next here.locals rest.locals are) in
          let more = places_right t (next + length here.locals) (q ∷ ps) e (λ r h. plain r (inr h)) runs.1
          (locals_back ws n next here.locals rest.locals are) in
          kinds.before here.statements (rest.block).body (rest.block).exit made more

      -- Where a flow's blocks have places of the form, and the locals are variables: all blocks.
      pub blocks_right : (t : List TableAt) (next : ℕ) (blocks : List flow_block.Block)
          → PlainIn (places_of blocks)
          → AllRun l t starts blocks
          → AreLocals ws n next (blocks_made l own ranges next blocks).locals
          → AllHold B (blocks_made l own ranges next blocks).blocks
      blocks_right t next [] plain all are = tt
      blocks_right t next (b ∷ blocks) plain all are =
          let here = block_made l own ranges next b in
          let rest = blocks_made l own ranges (next + length here.locals) blocks in (
            places_right t next b.places b.exit (λ q h. plain q (in_front b.places (places_of blocks) q h)) all.0
                (locals_front ws n next here.locals rest.locals are),
            blocks_right t (next + length here.locals) blocks (λ q h. plain q (behind b.places (places_of blocks) q h))
                all.1 (locals_back ws n next here.locals rest.locals are),
          )
