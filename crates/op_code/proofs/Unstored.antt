-- The locals of the plain lowering are no parameters: they have no storage.
use Rattle.std.proofs.Common.{◌≡◌, ℕ, zero, suc, ◌+◌, Bool, true, false, List, [], ◌∷◌, ◌++◌, drop, length, Option, Some, None, refl}
use Rattle.std.specs.Prelude.{◌==◌, cond}
use Rattle.pcode_model.specs.declared.listing.SpaceKind.{SpaceKind}
use Rattle.pcode_model.specs.declared.listing.SpaceKind.TheVariants.{Constant, Ram, Register, Unique}
use Rattle.pcode_model.specs.declared.listing.Varnode.{Varnode}
use Rattle.pcode_model.specs.declared.listing.Place.{Place}
use Rattle.pcode_model.specs.declared.listing.Listing.{Listing}
use Rattle.pcode_model.specs.declared.listing.Proto.{Proto}
use Rattle.pcode_model.specs.declared.opcode.Opcode.{Opcode}
use Rattle.pcode_model.specs.declared.opcode.Opcode.TheVariants as O
use Rattle.pcode_model.specs.declared.flow.Exit as flow_exit
use Rattle.pcode_model.specs.declared.flow.Exit.TheVariants as F
use Rattle.pcode_model.specs.declared.flow.Block as flow_block
use Rattle.pcode_model.specs.Places.{Standing, Nothing, Passes, Does, standing}
use Rattle.pcode_model.specs.Spaces.{kind_of}
use Rattle.pcode_model.specs.Rules.{past_first}
use Rattle.pcode_model.specs.Step.{Operand, Reads, ReadsStack, all_read, arguments, callee_at, proto_of, returns, varnode_at}
use Rattle.range_words.specs.Own.{frame_range}
use Rattle.cmeaning.specs.declared.tree.Stmt.{Stmt}
use Rattle.cmeaning.specs.declared.tree.Stmt.TheVariants as S
use Rattle.blockcode.specs.declared.code.Exit.TheVariants as X
use Rattle.blockcode.specs.declared.code.Variable.{Variable}
use Rattle.op_code.specs.Cover.{Piece, cover}
use Rattle.op_code.specs.Made.{Asking, Own, ReadOne, answered, asks, call_made, calls, computes, gives_back, indirect_read, loads_by, local_for, locals_by, none_own, op_made, passed, pops, pops_by, read_by, read_operand, read_stack, reads, sets, stores_by, word_at}
use Rattle.op_code.specs.Lowered.{block_made, blocks_made, condition_in, directly, made_in, place_made, places_made, tests, way_out}

abbrev pub AreUnstored : List Variable → Type 0
AreUnstored [] = Unit {0}
AreUnstored (v ∷ vs) = (v.storage ≡ None) × AreUnstored vs

unstored_append : (xs ys : List Variable) → AreUnstored xs → AreUnstored ys → AreUnstored (xs ++ ys)
unstored_append [] ys h g = g
unstored_append (x ∷ xs) ys h g = (h.0, unstored_append xs ys h.1 g)

module _ (l : Listing) (ranges : List Varnode) where
  read_unstored : (k : SpaceKind) (next : ℕ) (v : Varnode) → AreUnstored (read_by k l ranges next v).locals
  read_unstored Constant next v = tt
  read_unstored Ram next v = (refl, tt)
  read_unstored Register next v = tt
  read_unstored Unique next v = tt

  stack_unstored : (o : Option ℕ) (next offset size : ℕ) → AreUnstored (read_stack o l ranges next offset size).locals
  stack_unstored None next offset size = (refl, tt)
  stack_unstored (Some c) next offset size = tt

  operand_unstored : (own : Own) (next : ℕ) (x : Operand) → AreUnstored (read_operand l own ranges next x).locals
  operand_unstored own next (Reads v) = read_unstored (kind_of l v.space) next v
  operand_unstored own next (ReadsStack n offset size) = stack_unstored (own n) next offset size

  reads_unstored : (own : Own) (next : ℕ) (xs : List Operand) → AreUnstored (reads l own ranges next xs).locals
  reads_unstored own next [] = tt
  reads_unstored own next (x ∷ xs) =
      let one = read_operand l own ranges next x in
      let free = next + length one.locals in
      unstored_append one.locals (reads l own ranges free xs).locals (operand_unstored own next x)
      (reads_unstored own free xs)

  local_unstored : (ps : List Piece) (z : Varnode) → AreUnstored (local_for ps z)
  local_unstored [] z = (refl, tt)
  local_unstored (p ∷ []) z = tt
  local_unstored (p ∷ q ∷ ps) z = (refl, tt)

  output_unstored : (k : SpaceKind) (z : Varnode) → AreUnstored (locals_by k ranges z)
  output_unstored Constant z = local_unstored (cover ranges z) z
  output_unstored Ram z = (refl, tt)
  output_unstored Register z = local_unstored (cover ranges z) z
  output_unstored Unique z = local_unstored (cover ranges z) z

  -- behind what is read
  behind_unstored : (own : Own) (next : ℕ) (xs : List Operand) (locals : List Variable)
      → AreUnstored locals
      → AreUnstored ((reads l own ranges next xs).locals ++ locals)
  behind_unstored own next xs locals h =
      unstored_append (reads l own ranges next xs).locals locals (reads_unstored own next xs) h

  sets_unstored : (next : ℕ) (out : Option Varnode) (make : ℕ → Stmt) → AreUnstored (sets l ranges next out make).locals
  sets_unstored next None make = tt
  sets_unstored next (Some z) make = output_unstored (kind_of l z.space) z

  computes_unstored : (next : ℕ) (out : Option Varnode) (xs : List Operand) (make : ℕ → Stmt)
      → AreUnstored (computes l ranges next out (reads l none_own ranges next xs) make).locals
  computes_unstored next out xs make =
      let free = next + length (reads l none_own ranges next xs).locals in
      behind_unstored none_own next xs (sets l ranges free out make).locals (sets_unstored free out make)

  -- ---- LOAD and STORE

  load_unstored : (o : Option ℕ) (next : ℕ) (out : Option Varnode) (vs : List Varnode)
      → AreUnstored (loads_by o l ranges next out vs).locals
  load_unstored None next out vs = computes_unstored next out (Reads (varnode_at vs 1) ∷ []) _
  load_unstored (Some c) next out vs = sets_unstored next out _

  store_unstored : (o : Option ℕ) (next : ℕ) (vs : List Varnode) → AreUnstored (stores_by o l ranges next vs).locals
  store_unstored None next vs =
      behind_unstored none_own next (Reads (varnode_at vs 1) ∷ Reads (varnode_at vs 2) ∷ []) [] tt
  store_unstored (Some c) next vs =
      let range = frame_range l c (varnode_at vs 2).size in
      behind_unstored none_own next (Reads (varnode_at vs 2) ∷ []) (local_for (cover ranges range) range)
      (local_unstored (cover ranges range) range)

  -- ---- calls

  back_unstored : (next : ℕ) (p : Proto) (gives : Option Varnode) (make : Asking)
      → AreUnstored (gives_back l ranges next p gives make).locals
  back_unstored next p None make = tt
  back_unstored next p (Some z) make = local_unstored (cover ranges z) z

  pop_unstored : (st : Option Varnode) (pop next : ℕ) → AreUnstored (pops_by st pop l ranges next).locals
  pop_unstored None pop next = tt
  pop_unstored (Some sp) zero next = tt
  pop_unstored (Some sp) (suc n) next = local_unstored (cover ranges sp) sp

  calls_unstored : (own : Own) (next : ℕ) (p : Proto) (xs : List Operand) (make : Asking)
      → AreUnstored (calls l ranges next p (reads l own ranges next xs) make).locals
  calls_unstored own next p xs make =
      let free = next + length (reads l own ranges next xs).locals in
      let back = gives_back l ranges free p p.gives make in
      let pop = pops l ranges (free + length back.locals) p in
      behind_unstored own next xs (answered l ranges free p p.gives make).locals
      (unstored_append back.locals pop.locals (back_unstored free p p.gives make)
      (pop_unstored l.stack p.pop (free + length back.locals)))

  call_unstored : (t : Bool) (own : Own) (next a : ℕ) (p : Proto)
      → AreUnstored (call_made t l own ranges next a p).locals
  call_unstored true own next a p =
      calls_unstored own next p (arguments 0 p.args) (λ v. S.Call v a (passed l own ranges next p).words)
  call_unstored false own next a p = behind_unstored own next (arguments 0 p.args) [] tt

  other_unstored : (next : ℕ) (out : Option Varnode) (xs : List Operand) (make : Asking)
      → AreUnstored (asks l ranges next out (reads l none_own ranges next xs) make).locals
  other_unstored next None xs make = behind_unstored none_own next xs [] tt
  other_unstored next (Some z) xs make =
      let k = kind_of l z.space in
      behind_unstored none_own next xs (locals_by k ranges z) (output_unstored k z)

  -- ---- all ops

  op_unstored : (own : Own) (next : ℕ) (code : Opcode) (out : Option Varnode) (vs : List Varnode)
      → AreUnstored (op_made l own ranges next code out vs).locals
  op_unstored own next (O.Unary op) out vs = computes_unstored next out (Reads (varnode_at vs 0) ∷ []) _
  op_unstored own next (O.Binary op) out vs =
      computes_unstored next out (Reads (varnode_at vs 0) ∷ Reads (varnode_at vs 1) ∷ []) _
  op_unstored own next (O.Divide op) out vs =
      computes_unstored next out (Reads (varnode_at vs 0) ∷ Reads (varnode_at vs 1) ∷ []) _
  op_unstored own next O.Load out vs = load_unstored (own 0) next out vs
  op_unstored own next O.Store out vs = store_unstored (own 0) next vs
  op_unstored own next O.Call out vs =
      let f = callee_at l (varnode_at vs 0).offset in
      call_unstored (returns f) own next (varnode_at vs 0).offset (proto_of l f)
  op_unstored own next O.CallInd out vs =
      let p = proto_of l None in
      let r = indirect_read l own ranges next (varnode_at vs 0) p in
      calls_unstored own next p (Reads (varnode_at vs 0) ∷ arguments 0 p.args)
      (λ v. S.CallInd v (word_at r 0) (drop 1 r.words))
  op_unstored own next O.CallOther out vs = other_unstored next out (all_read (past_first vs)) _
  op_unstored own next code out vs = tt

  made_unstored : (own : Own) (next : ℕ) (here : Standing) → AreUnstored (made_in l own ranges next here).locals
  made_unstored own next Nothing = tt
  made_unstored own next (Passes i) = tt
  made_unstored own next (Does i op) = op_unstored own next op.code op.out op.inputs

  condition_unstored : (next : ℕ) (here : Standing) → AreUnstored (condition_in l ranges next here).locals
  condition_unstored next Nothing = tt
  condition_unstored next (Passes i) = tt
  condition_unstored next (Does i op) =
      let v = varnode_at op.inputs 1 in
      read_unstored (kind_of l v.space) next v

  test_unstored : (c : ReadOne) (m n : ℕ) (same : Bool)
      → AreUnstored c.locals
      → AreUnstored (cond same (directly (X.Jump m)) (tests c m n)).locals
  test_unstored c m n true h = tt
  test_unstored c m n false h = h

  way_unstored : (next : ℕ) (here : Standing) (e : flow_exit.Exit)
      → AreUnstored (way_out l ranges next here e).locals
  way_unstored next here F.Return = tt
  way_unstored next here (F.Jump n) = tt
  way_unstored next here (F.Test m n) =
      test_unstored (condition_in l ranges next here) m n (m == n) (condition_unstored next here)
  way_unstored next here (F.Switch t ns) = tt
  way_unstored next here F.Stop = tt

  module _ (own : Place → Own) where
    places_unstored : (next : ℕ) (ps : List Place) (e : flow_exit.Exit)
        → AreUnstored (places_made l own ranges next ps e).locals
    places_unstored next [] e = tt
    places_unstored next (p ∷ []) e =
        let here = place_made l own ranges next p in
        let free = next + length here.locals in
        unstored_append here.locals (way_out l ranges free (standing l p) e).locals
        (made_unstored (own p) next (standing l p)) (way_unstored free (standing l p) e)
    places_unstored next (p ∷ q ∷ ps) e =
        let here = place_made l own ranges next p in
        let free = next + length here.locals in
        unstored_append here.locals (places_made l own ranges free (q ∷ ps) e).locals
        (made_unstored (own p) next (standing l p)) (places_unstored free (q ∷ ps) e)

    -- No local of any blocks has a storage.
    pub blocks_unstored : (next : ℕ) (blocks : List flow_block.Block)
        → AreUnstored (blocks_made l own ranges next blocks).locals
    blocks_unstored next [] = tt
    blocks_unstored next (b ∷ blocks) =
        let here = block_made l own ranges next b in
        let free = next + length here.locals in
        unstored_append here.locals (blocks_made l own ranges free blocks).locals
        (places_unstored next b.places b.exit) (blocks_unstored free blocks)
