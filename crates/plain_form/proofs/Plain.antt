-- What stands at a reached place of a supported listing has the form that the plain lowering asks for.
use Rattle.std.proofs.Common.{◌≡◌, ◌<◌, ◌++◌, ℕ, suc, ap, true, false, List, [], ◌∷◌, Option, Some, None, length, refl, inl, inr, sym, subst, ◌∙◌, arith}
use Rattle.std.specs.Prelude.{◌&&◌, not, IfSome, IsSome}
use Rattle.std.specs.List.{AllByRecursion}
use Rattle.std.proofs.lemmas.Bool.{and_parts, eqb-true, not-false}
use Rattle.bits_core.specs.Value.{limit}
use Rattle.bits_core.specs.declared.ops.Divide.{Divide}
use Rattle.bits_core.specs.declared.ops.Unary.{Unary}
use Rattle.bits_core.specs.declared.ops.Binary.{Binary}
use Rattle.bits_core.specs.declared.ops.Binary.TheVariants as B
use Rattle.pcode_model.specs.declared.opcode.Opcode.{Opcode}
use Rattle.pcode_model.specs.declared.opcode.Opcode.TheVariants as O
use Rattle.pcode_model.specs.declared.listing.SpaceKind.{SpaceKind}
use Rattle.pcode_model.specs.declared.listing.SpaceKind.TheVariants.{Constant, Ram, Register, Unique}
use Rattle.pcode_model.specs.declared.listing.Op.{Op}
use Rattle.pcode_model.specs.declared.listing.Place.{Place}
use Rattle.pcode_model.specs.declared.listing.Varnode.{Varnode}
use Rattle.pcode_model.specs.declared.listing.Instruction.{Instruction}
use Rattle.pcode_model.specs.declared.listing.Listing.{Listing}
use Rattle.pcode_model.specs.declared.listing.Proto.{Proto}
use Rattle.pcode_model.specs.declared.listing.Storage.{Storage}
use Rattle.pcode_model.specs.declared.listing.Storage.TheVariants.{At, Stack}
use Rattle.pcode_model.specs.declared.rules.OpWhy.{OpWhy}
use Rattle.pcode_model.specs.declared.rules.OpWhy.TheVariants.{Arity, BadSpace, SizeRule}
use Rattle.pcode_model.specs.Memory.{Frame}
use Rattle.pcode_model.specs.Flow.{IsIn, Reached, Fails, NoFault, standing_ways}
use Rattle.pcode_model.specs.declared.flow.FlowWhy.TheVariants.{NoTarget}
use Rattle.pcode_model.specs.Spaces.{first_ram, kind_of, register_space}
use Rattle.pcode_model.specs.Places.{Standing, Nothing, Passes, Does, standing}
use Rattle.pcode_model.specs.Step.{Operand, ReadsStack, all_read, arguments, callee_at, operands, proto_of, size_out, varnode_at}
use Rattle.pcode_model.specs.Atoms.{Accesses, IsLocal, further_ranges, one_range, op_ranges, ranges_in, ranges_read}
use Rattle.pcode_model.specs.Rules.{breaks, first_bad, has_operands, inputs_stand, leaves_space, names_ram, operands_of, output_is_constant, rules, sizes_fit}
use Rattle.pcode_model.specs.WellFormed.{IsArgument, IsStorage, IsWellFormed, ShareNothing}
use Rattle.supported.specs.Supported.{HasBuiltOps, is_supported_code}
use Rattle.stackvars.specs.Accesses.{passed}
use Rattle.stackvars.proofs.Ops.{read_all}
use Rattle.stackvars.proofs.Passed.{reads_passed}
use Rattle.op_code.specs.Cover.{HasCover}
use Rattle.op_code.specs.Form.{AllOperands, HasPointer, IsCallable, IsDirect, IsFramed, IsGiven, IsLoad, IsLocalBy, IsMemory, IsOnStack, IsOperand, IsOperandBy, IsOutput, IsOutputBy, IsPlainOp, IsResult, IsSecond, IsSplitBy, IsStore}
use Rattle.op_code.specs.Made.{Own, none_own}
use Rattle.op_code.specs.Lowerable.{IsPlain}
use Rattle.pcode_model.proofs.Members.{behind, in_front}
use Rattle.pcode_laws.proofs.Rules.{breaks_none}
use Rattle.pcode_laws.proofs.Sizes.{binary_is, two_of, unary_is}
use Rattle.frame_facts.proofs.Counted.{counted, of_one, of_three, of_two, third, with_output, without_output}
use Rattle.instructions.proofs.Standing.{StandsIn, stands_in}
use Rattle.plain_form.proofs.Standing.{supported_in}
use Rattle.plain_form.proofs.Spaces.{differ, first_constant, same_is}
use Rattle.plain_form.proofs.Memory.{memory_is}
use Rattle.plain_form.proofs.Formed.{IsInput, IsWritten}
use Rattle.plain_form.proofs.Prototypes.{IsDeclared, callee_declared, own_declared}
use Rattle.plain_form.proofs.Read.{output as written, register_home, register_kind, result_home, result_inside, storage_home, unique_home}
use Rattle.frame_facts.specs.Accesses.{Reach, only_memory, reaches, stack_reaches}
use Rattle.frame_facts.proofs.Prototypes.{offsets_are}
use Rattle.frame_facts.proofs.Reaches.{memory_reach, one_byte, reach_of}
use Rattle.plain_form.proofs.Accessed.{operand_input, pointer_storage}
use Rattle.frame_facts.proofs.Bounded.{past_read}
use Rattle.plain_form.proofs.Halves.{first_ram_is}
use Rattle.plain_form.proofs.Owned.{IsOwned}
use Rattle.plain_form.proofs.Rules.{ends_within}

-- ---- operands

constant_fits : (l : Listing) (v : Varnode) → IsInput l v → kind_of l v.space ≡ Constant → v.offset < limit v.size
unfolding limit
constant_fits l v known e = known.fits e

module _ (l : Listing) (read : IsWellFormed l) (good : first_bad l ≡ None) (ranges : List Varnode) where
  -- a range of memory that ends within its space is direct
  direct_is : (v : Varnode)
      → 0 < v.size
      → leaves_space l v ≡ false
      → kind_of l v.space ≡ Ram
      → IsDirect l v
  direct_is v some stays e =
      let P : ℕ → Type 0 = λ n. kind_of l n ≡ Ram in
      let first = first_constant l.spaces read.spaces in
      let other : v.space ≡ 0 → ⊥ = λ f. differ Ram Constant refl (sym first ∙ subst P f e) in
      let within = ends_within l v other stays in
      (memory_is l read v.space e, omega (arith, some, within))

  operand_by : (v : Varnode) (k : SpaceKind)
      → kind_of l v.space ≡ k
      → IsInput l v
      → (IsLocal l v.space → HasCover ranges v)
      → IsOperandBy k l ranges v
  operand_by v Constant e known has = constant_fits l v known e
  operand_by v Ram e known has = direct_is v known.some known.stays e
  operand_by v Register e known has = has (inl (register_home l read good v.space e))
  operand_by v Unique e known has = has (inr (unique_home l read good v.space e))

  output_by : (v : Varnode) (k : SpaceKind)
      → kind_of l v.space ≡ k
      → IsWritten l v
      → (IsLocal l v.space → HasCover ranges v)
      → IsOutputBy k l ranges v
  output_by v Constant e known has = absurd (known.variable e)
  output_by v Ram e known has = direct_is v known.some known.stays e
  output_by v Register e known has = has (inl (register_home l read good v.space e))
  output_by v Unique e known has = has (inr (unique_home l read good v.space e))

result_by : (k : SpaceKind) (ranges : List Varnode) (v : Varnode)
    → k ≡ Register
    → HasCover ranges v
    → IsLocalBy k ranges v
result_by Constant ranges v e has = absurd (cc)
result_by Ram ranges v e has = absurd (cc)
result_by Register ranges v e has = has
result_by Unique ranges v e has = absurd (cc)

-- ---- the form of an op

module _ (l : Listing) (read : IsWellFormed l) (own : Own) (ranges : List Varnode) where
  abbrev op_of : Opcode → Option Varnode → List Varnode → Op
  op_of code out vs = record { code = code; out = out; inputs = vs }

  -- what is known of an op of a supported listing
  record Known (code : Opcode) (out : Option Varnode) (vs : List Varnode) : Type 0 where
    sizes : sizes_fit code (size_out out) vs ≡ true
    stands : inputs_stand l code vs ≡ true
    inputs : (v : Varnode) → IsIn v (ranges_read (operands l code vs)) → IsOperand l ranges v
    output : (v : Varnode) → IsIn v (one_range out) → IsOutput l ranges v
    result : code ≡ O.Return → IsResult l ranges (proto_of l None).gives
    owned : (n c : ℕ) → own n ≡ Some c → IsOwned l ranges (op_of code out vs) n c
    callable : (p : Proto)
        → IsDeclared l p
        → ((v : Varnode) → IsIn v (passed p.args) → IsIn v (ranges_read (operands l code vs)))
        → ((v : Varnode) → IsIn v (one_range p.gives ++ one_range l.stack) → IsIn v (further_ranges l None code vs))
        → ((r : Reach) → IsIn r (reaches l (op_of code out vs)) → IsIn r (stack_reaches l.stack (arguments 0 p.args)))
        → IsCallable l own ranges p

  abbrev HasForm : Opcode → Option Varnode → List Varnode → Type 0
  HasForm code out vs = Known code out vs → IsPlainOp l own ranges code out vs

  named_memory : (s : Varnode) → names_ram l s ≡ true → IsMemory l s.offset
  named_memory s h = memory_is l read s.offset (sym (same_is Ram (kind_of l s.offset) (and_parts _ _ h).1))

  second_is : (op : Binary) (x y : Varnode) → inputs_stand l (O.Binary op) (x ∷ y ∷ []) ≡ true → IsSecond l op y
  second_is B.Subpiece x y h =
      let P : ℕ → Type 0 = λ n. kind_of l n ≡ Constant in
      subst P (sym (eqb-true y.space 0 h)) (first_constant l.spaces read.spaces)
  second_is op x y h = tt

  unary_form : (op : Unary) (z x : Varnode) → HasForm (O.Unary op) (Some z) (x ∷ [])
  unary_form op z x k =
      (unary_is op x.size z.size k.sizes, (k.inputs x (inl refl), k.output z (inl refl)))

  binary_form : (op : Binary) (z x y : Varnode) → HasForm (O.Binary op) (Some z) (x ∷ y ∷ [])
  binary_form op z x y k = (
    (second_is op x y k.stands, binary_is op x.size y.size z.size k.sizes),
    ((k.inputs x (inl refl), k.inputs y (inr (inl refl))), k.output z (inl refl)),
  )

  divide_form : (op : Divide) (z x y : Varnode) → HasForm (O.Divide op) (Some z) (x ∷ y ∷ [])
  divide_form op z x y k = (
    two_of x.size y.size z.size k.sizes,
    ((k.inputs x (inl refl), k.inputs y (inr (inl refl))), k.output z (inl refl)),
  )

  -- what an access of the frame by a LOAD or STORE is
  own_memory : (vs : List Varnode) (c k : ℕ) (r : Reach)
      → IsIn r (only_memory l vs k)
      → IsFramed l ranges c r.size
      → ((varnode_at vs 0).offset ≡ first_ram l) × IsFramed l ranges c k
  own_memory vs c k r is framed =
      let m = memory_reach l vs k r is in
      (eqb-true _ _ m.0, subst (IsFramed l ranges c) (ap (λ (x : Reach). x.size) m.1) framed)

  load_form : (z s x : Varnode) → HasForm O.Load (Some z) (s ∷ x ∷ [])
  load_form z s x k = (by (own 0) refl, (k.inputs x (inl refl), k.output z (inl refl))) where
    by : (o : Option ℕ) → own 0 ≡ o → IsLoad o l ranges s z
    by None e = named_memory s k.stands
    by (Some c) e = let r = k.owned 0 c e in own_memory (s ∷ x ∷ []) c z.size r.by r.is_by r.framed

  store_form : (s x y : Varnode) → HasForm O.Store None (s ∷ x ∷ y ∷ [])
  store_form s x y k = (by (own 0) refl, (k.inputs x (inl refl), k.inputs y (inr (inl refl)))) where
    by : (o : Option ℕ) → own 0 ≡ o → IsStore o l ranges s y
    by None e = named_memory s k.stands
    by (Some c) e = let r = k.owned 0 c e in own_memory (s ∷ x ∷ y ∷ []) c y.size r.by r.is_by r.framed

  test_form : (to x : Varnode) → HasForm O.CBranch None (to ∷ x ∷ [])
  test_form to x k = (eqb-true x.size 1 k.sizes, k.inputs x (inl refl))

  return_form : (to : Varnode) → HasForm O.Return None (to ∷ [])
  return_form to k = (k.inputs to (inl refl), k.result refl)

  passed_read : (args : List Storage) (v : Varnode) → IsIn v (passed args) → IsIn v (ranges_read (arguments 0 args))
  passed_read args v is = let P : List Varnode → Type 0 = λ xs. IsIn v xs in subst P (sym (reads_passed 0 args)) is

  call_form : (to : Varnode) → HasForm O.Call None (to ∷ [])
  call_form to k =
      let p = proto_of l (callee_at l to.offset) in
      k.callable p (callee_declared l read to.offset) (passed_read p.args) (λ v is. is) (λ r is. is)

  indirect_form : (to : Varnode) → HasForm O.CallInd None (to ∷ [])
  indirect_form to k =
      let p = proto_of l None in (
        k.inputs to (inl refl),
        k.callable p (own_declared l read) (λ v is. inr (passed_read p.args v is)) (λ v is. is)
            (λ r is. past_read l.stack to (arguments 0 p.args) r is),
      )

  all_operands : (vs : List Varnode)
      → ((v : Varnode) → IsIn v vs → IsOperand l ranges v)
      → AllOperands l none_own ranges (all_read vs)
  all_operands [] f = tt
  all_operands (v ∷ vs) f = (f v (inl refl), all_operands vs (λ w is. f w (inr is)))

  may_be_set : (out : Option Varnode)
      → ((z : Varnode) → IsIn z (one_range out) → IsOutput l ranges z)
      → IfSome out (IsOutput l ranges)
  may_be_set None f = tt
  may_be_set (Some z) f = f z (inl refl)

  other_form : (out : Option Varnode) (index : Varnode) (vs : List Varnode) → HasForm O.CallOther out (index ∷ vs)
  other_form out index vs k = (
    all_operands vs (λ v is. k.inputs v
        (let P : List Varnode → Type 0 = λ xs. IsIn v xs in subst P (sym (read_all vs)) is)),
    may_be_set out k.output,
  )

  -- by the operation
  form_of : (code : Opcode) (out : Option Varnode) (vs : List Varnode)
      → is_supported_code code ≡ true
      → has_operands (operands_of code) out (length vs) ≡ true
      → HasForm code out vs
  form_of (O.Unary op) out vs s ar =
      with_output (λ o. HasForm (O.Unary op) o vs) out (third _ _ _ ar)
      (λ z. of_one (HasForm (O.Unary op) (Some z)) vs (counted 1 _ _ ar) (unary_form op z))
  form_of (O.Binary op) out vs s ar =
      with_output (λ o. HasForm (O.Binary op) o vs) out (third _ _ _ ar)
      (λ z. of_two (HasForm (O.Binary op) (Some z)) vs (counted 2 _ _ ar) (binary_form op z))
  form_of (O.Divide op) out vs s ar =
      with_output (λ o. HasForm (O.Divide op) o vs) out (third _ _ _ ar)
      (λ z. of_two (HasForm (O.Divide op) (Some z)) vs (counted 2 _ _ ar) (divide_form op z))
  form_of O.Load out vs s ar =
      with_output (λ o. HasForm O.Load o vs) out (third _ _ _ ar)
      (λ z. of_two (HasForm O.Load (Some z)) vs (counted 2 _ _ ar) (load_form z))
  form_of O.Store out vs s ar =
      without_output (λ o. HasForm O.Store o vs) out (third _ _ _ ar)
      (of_three (HasForm O.Store None) vs (counted 3 _ _ ar) store_form)
  form_of O.Branch out vs s ar =
      without_output (λ o. HasForm O.Branch o vs) out (third _ _ _ ar)
      (of_one (HasForm O.Branch None) vs (counted 1 _ _ ar) (λ to k. tt))
  form_of O.CBranch out vs s ar =
      without_output (λ o. HasForm O.CBranch o vs) out (third _ _ _ ar)
      (of_two (HasForm O.CBranch None) vs (counted 2 _ _ ar) test_form)
  form_of O.Return out vs s ar =
      without_output (λ o. HasForm O.Return o vs) out (third _ _ _ ar)
      (of_one (HasForm O.Return None) vs (counted 1 _ _ ar) return_form)
  form_of O.BranchInd out vs s ar = absurd (cc)
  form_of O.Call out vs s ar =
      without_output (λ o. HasForm O.Call o vs) out (third _ _ _ ar)
      (of_one (HasForm O.Call None) vs (counted 1 _ _ ar) call_form)
  form_of O.CallInd out vs s ar =
      without_output (λ o. HasForm O.CallInd o vs) out (third _ _ _ ar)
      (of_one (HasForm O.CallInd None) vs (counted 1 _ _ ar) indirect_form)
  form_of O.CallOther out [] s ar = absurd (cc)
  form_of O.CallOther out (index ∷ vs) s ar = other_form out index vs
  form_of (O.Float name) out vs s ar = absurd (cc)
  form_of (O.FloatConversion op) out vs s ar = absurd (cc)
  form_of (O.Analysis op) out vs s ar = absurd (cc)
  form_of (O.LeftOut op) out vs s ar = absurd (cc)

-- ---- what stands at a reached place

module _
    (l : Listing)
    (read : IsWellFormed l)
    (good : first_bad l ≡ None)
    (sup : HasBuiltOps l)
    (f : Frame)
    (ranges : List Varnode)
    (has : (v : Varnode) → Accesses l [] v → HasCover ranges v)
    (splits : (p : Proto) (k : Varnode) → IsIn p l.protos → IsIn k p.keep → IsSplitBy l ranges k)
    (owned : (p : Place) (i : Instruction) (op : Op) (n c : ℕ)
    → standing l p ≡ Does i op
    → f.own p n ≡ Some c
    → IsOwned l ranges op n c)
  where
    module _ (p : Place) (reached : Reached l [] p) (i : Instruction) (op : Op) (here : standing l p ≡ Does i op) where
      stand : StandsIn l.code i op
      stand = stands_in l p i op here

      obeys : (why : OpWhy) → IsIn why rules → breaks l op why ≡ false
      obeys why is = breaks_none l good i stand.code_has op stand.ops_have why is

      -- a register or unique range of the op has a cover
      covered : (v : Varnode) → IsLocal l v.space → IsIn v (op_ranges l None op) → HasCover ranges v
      covered v home is =
          let P : Standing → Type 0 = λ s. IsIn v (ranges_in l None s) in
          has v (record { at = p; reached = reached; range = subst P (sym here) is; is_local = home })

      spaces : (not (output_is_constant op.out) && inputs_stand l op.code op.inputs) ≡ true
      spaces = not-false _ (obeys BadSpace (inr (inr (inr (inr (inl refl))))))

      code : is_supported_code op.code ≡ true
      unfolding stand
      code = supported_in l.code sup i op stand

      operand : (v : Varnode) → IsIn v (ranges_read (operands l op.code op.inputs)) → IsOperand l ranges v
      unfolding stand
      operand v is =
          let known = operand_input l read good sup i op stand v is in (
            (known.some, known.narrow),
            operand_by l read good ranges v (kind_of l v.space) refl known
                (λ home. covered v home (in_front (ranges_read (operands l op.code op.inputs)) _ v is)),
          )

      assigned : (v : Varnode) → IsIn v (one_range op.out) → IsOutput l ranges v
      unfolding stand
      assigned v is =
          let known = written l read good i op stand v is in (
            (known.some, known.narrow),
            output_by l read good ranges v (kind_of l v.space) refl known
                (λ home. covered v home (behind (ranges_read (operands l op.code op.inputs)) _ v
                (in_front (one_range op.out) _ v is))),
          )

      given : (gives : Option Varnode)
          → (proto_of l None).gives ≡ gives
          → op.code ≡ O.Return
          → IsResult l ranges gives
      given None e is = tt
      given (Some v) e is =
          let Q : Option Varnode → Type 0 = λ o. IsIn v (one_range o) in
          let P : Opcode → Type 0 = λ c. IsIn v (further_ranges l None c op.inputs) in
          let result : IsIn v (one_range (proto_of l None).gives) = subst Q (sym e) (inl refl) in
          let further : IsIn v (further_ranges l None op.code op.inputs) = subst P (sym is) result in
          let accessed =
          behind (ranges_read (operands l op.code op.inputs)) _ v (behind (one_range op.out) _ v further) in
          let known = result_inside l read good v result in
          let home : v.space ≡ register_space l = result_home l read good v result in (
            (known.some, known.narrow),
            result_by (kind_of l v.space) ranges v (register_kind l read good v.space home)
                (covered v (inl home) accessed),
          )

      -- ---- what is called

      covered_further : (v : Varnode)
          → IsLocal l v.space
          → IsIn v (further_ranges l None op.code op.inputs)
          → HasCover ranges v
      covered_further v home further =
          covered v home
          (behind (ranges_read (operands l op.code op.inputs)) _ v (behind (one_range op.out) _ v further))

      -- the stack pointer, where a call accesses it
      pointer_given : (sp : Varnode)
          → l.stack ≡ Some sp
          → IsIn sp (further_ranges l None op.code op.inputs)
          → IsGiven l ranges sp
      pointer_given sp is further =
          let known = pointer_storage l read sp is in
          let home = storage_home l read good sp known in
          (home, ((known.register.some, known.few), covered_further sp (inl home) further))

      has_pointer : (sp : Varnode)
          → l.stack ≡ Some sp
          → IsIn sp (further_ranges l None op.code op.inputs)
          → HasPointer l ranges
      has_pointer sp is further = record {
        pointer = sp;
        is = is;
        given = pointer_given sp is further;
        memory = memory_is l read (first_ram l) (first_ram_is l read);
        wide = offsets_are l read sp is;
        word = one_byte l read;
      }

      module _ (q : Proto)
          (further : (v : Varnode) → IsIn v (one_range l.stack) → IsIn v (further_ranges l None op.code op.inputs))
          (reached_by : (r : Reach) → IsIn r (reaches l op) → IsIn r (stack_reaches l.stack (arguments 0 q.args)))
        where
          on_stack : (sp : Varnode)
              → l.stack ≡ Some sp
              → (n offset size : ℕ)
              → IsIn (ReadsStack n offset size) (arguments 0 q.args)
              → (o : Option ℕ)
              → f.own p n ≡ o
              → IsOnStack o l ranges size
          on_stack sp is n offset size among None e =
              has_pointer sp is (further sp (subst (λ o. IsIn sp (one_range o)) (sym is) (inl refl)))
          on_stack sp is n offset size among (Some c) e =
              let own = owned p i op n c here e in
              let there = subst (λ o. IsIn own.by (stack_reaches o (arguments 0 q.args))) is
              (reached_by own.by own.is_by) in
              let only = reach_of sp 0 q.args n offset size own.by among there own.number in
              subst (IsFramed l ranges c) (ap (λ (r : Reach). r.size) only) own.framed

          all_passed : (args : List Storage)
              → AllByRecursion (IsArgument l.spaces l.stack) args
              → (j : ℕ)
              → ((x : Operand) → IsIn x (arguments j args) → IsIn x (arguments 0 q.args))
              → ((v : Varnode) → IsIn v (passed args) → IsOperand l ranges v)
              → AllOperands l (f.own p) ranges (arguments j args)
          all_passed [] all j among g = tt
          all_passed (At v ∷ args) all j among g =
              (g v (inl refl), all_passed args all.1 (suc j) (λ x is. among x (inr is)) (λ w is. g w (inr is)))
          all_passed (Stack offset size ∷ args) all j among g = (
            ((all.0.0, all.0.1), by l.stack refl all.0.3),
            all_passed args all.1 (suc j) (λ x is. among x (inr is)) g,
          )
            where
              by : (o : Option Varnode) → l.stack ≡ o → IsSome o → IsOnStack (f.own p j) l ranges size
              by None e some = absurd (cc)
              by (Some sp) e some = on_stack sp e j offset size (among _ (inl refl)) (f.own p j) refl

      given_by : (gives : Option Varnode)
          → IfSome gives (IsStorage l.spaces)
          → ((v : Varnode) → IsIn v (one_range gives) → IsIn v (further_ranges l None op.code op.inputs))
          → IfSome gives (IsGiven l ranges)
      given_by None is further = tt
      given_by (Some v) is further =
          let home = storage_home l read good v is in
          (home, ((is.register.some, is.few), covered_further v (inl home) (further v (inl refl))))

      all_split : (keep : List Varnode)
          → ((k : Varnode) → IsIn k keep → IsSplitBy l ranges k)
          → AllByRecursion (IsSplitBy l ranges) keep
      all_split [] f = tt
      all_split (k ∷ keep) f = (f k (inl refl), all_split keep (λ j is. f j (inr is)))

      all_apart : (gives stack : Option Varnode) (keep : List Varnode)
          → AllByRecursion (λ k. IfSome stack (ShareNothing k) × IfSome gives (ShareNothing k)) keep
          → AllByRecursion (λ k. IfSome gives (ShareNothing k)) keep × AllByRecursion (λ k. IfSome stack (ShareNothing k)) keep
      all_apart gives stack [] all = (tt, tt)
      all_apart gives stack (k ∷ keep) all =
          let rest = all_apart gives stack keep all.1 in ((all.0.1, rest.0), (all.0.0, rest.1))

      stack_given : (stack : Option Varnode)
          → l.stack ≡ stack
          → ((v : Varnode) → IsIn v (one_range l.stack) → IsIn v (further_ranges l None op.code op.inputs))
          → IfSome stack (IsGiven l ranges)
      stack_given None is further = tt
      stack_given (Some sp) is further =
          pointer_given sp is (further sp (subst (λ o. IsIn sp (one_range o)) (sym is) (inl refl)))

      callable : (q : Proto)
          → IsDeclared l q
          → ((v : Varnode) → IsIn v (passed q.args) → IsIn v (ranges_read (operands l op.code op.inputs)))
          → ((v : Varnode)
          → IsIn v (one_range q.gives ++ one_range l.stack)
          → IsIn v (further_ranges l None op.code op.inputs))
          → ((r : Reach) → IsIn r (reaches l op) → IsIn r (stack_reaches l.stack (arguments 0 q.args)))
          → IsCallable l (f.own p) ranges q
      callable q declared args further reached_by =
          let apart = all_apart q.gives l.stack q.keep declared.is.kept_apart in
          let pointer : (v : Varnode)
          → IsIn v (one_range l.stack)
          → IsIn v (further_ranges l None op.code op.inputs) =
          λ v is. further v (behind (one_range q.gives) (one_range l.stack) v is) in
          record {
            args = all_passed q pointer reached_by q.args declared.is.args 0 (λ x is. is) (λ v is. operand v (args v is));
            gives = given_by q.gives declared.is.gives
                (λ v is. further v (in_front (one_range q.gives) (one_range l.stack) v is));
            stack = stack_given l.stack refl pointer;
            kept = all_split q.keep (λ k is. splits q k declared.among is);
            kept_apart = apart.0;
            kept_off = apart.1;
            gives_off = declared.is.result_apart;
          }

      op_form : IsPlainOp l (f.own p) ranges op.code op.out op.inputs
      op_form = form_of l read (f.own p) ranges op.code op.out op.inputs code
          (not-false _ (obeys Arity (inr (inr (inr (inl refl))))))
          (record {
            sizes = not-false _ (obeys SizeRule (inr (inr (inr (inr (inr (inr (inr (inl refl)))))))));
            stands = (and_parts _ _ spaces).1;
            inputs = operand;
            output = assigned;
            result = given (proto_of l None).gives refl;
            owned = λ n c e. owned p i op n c here e;
            callable = callable;
          })

    module _ (fine : NoFault l []) (p : Place) (reached : Reached l [] p) where
      by_standing : (s : Standing) → standing l p ≡ s → IsPlain l (f.own p) ranges s
      by_standing Nothing e =
          let P : Standing → Type 0 = λ s. IsIn (Fails NoTarget) (standing_ways l [] p s) in
          absurd (fine p NoTarget (reached, inl (subst P (sym e) (inl refl))))
      by_standing (Passes i) e = tt
      by_standing (Does i op) e = op_form p reached i op e

      -- Whatever stands at a reached place has the form that the plain lowering asks for.
      pub plain_at : IsPlain l (f.own p) ranges (standing l p)
      plain_at = by_standing (standing l p) refl
