-- Each range of the register space or of the unique space that a supported listing accesses has 1 to 16 bytes and lies
-- inside its space.
use Rattle.std.proofs.Common.{◌≡◌, ◌≤◌, ◌+◌, ◌^◌, ◌⊎◌, Bool, true, false, List, [], ◌∷◌, ◌++◌, Option, Some, None, refl, inl, inr, sym, subst, arith}
use Rattle.std.specs.Prelude.{if◌then◌else◌}
use Rattle.pcode_model.specs.declared.opcode.Opcode.{Opcode}
use Rattle.pcode_model.specs.declared.opcode.Opcode.TheVariants as O
use Rattle.pcode_model.specs.declared.listing.Op.{Op}
use Rattle.pcode_model.specs.declared.listing.Place.{Place}
use Rattle.pcode_model.specs.declared.listing.Varnode.{Varnode}
use Rattle.pcode_model.specs.declared.listing.Instruction.{Instruction}
use Rattle.pcode_model.specs.declared.listing.Listing.{Listing}
use Rattle.pcode_model.specs.declared.listing.Proto.{Proto}
use Rattle.pcode_model.specs.Flow.{IsIn}
use Rattle.pcode_model.specs.Places.{Standing, Nothing, Passes, Does, standing}
use Rattle.pcode_model.specs.Rules.{first_bad, input_ranges, names_address, past_first}
use Rattle.pcode_model.specs.Spaces.{first_ram}
use Rattle.pcode_model.specs.Step.{arguments, callee_at, operands, proto_of, varnode_at}
use Rattle.pcode_model.specs.Atoms.{Accesses, IsLocal, further_ranges, one_range, op_ranges, ranges_in, ranges_read}
use Rattle.pcode_model.specs.WellFormed.{IsStorage, IsWellFormed}
use Rattle.pcode_model.proofs.Members.{in_either}
use Rattle.supported.specs.Supported.{HasBuiltOps, is_supported_code}
use Rattle.stackvars.proofs.Passed.{reads_passed}
use Rattle.stackvars.proofs.Reach.{of_rest, read_back, read_rest}
use Rattle.frame_facts.proofs.Few.{one_in}
use Rattle.plain_form.proofs.Halves.{first_ram_is, pointer_is}
use Rattle.plain_form.proofs.Memory.{memory_is}
use Rattle.plain_form.proofs.Prototypes.{IsDeclared, callee_declared, own_declared, passed_storage}
use Rattle.instructions.proofs.Standing.{StandsIn, stands_in}
use Rattle.plain_form.proofs.Standing.{supported_in}
use Rattle.plain_form.proofs.Formed.{IsInput, Inside}
use Rattle.plain_form.proofs.Read.{input, input_inside, output_inside, storage_input, storage_inside}

-- ---- what a supported op accesses: what it reads, its output, and at a call the result and the
-- stack pointer, and at a RETURN the result

module _ (l : Listing) (read : IsWellFormed l) where
  argument_is : (p : Proto)
      → IsDeclared l p
      → (v : Varnode)
      → IsIn v (ranges_read (arguments 0 p.args))
      → IsStorage l.spaces v
  argument_is p declared v h =
      let P : List Varnode → Type 0 = λ xs. IsIn v xs in
      passed_storage l read p.args declared.is.args v (subst P (reads_passed 0 p.args) h)

  -- What an op reads is one of its inputs that aren't addresses, or an argument of what it calls.
  pub operand_is : (code : Opcode) (vs : List Varnode)
      → is_supported_code code ≡ true
      → (v : Varnode)
      → IsIn v (ranges_read (operands l code vs))
      → IsIn v (input_ranges code vs) ⊎ IsStorage l.spaces v
  operand_is (O.Unary op) vs s v h = inl (read_back vs v h)
  operand_is (O.Binary op) vs s v h = inl (read_back vs v h)
  operand_is (O.Divide op) vs s v h = inl (read_back vs v h)
  operand_is O.Load vs s v h = inl (of_rest vs v (read_rest vs v h))
  operand_is O.Store vs s v h = inl (of_rest vs v (read_rest vs v h))
  operand_is O.Branch vs s v h = absurd h
  operand_is O.CBranch vs s v h = inl (by_test (names_address O.CBranch vs) (read_rest vs v h))
    where
      by_test : (b : Bool) → IsIn v (past_first vs) → IsIn v (if b then past_first vs else vs)
      by_test true k = k
      by_test false k = of_rest vs v k
  operand_is O.Return vs s v h = inl (read_back vs v h)
  operand_is O.BranchInd vs s v h = absurd (cc)
  operand_is O.Call [] s v h = absurd h
  operand_is O.Call (to ∷ vs) s v h =
      inr (argument_is (proto_of l (callee_at l to.offset)) (callee_declared l read to.offset) v h)
  operand_is O.CallInd [] s v h = absurd h
  operand_is O.CallInd (to ∷ vs) s v (inl e) = inl (inl e)
  operand_is O.CallInd (to ∷ vs) s v (inr h) = inr (argument_is (proto_of l None) (own_declared l read) v h)
  operand_is O.CallOther vs s v h = inl (of_rest vs v (read_rest vs v h))
  operand_is (O.Float name) vs s v h = absurd (cc)
  operand_is (O.FloatConversion op) vs s v h = absurd (cc)
  operand_is (O.Analysis op) vs s v h = absurd (cc)
  operand_is (O.LeftOut op) vs s v h = absurd (cc)

  -- The stack pointer is a range like a result's.
  pub pointer_storage : (sp : Varnode) → l.stack ≡ Some sp → IsStorage l.spaces sp
  pointer_storage sp is =
      let p = pointer_is l read sp is in
      let few = (memory_is l read (first_ram l) (first_ram_is l read)).few in
      let wide = p.wide in
      record { register = p.register; few = omega (arith, few, wide) }

  stack_storage : (o : Option Varnode) → l.stack ≡ o → (v : Varnode) → IsIn v (one_range o) → IsStorage l.spaces v
  stack_storage None is v h = absurd h
  stack_storage (Some sp) is v (inl e) = subst (λ (x : Varnode). IsStorage l.spaces x) (sym e) (pointer_storage sp is)
  stack_storage (Some sp) is v (inr h) = absurd h

  given_is : (p : Proto)
      → IsDeclared l p
      → (v : Varnode)
      → IsIn v (one_range p.gives ++ one_range l.stack)
      → IsStorage l.spaces v
  given_is p declared v h =
      elim (in_either (one_range p.gives) (one_range l.stack) v h) [
        | inl g ↦ one_in (IsStorage l.spaces) p.gives declared.is.gives v g
        | inr f ↦ stack_storage l.stack refl v f
      ]

  -- What it accesses further is the result of what it calls, the stack pointer, or the function's result.
  further_is : (code : Opcode) (vs : List Varnode)
      → is_supported_code code ≡ true
      → (v : Varnode)
      → IsIn v (further_ranges l None code vs)
      → IsStorage l.spaces v
  further_is O.Return vs s v h =
      one_in (IsStorage l.spaces) (proto_of l None).gives (own_declared l read).is.gives v h
  further_is O.Call vs s v h =
      let a = (varnode_at vs 0).offset in
      given_is (proto_of l (callee_at l a)) (callee_declared l read a) v h
  further_is O.CallInd vs s v h = given_is (proto_of l None) (own_declared l read) v h
  further_is code vs s v h = absurd h

-- ---- what is accessed lies inside its space

module _ (l : Listing) (read : IsWellFormed l) (good : first_bad l ≡ None) (sup : HasBuiltOps l) where
  -- What an op reads may be read.
  pub operand_input : (i : Instruction) (op : Op)
      → StandsIn l.code i op
      → (v : Varnode)
      → IsIn v (ranges_read (operands l op.code op.inputs))
      → IsInput l v
  operand_input i op stand v h =
      elim (operand_is l read op.code op.inputs (supported_in l.code sup i op stand) v h) [
        | inl is ↦ input l read good i op stand v is
        | inr is ↦ storage_input l read good v is
      ]

  op_inside : (i : Instruction) (op : Op)
      → StandsIn l.code i op
      → (v : Varnode)
      → IsLocal l v.space
      → IsIn v (op_ranges l None op)
      → Inside l v
  op_inside i op stand v home h =
      let code = supported_in l.code sup i op stand in
      elim (in_either (ranges_read (operands l op.code op.inputs))
      (one_range op.out ++ further_ranges l None op.code op.inputs) v h) [
        | inl p ↦ input_inside l read good v home (operand_input i op stand v p)
        | inr q ↦ elim (in_either (one_range op.out) (further_ranges l None op.code op.inputs) v q) [
          | inl o ↦ output_inside l read good i op stand v home o
          | inr f ↦ storage_inside l read good v (further_is l read op.code op.inputs code v f)
        ]
      ]

  by_standing : (p : Place) (s : Standing)
      → standing l p ≡ s
      → (v : Varnode)
      → IsLocal l v.space
      → IsIn v (ranges_in l None s)
      → Inside l v
  by_standing p Nothing e v home h = absurd h
  by_standing p (Passes i) e v home h = absurd h
  by_standing p (Does i op) e v home h = op_inside i op (stands_in l p i op e) v home h

  -- The ranges that are accessed have 1 to 16 bytes and lie inside their spaces.
  pub accessed_inside : (v : Varnode) → Accesses l [] v → Inside l v
  accessed_inside v acc = by_standing acc.at (standing l acc.at) refl v acc.is_local acc.range

  -- None goes past the greatest offset of 64 bits.
  pub accessed_low : (v : Varnode) → Accesses l [] v → v.offset + v.size ≤ 2 ^ 64
  accessed_low v acc = (accessed_inside v acc).low
