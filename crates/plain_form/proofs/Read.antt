-- What the reader and the rules of operations promise of the spaces of a listing, of the ranges of its ops and of the
-- function's result.
use Rattle.std.proofs.Common.{◌≡◌, ◌≤◌, ◌<◌, ◌+◌, ◌^◌, ◌⊎◌, ℕ, true, false, List, [], ◌∷◌, Option, Some, None, refl, inl, inr, sym, subst, ap, ◌∙◌, arith, lit<}
use Rattle.std.specs.Prelude.{◌==◌, ◌&&◌, not}
use Rattle.std.specs.List.{AllByRecursion}
use Rattle.std.proofs.Math.Bool.{and-false}
use Rattle.std.proofs.lemmas.Bool.Decides.{nat_tests}
use Rattle.std.proofs.lemmas.Bool.{not-false, not-true, ltb-false, and_parts}
use Rattle.pcode_model.specs.declared.listing.Instruction.{Instruction}
use Rattle.pcode_model.specs.declared.listing.Listing.{Listing}
use Rattle.pcode_model.specs.declared.listing.Op.{Op}
use Rattle.pcode_model.specs.declared.listing.SpaceKind.TheVariants.{Constant, Register, Unique}
use Rattle.pcode_model.specs.declared.listing.Varnode.{Varnode}
use Rattle.pcode_model.specs.declared.rules.OpWhy.{OpWhy}
use Rattle.pcode_model.specs.declared.rules.OpWhy.TheVariants.{BadSpace, OutOfSpace}
use Rattle.pcode_model.specs.Atoms.{IsLocal, one_range}
use Rattle.pcode_model.specs.Flow.{IsIn}
use Rattle.pcode_model.specs.Rules.{breaks, first_bad, input_ranges, inputs_stand, is_out_of_space, output_is_constant, rules}
use Rattle.pcode_model.specs.Spaces.{kind_of, register_space, same_kind, size_of, unique_space}
use Rattle.pcode_model.specs.Step.{proto_of, varnode_at}
use Rattle.pcode_model.specs.WellFormed.{HasKnownOps, IsKnown, IsKnownOp, IsOperand, IsProto, IsStorage, IsWellFormed}
use Rattle.pcode_model.proofs.Members.{of_member}
use Rattle.pcode_laws.proofs.Rules.{breaks_none, neither}
use Rattle.frame_facts.proofs.Few.{formed, input_few, input_in, one_in, output_few}
use Rattle.plain_form.proofs.Prototypes.{own_declared}
use Rattle.instructions.proofs.Standing.{StandsIn}
use Rattle.plain_form.proofs.Spaces.{constant_is, differ, first_constant, kind_of_first, low, only, same_is}
use Rattle.plain_form.proofs.Rules.{ends_within, output_stays, stays_in}
use Rattle.plain_form.proofs.Formed.{IsInput, IsWritten, Inside}

-- ---- what the rules say of the ranges of an op

no_output_constant : (out : Option Varnode)
    → output_is_constant out ≡ false
    → (v : Varnode)
    → IsIn v (one_range out)
    → v.space ≡ 0
    → ⊥
no_output_constant None h v is e = absurd is
no_output_constant (Some z) h v (inl same) e = let f : z.space ≡ 0 = sym (ap (λ x. x.space) same)
    ∙ e in absurd (grind (arith, nat_tests))
no_output_constant (Some z) h v (inr is) e = absurd is

module _ (l : Listing) (read : IsWellFormed l) (good : first_bad l ≡ None) where
  -- ---- spaces

  register_is : kind_of l (register_space l) ≡ Register
  register_is = kind_of_first Register l.spaces (omega (arith, read.complete.register))

  unique_is : kind_of l (unique_space l) ≡ Unique
  unique_is = kind_of_first Unique l.spaces (omega (arith, read.complete.unique))

  -- There is one register space.
  pub register_home : (n : ℕ) → kind_of l n ≡ Register → n ≡ register_space l
  register_home n e = only Register (differ Constant Register refl) l.spaces read.complete.register n e

  -- There is one unique space.
  pub unique_home : (n : ℕ) → kind_of l n ≡ Unique → n ≡ unique_space l
  unique_home n e = only Unique (differ Constant Unique refl) l.spaces read.complete.unique n e

  pub register_number : (n : ℕ) → same_kind Register (kind_of l n) ≡ true → n ≡ register_space l
  register_number n h = register_home n (sym (same_is Register (kind_of l n) h))

  -- Its kind.
  pub register_kind : (n : ℕ) → n ≡ register_space l → kind_of l n ≡ Register
  register_kind n e = ap (kind_of l) e ∙ register_is

  local_kind : (n : ℕ) → IsLocal l n → (kind_of l n ≡ Register) ⊎ (kind_of l n ≡ Unique)
  local_kind n (inl e) = inl (register_kind n e)
  local_kind n (inr e) = inr (ap (kind_of l) e ∙ unique_is)

  not_constant : (n : ℕ) → IsLocal l n → kind_of l n ≡ Constant → ⊥
  not_constant n home e = elim (local_kind n home) [
    | inl f ↦ differ Constant Register refl (sym f ∙ e)
    | inr f ↦ differ Constant Unique refl (sym f ∙ e)
  ]

  inside : (v : Varnode)
      → IsLocal l v.space
      → 0 < v.size
      → v.size ≤ 16
      → v.offset + v.size ≤ size_of l v.space
      → Inside l v
  inside v home some narrow within =
      let small : size_of l v.space ≤ 2 ^ 64 = low l.spaces read.spaces v.space (not_constant v.space home) in
      record { some = some; narrow = narrow; low = omega (arith, within, small); inside = within }

  -- a range of the register space or of the unique space isn't in space 0
  off_constants : (v : Varnode) → IsLocal l v.space → v.space ≡ 0 → ⊥
  off_constants v home e =
      let P : ℕ → Type 0 = λ n. kind_of l n ≡ Constant in
      not_constant v.space home (subst P (sym e) (first_constant l.spaces read.spaces))

  -- ---- the ranges of an op

  module _ (i : Instruction) (op : Op) (stand : StandsIn l.code i op) where
    obeys : (why : OpWhy) → IsIn why rules → breaks l op why ≡ false
    obeys why is = breaks_none l good i stand.code_has op stand.ops_have why is

    spaces : (not (output_is_constant op.out) && inputs_stand l op.code op.inputs) ≡ true
    spaces = not-false _ (obeys BadSpace (inr (inr (inr (inr (inl refl))))))

    leaving : is_out_of_space l op ≡ false
    leaving = obeys OutOfSpace (inr (inr (inr (inr (inr (inr (inl refl)))))))

    known : IsKnownOp l.spaces op
    known = of_member (IsKnownOp l.spaces) op i.ops
        (of_member (HasKnownOps l.spaces) i l.code read.known stand.code_has) stand.ops_have

    -- What is known of an input that isn't an address.
    pub input : (v : Varnode) → IsIn v (input_ranges op.code op.inputs) → IsInput l v
    input v is =
        let among = input_in op.code op.inputs v is in
        let operand = of_member IsOperand v op.inputs (formed l read i op stand).inputs among in
        let small = of_member (IsKnown l.spaces) v op.inputs known.inputs among in
        let sized = input_few l read i op stand good v is in
        record {
          some = sized.0;
          narrow = sized.1;
          stays = stays_in l (input_ranges op.code op.inputs) (neither _ _ (neither _ _ leaving).1).0 v is;
          fits = λ e. operand.reduced (constant_is l.spaces read.spaces v.space small e);
        }

    -- What is known of the output.
    pub output : (v : Varnode) → IsIn v (one_range op.out) → IsWritten l v
    output v is =
        let small = one_in (IsKnown l.spaces) op.out known.out v is in
        let sized = output_few l read i op stand good v is in
        record {
          some = sized.0;
          narrow = sized.1;
          stays = output_stays l op.out (neither _ _ (neither _ _ leaving).1).1 v is;
          variable =
              λ e. no_output_constant op.out (not-true _ (and_parts _ _ spaces).0) v is
              (constant_is l.spaces read.spaces v.space small e);
        }

    -- The first input's offset, or 0 without inputs, has 64 bits.
    pub first_long : (varnode_at op.inputs 0).offset < 2 ^ 64
    first_long = by op.inputs (formed l read i op stand).inputs
      where
        by : (vs : List Varnode) → AllByRecursion IsOperand vs → (varnode_at vs 0).offset < 2 ^ 64
        by [] all = lit< tt
        by (v ∷ vs) all = all.0.long

    pub output_inside : (v : Varnode) → IsLocal l v.space → IsIn v (one_range op.out) → Inside l v
    output_inside v home is =
        let k = output v is in inside v home k.some k.narrow (ends_within l v (off_constants v home) k.stays)

  -- ---- ranges of prototypes

  -- A storage is a range of the register space.
  pub storage_home : (v : Varnode) → IsStorage l.spaces v → v.space ≡ register_space l
  storage_home v is = register_number v.space is.register.kind

  -- It has 1 to 16 bytes and lies inside this space.
  pub storage_inside : (v : Varnode) → IsStorage l.spaces v → Inside l v
  storage_inside v is = inside v (inl (storage_home v is)) is.register.some is.few (ltb-false _ _ is.register.inside)

  -- It may be read.
  pub storage_input : (v : Varnode) → IsStorage l.spaces v → IsInput l v
  storage_input v is = record {
    some = is.register.some;
    narrow = is.few;
    stays = ap (λ b. not (v.space == 0) && b) is.register.inside ∙ and-false (not (v.space == 0));
    fits = λ e. absurd (not_constant v.space (inl (storage_home v is)) e);
  }

  -- What may be read lies inside its space.
  pub input_inside : (v : Varnode) → IsLocal l v.space → IsInput l v → Inside l v
  input_inside v home k = inside v home k.some k.narrow (ends_within l v (off_constants v home) k.stays)

  pub proto_is : IsProto l.spaces l.stack (proto_of l None)
  proto_is = (own_declared l read).is

  is_given : (v : Varnode) → IsIn v (one_range (proto_of l None).gives) → IsStorage l.spaces v
  is_given v is = one_in (IsStorage l.spaces) (proto_of l None).gives proto_is.gives v is

  -- The function's result is a range of the register space.
  pub result_home : (v : Varnode) → IsIn v (one_range (proto_of l None).gives) → v.space ≡ register_space l
  result_home v is = storage_home v (is_given v is)

  pub result_inside : (v : Varnode) → IsIn v (one_range (proto_of l None).gives) → Inside l v
  result_inside v is = storage_inside v (is_given v is)
