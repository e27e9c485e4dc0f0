-- What an op reads or writes of storage has 1 to 16 bytes: the reader promises the first, a rule of operations the other.
use Rattle.std.proofs.Common.{◌≡◌, ◌<◌, ◌≤◌, ℕ, Bool, true, false, List, [], ◌∷◌, Option, Some, None, refl, inl, inr, sym, subst, arith}
use Rattle.std.specs.Prelude.{IfSome, if◌then◌else◌, nat_lt}
use Rattle.std.proofs.lemmas.Bool.Decides.{nat_tests}
use Rattle.pcode_model.specs.declared.listing.Instruction.{Instruction}
use Rattle.pcode_model.specs.declared.listing.Listing.{Listing}
use Rattle.pcode_model.specs.declared.listing.Op.{Op}
use Rattle.pcode_model.specs.declared.listing.Varnode.{Varnode}
use Rattle.pcode_model.specs.declared.opcode.Opcode.{Opcode}
use Rattle.pcode_model.specs.declared.rules.OpWhy.TheVariants.{TooWide}
use Rattle.pcode_model.specs.Atoms.{one_range}
use Rattle.pcode_model.specs.Flow.{IsIn}
use Rattle.pcode_model.specs.Rules.{any_wide, first_bad, input_ranges, is_too_wide, names_address, output_wide, past_first}
use Rattle.pcode_model.specs.WellFormed.{HasOps, IsOp, IsOperand, IsWellFormed}
use Rattle.pcode_model.proofs.Members.{of_member}
use Rattle.instructions.proofs.Standing.{StandsIn}
use Rattle.pcode_laws.proofs.Rules.{breaks_none, neither}

-- 1 to 16 bytes
abbrev pub IsFew : ℕ → Type 0
IsFew k = (0 < k) × (k ≤ 16)

-- What holds of a range that there may be.
pub one_in : (P : Varnode → Type 0) (o : Option Varnode) → IfSome o P → (v : Varnode) → IsIn v (one_range o) → P v
one_in P None h v is = absurd is
one_in P (Some w) h v (inl e) = subst P (sym e) h
one_in P (Some w) h v (inr is) = absurd is

-- What is looked at is an input.
pub input_in : (code : Opcode) (vs : List Varnode) (v : Varnode) → IsIn v (input_ranges code vs) → IsIn v vs
input_in code vs v = by_test (names_address code vs) vs
  where
    by_test : (b : Bool) (vs : List Varnode) → IsIn v (if b then past_first vs else vs) → IsIn v vs
    by_test true [] h = absurd h
    by_test true (w ∷ vs) h = inr h
    by_test false vs h = h

-- ---- the rule of widths

not_wide : (n : ℕ) → nat_lt 16 n ≡ false → n ≤ 16
not_wide n h = grind (arith, nat_tests)

narrow_in : (vs : List Varnode) → any_wide vs ≡ false → (v : Varnode) → IsIn v vs → v.size ≤ 16
narrow_in [] h v is = absurd is
narrow_in (x ∷ vs) h v (inl e) = let P : Varnode → Type 0 = λ y. y.size ≤ 16 in
    subst P (sym e) (not_wide x.size (neither _ _ h).0)
narrow_in (x ∷ vs) h v (inr is) = narrow_in vs (neither _ _ h).1 v is

output_narrow : (out : Option Varnode)
    → output_wide out ≡ false
    → (v : Varnode)
    → IsIn v (one_range out)
    → v.size ≤ 16
output_narrow None h v is = absurd is
output_narrow (Some z) h v (inl e) = let P : Varnode → Type 0 = λ y. y.size ≤ 16 in subst P (sym e) (not_wide z.size h)
output_narrow (Some z) h v (inr is) = absurd is

-- ---- the ranges of an op

module _ (l : Listing) (read : IsWellFormed l) (i : Instruction) (op : Op) (stand : StandsIn l.code i op) where
  -- The reader promises this of each op.
  pub formed : IsOp op
  formed = of_member IsOp op i.ops (of_member HasOps i l.code read.ops stand.code_has) stand.ops_have

  module _ (good : first_bad l ≡ None) where
    wide : is_too_wide op ≡ false
    wide = breaks_none l good i stand.code_has op stand.ops_have TooWide
        (inr (inr (inr (inr (inr (inl refl))))))

    -- An input that isn't an address has 1 to 16 bytes,
    pub input_few : (v : Varnode) → IsIn v (input_ranges op.code op.inputs) → IsFew v.size
    input_few v is = (
      (of_member IsOperand v op.inputs formed.inputs (input_in op.code op.inputs v is)).some,
      narrow_in (input_ranges op.code op.inputs) (neither _ _ wide).0 v is,
    )

    -- and so has the output.
    pub output_few : (v : Varnode) → IsIn v (one_range op.out) → IsFew v.size
    output_few v is = ((one_in IsOperand op.out formed.out v is).some, output_narrow op.out (neither _ _ wide).1 v is)
