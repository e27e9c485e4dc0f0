-- What stands at a place of a well formed listing whose ops obey their rules.
use Rattle.std.proofs.Common.{◌≡◌, ◌<◌, ◌^◌, ℕ, List, [], ◌∷◌, length, Option, Some, None, inl, inr, sym, subst, ap, ◌∙◌}
use Rattle.std.specs.Prelude.{slice_get}
use Rattle.pcode_model.specs.declared.listing.Instruction.{Instruction}
use Rattle.pcode_model.specs.declared.listing.Listing.{Listing}
use Rattle.pcode_model.specs.declared.listing.Op.{Op}
use Rattle.pcode_model.specs.Flow.{IsIn}
use Rattle.pcode_model.specs.Places.{Does, instruction_at, op_in, place, standing, standing_in, standing_of}
use Rattle.pcode_model.specs.Rules.{HasFewOps, first_bad}
use Rattle.pcode_model.specs.WellFormed.{HasOps, IsOp, IsWellFormed}
use Rattle.pcode_laws.proofs.Rules.{in_code}
use Rattle.instructions.proofs.Apart.{found_in}
use Rattle.pcode_model.proofs.Members.{member_at, of_member}
use Rattle.pcode_run.specs.Steps.{Obeys}

few_in : (i : Instruction) (code : List Instruction) → HasFewOps code → IsIn i code → length i.ops < 2 ^ 32
few_in i [] few is = absurd is
few_in i (j ∷ rest) few (inl e) = let P : Instruction → Type 0 = λ x. length x.ops < 2 ^ 32 in subst P (sym e) few.0
few_in i (j ∷ rest) few (inr is) = few_in i rest few.1 is

pub few_ops : (l : Listing) (a : ℕ) (i : Instruction)
    → IsWellFormed l
    → instruction_at l a ≡ Some i
    → length i.ops < 2 ^ 32
few_ops l a i good here = few_in i l.code good.few (found_in l.code a i here).0

pub op_obeys : (l : Listing) (a n : ℕ) (i : Instruction) (op : Op)
    → IsWellFormed l
    → first_bad l ≡ None
    → instruction_at l a ≡ Some i
    → slice_get i.ops n ≡ Some op
    → Obeys l op
op_obeys l a n i op good checked here is = record {
  formed =
      of_member IsOp op i.ops (of_member HasOps i l.code good.ops (found_in l.code a i here).0)
      (member_at i.ops n op is);
  checked = in_code l l.code checked i (found_in l.code a i here).0 op (member_at i.ops n op is);
}

pub does_in : (i : Instruction) (ops : List Op) (n : ℕ) (op : Op)
    → slice_get ops n ≡ Some op
    → standing_in i ops n ≡ Does i op
does_in i [] n op is = absurd (cc)
does_in i (x ∷ ops) n op is = ap (op_in i) is

pub does_at : (l : Listing) (a n : ℕ) (i : Instruction) (op : Op)
    → instruction_at l a ≡ Some i
    → slice_get i.ops n ≡ Some op
    → standing l (place a n) ≡ Does i op
does_at l a n i op here is = ap (λ (o : Option Instruction). standing_of o n) here ∙ does_in i i.ops n op is
