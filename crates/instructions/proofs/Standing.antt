-- What stands at a place is an op of an instruction of the code.
use Rattle.std.proofs.Common.{◌≡◌, ℕ, zero, suc, List, [], ◌∷◌, Option, Some, None, refl, subst, ap}
use Rattle.std.specs.Prelude.{slice_get}
use Rattle.pcode_model.specs.declared.listing.Op.{Op}
use Rattle.pcode_model.specs.declared.listing.Place.{Place}
use Rattle.pcode_model.specs.declared.listing.Instruction.{Instruction}
use Rattle.pcode_model.specs.declared.listing.Listing.{Listing}
use Rattle.pcode_model.specs.Flow.{IsIn}
use Rattle.pcode_model.specs.Places.{Does, instruction_in, op_in, standing, standing_in, standing_of}
use Rattle.pcode_model.proofs.Members.{member_at}
use Rattle.instructions.proofs.Apart.{found_in}

-- the op is one of these instructions'
pub record StandsIn (code : List Instruction) (i : Instruction) (op : Op) : Type 0 where
  pub code_has : IsIn i code
  pub ops_have : IsIn op i.ops

by_op : (i : Instruction) (o : Option Op) (j : Instruction) (op : Op) → op_in i o ≡ Does j op → (i ≡ j) × (o ≡ Some op)
by_op i None j op h = absurd (cc)
by_op i (Some x) j op h = (cc, let e : x ≡ op = cc in ap Some e)

by_ops : (i : Instruction) (ops : List Op) (n : ℕ) (j : Instruction) (op : Op)
    → standing_in i ops n ≡ Does j op
    → (i ≡ j) × IsIn op ops
by_ops i [] zero j op h = absurd (cc)
by_ops i [] (suc n) j op h = absurd (cc)
by_ops i (x ∷ ops) n j op h = let b = by_op i (slice_get (x ∷ ops) n) j op h in (b.0, member_at (x ∷ ops) n op b.1)

of_option : (code : List Instruction) (o : Option Instruction) (n : ℕ) (j : Instruction) (op : Op)
    → ((i : Instruction) → o ≡ Some i → IsIn i code)
    → standing_of o n ≡ Does j op
    → StandsIn code j op
of_option code None n j op found h = absurd (cc)
of_option code (Some i) n j op found h =
    let b = by_ops i i.ops n j op h in
    let P : Instruction → Type 0 = λ x. IsIn x code in
    let Q : Instruction → Type 0 = λ x. IsIn op x.ops in
    record { code_has = subst P b.0 (found i refl); ops_have = subst Q b.0 b.1 }

-- The op that stands at a place is one of the listing's.
pub stands_in : (l : Listing) (p : Place) (i : Instruction) (op : Op) → standing l p ≡ Does i op → StandsIn l.code i op
stands_in l p i op h = of_option l.code (instruction_in l.code p.address) p.index i op
    (λ j e. (found_in l.code p.address j e).0) h
