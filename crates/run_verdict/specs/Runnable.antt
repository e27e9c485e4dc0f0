-- Which listings are run today. This project's own.
use Rattle.std.specs.Prelude.{◌≡◌}
use Rattle.pcode_model.specs.declared.opcode.Opcode.TheVariants as O
use Rattle.pcode_model.specs.declared.listing.Op.{Op}
use Rattle.pcode_model.specs.declared.listing.Instruction.{Instruction}
use Rattle.pcode_model.specs.declared.listing.Listing.{Listing}
use Rattle.pcode_model.specs.Flow.{IsIn}

-- no op is a branch that a jump table leads on
abbrev pub IsRunnable : Listing → Type 0
IsRunnable l = (i : Instruction) → IsIn i l.code → (op : Op) → IsIn op i.ops → op.code ≡ O.BranchInd → ⊥
