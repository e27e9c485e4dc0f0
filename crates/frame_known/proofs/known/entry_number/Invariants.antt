use Rattle.std.proofs.Common.{◌≡◌, ℕ, ◌<◌, false, Some}
use Rattle.std.specs.Prelude.{slice_get}
use Rattle.pcode_model.specs.declared.flow.Block.{Block}
use Rattle.frame_known.specs.Passing.{begins_in}
use Rattle.frame_known.proofs.known.entry_number.Given as goal

abbrev pub invariant-loop-number : goal.invariant-loop-number
invariant-loop-number l =
    (k : ℕ) (b : Block) → k < l.number → slice_get l.blocks k ≡ Some b → begins_in b.places l.entry ≡ false
