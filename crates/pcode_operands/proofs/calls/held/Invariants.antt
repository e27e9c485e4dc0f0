use Rattle.std.proofs.Common.{◌≡◌, false, take}
use Rattle.pcode_model.specs.Step.{in_some}
use Rattle.pcode_operands.proofs.calls.held.Given as goal

abbrev pub invariant-loop-v : goal.invariant-loop-v
invariant-loop-v l = in_some (take l.v-index l.keep) l.offset ≡ false
