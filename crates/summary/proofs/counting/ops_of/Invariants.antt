use Rattle.std.proofs.Common.{◌≡◌, ◌+◌, drop}
use Rattle.pcode_model.specs.WellFormed.{total_ops}
use Rattle.summary.proofs.counting.ops_of.Given as goal

abbrev pub invariant-loop-instruction : goal.invariant-loop-instruction
invariant-loop-instruction l = l.count + total_ops (drop l.instruction-index l.code) ≡ total_ops l.code
