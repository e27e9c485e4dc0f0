use Rattle.std.proofs.Common.{◌≡◌, drop}
use Rattle.supported.specs.Supported.{are_supported_ops}
use Rattle.supported.proofs.listing.are_supported_ops.Given as goal

abbrev pub invariant-loop-op : goal.invariant-loop-op
invariant-loop-op l = are_supported_ops (drop l.op-index l.ops) ≡ are_supported_ops l.ops
