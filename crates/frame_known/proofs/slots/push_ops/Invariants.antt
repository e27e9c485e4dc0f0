use Rattle.std.proofs.Common.{◌≡◌, ◌++◌, drop}
use Rattle.frame_known.specs.Slots.{ops_keys}
use Rattle.frame_known.proofs.slots.push_ops.Given as goal

abbrev pub invariant-loop-op : goal.invariant-loop-op
invariant-loop-op l =
    l.keys.items ++ ops_keys l.listing l.width (drop l.op-index l.ops)
    ≡ l.fn.keys.items ++ ops_keys l.listing l.width l.ops
