use Rattle.std.proofs.Common.{◌≡◌, drop}
use Rattle.pcode_memory.specs.Context.{layout_of}
use Rattle.pcode_memory.specs.Effects.{first_refused}
use Rattle.pcode_memory.proofs.effects.first_refused.Given as goal

abbrev pub invariant-loop-b : goal.invariant-loop-b
invariant-loop-b l =
    first_refused (layout_of l.context) (drop l.b-index l.bytes) ≡ first_refused (layout_of l.context) l.bytes
