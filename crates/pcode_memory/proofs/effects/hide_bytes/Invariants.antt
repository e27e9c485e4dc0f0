use Rattle.std.proofs.Common.{◌≡◌, drop}
use Rattle.pcode_memory.specs.Context.{layout_of, whole_of}
use Rattle.pcode_memory.specs.Effects.{concealed}
use Rattle.pcode_memory.proofs.effects.hide_bytes.Given as goal

abbrev pub invariant-loop-b : goal.invariant-loop-b
invariant-loop-b l =
    concealed (layout_of l.context) (drop l.b-index l.bytes) (whole_of l.memory)
    ≡ concealed (layout_of l.context) l.bytes (whole_of l.initial.memory)
