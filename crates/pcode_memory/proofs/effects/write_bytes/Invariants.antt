use Rattle.std.proofs.Common.{◌≡◌, drop}
use Rattle.pcode_memory.specs.Context.{whole_of}
use Rattle.pcode_memory.specs.Effects.{poked}
use Rattle.pcode_memory.proofs.effects.write_bytes.Given as goal

abbrev pub invariant-loop-b : goal.invariant-loop-b
invariant-loop-b l =
    poked l.context.listing.now (drop l.b-index l.bytes) (whole_of l.memory)
    ≡ poked l.context.listing.now l.bytes (whole_of l.initial.memory)
