use Rattle.std.proofs.Common.{◌≡◌, None, drop}
use Rattle.run_world.specs.Maps.{at_offset}
use Rattle.run_world.specs.Meaning.{with_offsets}
use Rattle.run_world.proofs.offset_map.OffsetMap.of_bytes.Given as goal

abbrev pub invariant-loop-b : goal.invariant-loop-b
invariant-loop-b l = with_offsets (drop l.b-index l.bytes) (at_offset l.map) ≡ with_offsets l.bytes (λ o. None)
