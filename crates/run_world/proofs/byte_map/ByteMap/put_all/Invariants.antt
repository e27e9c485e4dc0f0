use Rattle.std.proofs.Common.{◌≡◌, drop}
use Rattle.run_world.specs.Maps.{at}
use Rattle.run_world.specs.Meaning.{with_bytes}
use Rattle.run_world.proofs.byte_map.ByteMap.put_all.Given as goal

abbrev pub invariant-loop-b : goal.invariant-loop-b
invariant-loop-b l = with_bytes (drop l.b-index l.bytes) (at l.self) ≡ with_bytes l.bytes (at l.initial.self)
