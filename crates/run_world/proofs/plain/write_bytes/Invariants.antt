use Rattle.std.proofs.Common.{◌≡◌, drop}
use Rattle.run_world.specs.Maps.{bytes_of}
use Rattle.run_world.specs.Meaning.{poked}
use Rattle.run_world.proofs.plain.write_bytes.Given as goal

abbrev pub invariant-loop-b : goal.invariant-loop-b
invariant-loop-b l = poked (drop l.b-index l.bytes) (bytes_of l.memory) ≡ poked l.bytes (bytes_of l.initial.memory)
