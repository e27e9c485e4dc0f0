use Rattle.std.proofs.Common.{◌≡◌, ◌-◌, ◌++◌}
use Rattle.bits_core.specs.Bytes.{bytes}
use Rattle.run_world.proofs.words.low_bytes.Given as goal

abbrev pub invariant-loop : goal.invariant-loop
invariant-loop l = l.out.items ++ bytes (l.count - l.counter) l.rest ≡ bytes l.count l.word
