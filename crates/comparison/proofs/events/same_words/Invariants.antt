use Rattle.std.proofs.Common.{◌≡◌, ◌↔◌, drop, map}
use Rattle.run_world.specs.Meaning.{value_of}
use Rattle.comparison.proofs.events.same_words.Given as goal

abbrev pub invariant-loop-i : goal.invariant-loop-i
invariant-loop-i l = (map value_of l.a ≡ map value_of l.b) ↔ (map value_of (drop l.i l.a) ≡ map value_of (drop l.i l.b))
