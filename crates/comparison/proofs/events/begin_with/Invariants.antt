use Rattle.std.proofs.Common.{◌↔◌, drop, map}
use Rattle.machine.specs.TwoWay.{IsPrefix}
use Rattle.run_world.specs.Meaning.{event_of}
use Rattle.comparison.proofs.events.begin_with.Given as goal

abbrev pub invariant-loop-i : goal.invariant-loop-i
invariant-loop-i l = IsPrefix (map event_of l.front) (map event_of l.events) ↔ IsPrefix
    (map event_of (drop l.i l.front)) (map event_of (drop l.i l.events))
