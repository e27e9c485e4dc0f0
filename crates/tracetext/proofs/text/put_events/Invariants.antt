use Rattle.std.proofs.Common.{◌≡◌, ◌++◌, drop, map}
use Rattle.tracetext.specs.Text.{events_text}
use Rattle.run_world.specs.Meaning.{event_of}
use Rattle.tracetext.proofs.text.put_events.Given as goal

abbrev pub invariant-loop-event : goal.invariant-loop-event
invariant-loop-event l = l.out.items ++ events_text l.listing l.side (map event_of (drop l.event-index l.events))
    ≡ l.initial.out.items ++ events_text l.listing l.side (map event_of l.events)
