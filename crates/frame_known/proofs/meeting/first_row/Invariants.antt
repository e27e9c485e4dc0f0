use Rattle.std.proofs.Common.{◌≡◌, map, take}
use Rattle.frame_known.specs.Meeting.{first_entry}
use Rattle.frame_known.proofs.meeting.first_row.Given as goal

abbrev pub invariant-loop-slot : goal.invariant-loop-slot
invariant-loop-slot l = l.row ≡ map (first_entry l.listing l.slots) (take l.slot l.slots.keys.items)
