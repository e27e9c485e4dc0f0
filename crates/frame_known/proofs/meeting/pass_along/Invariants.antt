use Rattle.std.proofs.Common.{◌≡◌, drop}
use Rattle.frame_known.specs.Rows.{IsRow}
use Rattle.frame_known.specs.Meeting.{along}
use Rattle.frame_known.proofs.meeting.pass_along.Given as goal

abbrev pub invariant-loop-place : goal.invariant-loop-place
invariant-loop-place l = record {
  is : along l.listing l.slots l.row (drop l.place-index l.places) ≡ along l.listing l.slots l.fn.row l.fn.places;
  fine : IsRow l.slots l.row;
}
