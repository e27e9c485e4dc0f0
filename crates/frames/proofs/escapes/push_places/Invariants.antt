use Rattle.std.proofs.Common.{◌≡◌, ◌++◌, drop}
use Rattle.frame_known.specs.Rows.{IsRow}
use Rattle.frames.specs.Walk.{along, told_at}
use Rattle.frames.proofs.escapes.push_places.Given as goal

abbrev pub invariant-loop-place : goal.invariant-loop-place
invariant-loop-place l = record {
  is :
      l.escapes.items ++ along (told_at l.listing l.slots) l.listing l.slots l.row (drop l.place-index l.places)
      ≡ l.fn.escapes.items ++ along (told_at l.listing l.slots) l.listing l.slots l.first l.places;
  fine : IsRow l.slots l.row;
}
