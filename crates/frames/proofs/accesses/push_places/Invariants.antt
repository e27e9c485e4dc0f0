use Rattle.std.proofs.Common.{◌≡◌, ◌++◌, drop}
use Rattle.frame_known.specs.Rows.{IsRow}
use Rattle.frames.specs.Walk.{accesses_at, along}
use Rattle.frames.proofs.accesses.push_places.Given as goal

abbrev pub invariant-loop-place : goal.invariant-loop-place
invariant-loop-place l = record {
  is :
      l.accesses.items ++ along (accesses_at l.listing l.slots) l.listing l.slots l.row (drop l.place-index l.places)
      ≡ l.fn.accesses.items ++ along (accesses_at l.listing l.slots) l.listing l.slots l.first l.places;
  fine : IsRow l.slots l.row;
}
