-- Reached places have rows before them, and what these know are the facts there.
use Rattle.std.proofs.Common.{◌≡◌, ℕ, List, [], Option, Some}
use Rattle.std.proofs.lemmas.Option.{slice_get_within}
use Rattle.pcode_model.specs.declared.listing.Place.{Place}
use Rattle.pcode_model.specs.declared.listing.Varnode.{Varnode}
use Rattle.pcode_model.specs.declared.listing.Listing.{Listing}
use Rattle.pcode_model.specs.declared.flow.Block.{Block}
use Rattle.pcode_model.specs.Flow.{IsFlow, Reached}
use Rattle.frame_facts.specs.Facts.{Fact}
use Rattle.frame_known.specs.declared.slots.Slots.{Slots}
use Rattle.frame_known.specs.Rows.{Row, offset_of}
use Rattle.frame_known.proofs.Entries.{is_offset_is, offset_is}
use Rattle.frame_known.specs.Known.{AreRows}
use Rattle.frames.proofs.Walk.{IsPlaceOf, before_in, has_before, in_places}
use Rattle.frame_known.proofs.Shaped.{block_of}

module _
    (l : Listing)
    (blocks : List Block)
    (s : Slots)
    (rows : List (Option Row))
    (are : AreRows l blocks s rows)
    (flow : IsFlow l [] blocks)
  where
    pub place_of : (p : Place) → Reached l [] p → (r : Row) × IsPlaceOf l s rows blocks p r
    place_of p reached =
        let at = block_of blocks p ((flow.each p).1 reached) in
        let row = are.all at.0 (slice_get_within blocks at.0 at.1.0 at.1.1.0) in
        let r = has_before l s row.0 (at.1.0).places p at.1.1.1 in (
          r.0,
          record { number = at.0; block = at.1.0; row = row.0; here = at.1.1.0; known = row.1; before = r.1 },
        )

    pub reached_of : (p : Place) (r : Row) → IsPlaceOf l s rows blocks p r → Reached l [] p
    reached_of p r at = (flow.each p).0 (in_places blocks at.number at.block p at.here
        (before_in l s at.row (at.block).places p r at.before))

    -- what the row before a place knows is a fact there
    pub fact_of : (p : Place) (r : Row) (v : Varnode) (c : ℕ)
        → IsPlaceOf l s rows blocks p r
        → offset_of s r v ≡ Some c
        → Fact l [] p v c
    fact_of p r v c at is =
        (are.facts at.number at.block at.row p r at.here at.known at.before v c).1 (offset_is (offset_of s r v) c is)

    -- and the other way round
    pub known_of : (p : Place) (r : Row) (v : Varnode) (c : ℕ)
        → IsPlaceOf l s rows blocks p r
        → Fact l [] p v c
        → offset_of s r v ≡ Some c
    known_of p r v c at fact =
        is_offset_is (offset_of s r v) c
        ((are.facts at.number at.block at.row p r at.here at.known at.before v c).0 fact)
