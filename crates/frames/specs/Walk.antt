-- What a walk over the blocks finds, with the row before each place. This project's own.
use Rattle.std.specs.Prelude.{ℕ, ◌+◌, ◌%◌, ◌&&◌, Bool, if◌then◌else◌, List, [], ◌∷◌, ◌++◌, Option, Some, None, ℤ, pos, neg_ℤ, int_le}
use Rattle.pcode_model.specs.declared.listing.Place.{Place}
use Rattle.pcode_model.specs.declared.listing.Varnode.{Varnode}
use Rattle.pcode_model.specs.declared.listing.Listing.{Listing}
use Rattle.pcode_model.specs.declared.flow.Block.{Block}
use Rattle.pcode_model.specs.declared.frame.FrameAccess.{FrameAccess}
use Rattle.pcode_model.specs.declared.frame.OffsetFact.{OffsetFact}
use Rattle.pcode_model.specs.Places.{Standing, Nothing, Passes, Does, standing}
use Rattle.frame_facts.specs.Facts.{offsets}
use Rattle.frame_facts.specs.Escapes.{told}
use Rattle.frame_facts.specs.Accesses.{Reach, frame_limit, reaches, signed_offset, stack_width}
use Rattle.frame_known.specs.declared.slots.Slots.{Slots}
use Rattle.frame_known.specs.Slots.{range_of}
use Rattle.frame_known.specs.Rows.{Row, offset_of, over_row}

-- along places that follow one another, by the row before each
abbrev pub along : {A : Type 0} → (Row → Place → List A) → Listing → Slots → Row → List Place → List A
along g l s row [] = []
along g l s row (p ∷ ps) = g row p ++ along g l s (over_row l s row (standing l p)) ps

abbrev pub along_from : {A : Type 0} → (Row → Place → List A) → Listing → Slots → Option Row → List Place → List A
along_from g l s None ps = []
along_from g l s (Some row) ps = along g l s row ps

-- one block after another, by their rows
abbrev pub by_blocks : {A : Type 0} → (Option Row → List Place → List A) → List (Option Row) → List Block → List A
by_blocks h rows [] = []
by_blocks h [] (b ∷ bs) = []
by_blocks h (r ∷ rows) (b ∷ bs) = h r b.places ++ by_blocks h rows bs

abbrev pub in_blocks : {A : Type 0}
    → (Row → Place → List A)
    → Listing
    → Slots
    → List (Option Row)
    → List Block
    → List A
in_blocks g l s rows blocks = by_blocks (along_from g l s) rows blocks

-- ---- escaped offsets

abbrev pub signed_in : Listing → Option ℕ → List ℤ
signed_in l None = []
signed_in l (Some c) = signed_offset l c ∷ []

-- the offsets of ranges
abbrev pub signed_of : Listing → Slots → Row → List Varnode → List ℤ
signed_of l s row [] = []
signed_of l s row (v ∷ vs) = signed_in l (offset_of s row v) ++ signed_of l s row vs

abbrev pub told_in : Listing → Slots → Row → Standing → List ℤ
told_in l s row Nothing = []
told_in l s row (Passes i) = []
told_in l s row (Does i op) = signed_of l s row (told l op.code op.inputs)

abbrev pub told_at : Listing → Slots → Row → Place → List ℤ
told_at l s row p = told_in l s row (standing l p)

-- as they are found, some more than once
abbrev pub escapes_found : Listing → Slots → List (Option Row) → List Block → List ℤ
escapes_found l s rows blocks = in_blocks (told_at l s) l s rows blocks

-- ---- accesses of the frame

abbrev pub is_near : Listing → ℤ → Bool
is_near l o = int_le (neg_ℤ (pos (frame_limit (stack_width l)))) o && int_le o (pos (frame_limit (stack_width l)))

abbrev pub access : Place → Reach → ℤ → FrameAccess
access p r o = record { place = p; argument = r.number; offset = o; size = r.size }

abbrev pub access_in : Listing → Place → Reach → Option ℕ → List FrameAccess
access_in l p r None = []
access_in l p r (Some c) =
    if is_near l (signed_offset l ((c + r.above) % offsets l)) then access p r (signed_offset l ((c + r.above) % offsets l)) ∷ []
    else []

abbrev pub accesses_of : Listing → Slots → Row → Place → List Reach → List FrameAccess
accesses_of l s row p [] = []
accesses_of l s row p (r ∷ rs) = access_in l p r (offset_of s row r.base) ++ accesses_of l s row p rs

abbrev pub accesses_in : Listing → Slots → Row → Place → Standing → List FrameAccess
accesses_in l s row p Nothing = []
accesses_in l s row p (Passes i) = []
accesses_in l s row p (Does i op) = accesses_of l s row p (reaches l op)

abbrev pub accesses_at : Listing → Slots → Row → Place → List FrameAccess
accesses_at l s row p = accesses_in l s row p (standing l p)

abbrev pub accesses_found : Listing → Slots → List (Option Row) → List Block → List FrameAccess
accesses_found l s rows blocks = in_blocks (accesses_at l s) l s rows blocks

-- ---- facts where blocks begin

abbrev pub fact_in : Listing → Place → ℕ → ℕ → Option ℕ → List OffsetFact
fact_in l p w k None = []
fact_in l p w k (Some c) = record { place = p; range = range_of w k; offset = signed_offset l c } ∷ []

abbrev pub facts_of : Listing → Place → ℕ → List ℕ → Row → List OffsetFact
facts_of l p w [] row = []
facts_of l p w (k ∷ ks) [] = []
facts_of l p w (k ∷ ks) (r ∷ row) = fact_in l p w k r ++ facts_of l p w ks row

abbrev pub facts_from : Listing → Slots → Option Row → List Place → List OffsetFact
facts_from l s None ps = []
facts_from l s (Some row) [] = []
facts_from l s (Some row) (p ∷ ps) = facts_of l p s.width s.keys.items row

abbrev pub facts_found : Listing → Slots → List (Option Row) → List Block → List OffsetFact
facts_found l s rows blocks = by_blocks (facts_from l s) rows blocks
