-- What is proved of runs with frame variables. Each law is the contract of a function of its name.
use Rattle.std.specs.Prelude.{◌<◌}
use Rattle.machine.specs.Agree.{FrameLaw}
use Rattle.pcode_model.specs.declared.listing.Listing.{Listing}
use Rattle.pcode_model.specs.Spaces.{size_of, first_ram}
use Rattle.pcode_model.specs.Memory.{no_frame}
use Rattle.pcode_model.specs.World.{Entry}
use Rattle.pcode_model.specs.Step.{stack0, seen_p, seen_f}

-- The run of a listing without frame variables, whose memory hides bytes, and the run that looks at none of them show
-- the same until the first ends Outside. (A listing without a stack pointer has 0 in its place.)
-- A law can't speak of every relation that says where the accesses of frame variables lie: the lemma `listing_law` of
-- proofs/Keeps.antt does.
abbrev pub LawWithoutFrame : Type 0
LawWithoutFrame = (l : Listing) (e : Entry)
    → stack0 l e < size_of l (first_ram l)
    → FrameLaw (seen_p l no_frame e) (seen_f l no_frame e)
