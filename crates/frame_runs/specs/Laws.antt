-- The facts are true of every run. This project's own.
use Rattle.std.specs.Prelude.{◌≡◌, ℕ, ◌+◌, ◌%◌, ◌<◌, List, [], None}
use Rattle.machine.specs.Machine.{after}
use Rattle.machine.specs.Agree.{FrameLaw}
use Rattle.pcode_model.specs.declared.listing.Varnode.{Varnode}
use Rattle.pcode_model.specs.declared.listing.Place.{Place}
use Rattle.pcode_model.specs.declared.listing.Listing.{Listing}
use Rattle.pcode_model.specs.declared.tables.TableAt.{TableAt}
use Rattle.pcode_model.specs.declared.frame.Frame as listed
use Rattle.pcode_model.specs.WellFormed.{IsWellFormed}
use Rattle.pcode_model.specs.Rules.{first_bad}
use Rattle.pcode_model.specs.Flow.{NoFault}
use Rattle.pcode_model.specs.Frame.{frame_of}
use Rattle.pcode_model.specs.Memory.{Frame, Bytes, whole, apart}
use Rattle.pcode_model.specs.World.{Entry}
use Rattle.pcode_model.specs.Step.{local_word, stack0, layout, first_whole, first_apart, start, step, seen_p, seen_f}
use Rattle.frame_facts.specs.Facts.{Fact, offsets}

-- a range holds the stack pointer's entry word plus an offset
abbrev pub HoldsOffset : Listing → ℕ → Varnode → ℕ → Bytes → Type 0
HoldsOffset l entry v c b = local_word l v b ≡ (entry + c) % offsets l

-- Each fact at a place holds in these register and unique bytes.
abbrev pub FactsHold : Listing → List TableAt → ℕ → Place → Bytes → Type 0
FactsHold l t entry p b = (v : Varnode) (c : ℕ) → Fact l t p v c → HoldsOffset l entry v c b

-- an accepted listing without a jump table, and an entry's stack pointer that is an address
pub record IsRun (l : Listing) (e : Entry) : Type 0 where
  pub read : IsWellFormed l
  pub ops : first_bad l ≡ None
  pub sound : NoFault l []
  pub low : stack0 l e < offsets l

-- Whatever frame a run goes by, and until it ends, each fact holds at the place where it stands: in the run of the
-- listing, and in the one whose frame variables have bytes of their own. (Where a run ends in the middle of an op, the
-- place is the next one already.)
pub record FactsLaw (l : Listing) (e : Entry) (f : Frame) (n : ℕ) : Type 0 where
  pub in_whole : (let s = after (step (whole (layout l f e)) l f) n (start l e (first_whole e)) in
      s.world.over ≡ None → FactsHold l [] (stack0 l e) s.at s.local)
  pub in_apart : (let s = after (step (apart l) l f) n (start l e (first_apart l e)) in
      s.world.over ≡ None → FactsHold l [] (stack0 l e) s.at s.local)

-- The run of a listing, whose memory hides bytes and ends Outside, and the run whose frame variables have bytes of their
-- own show the same until the first ends Outside, for the frame that is the listing's.
abbrev pub LawOfFrame : Listing → Entry → listed.Frame → Type 0
LawOfFrame l e f = FrameLaw (seen_p l (frame_of l f) e) (seen_f l (frame_of l f) e)
