-- The accesses of the frame lie near the stack pointer's entry word, and each has a byte.
use Rattle.std.proofs.Common.{◌≡◌, List, [], ◌∷◌, None, refl, inl, inr, arith}
use Rattle.std.specs.List.{AllByRecursion}
use Rattle.std.proofs.lemmas.Int.{ints}
use Rattle.pcode_model.specs.declared.frame.Frame.{Frame}
use Rattle.pcode_model.specs.declared.frame.FrameAccess.{FrameAccess}
use Rattle.pcode_model.specs.declared.listing.Listing.{Listing}
use Rattle.pcode_model.specs.declared.listing.Place.{Place}
use Rattle.pcode_model.specs.declared.tables.TableAt.{TableAt}
use Rattle.pcode_model.specs.Flow.{IsIn}
use Rattle.pcode_model.specs.Rules.{first_bad}
use Rattle.pcode_model.specs.WellFormed.{IsWellFormed}
use Rattle.stackvars.specs.Near.{HasNearAccesses, IsNearAccess}
use Rattle.frame_facts.specs.Accesses.{IsFrameAccess, stack_width}
use Rattle.frame_facts.specs.Listed.{IsAccessBefore, IsFrame, Lists}
use Rattle.frame_facts.proofs.Bounded.{IsKnown, framed, known_access, limit_near}
use Rattle.frame_classes.specs.Runs.{HasBytes}

all_known : (l : Listing) (P : FrameAccess → Type 0)
    → ((a : FrameAccess) → IsKnown l a → P a)
    → (xs : List FrameAccess)
    → ((a : FrameAccess) → IsIn a xs → IsKnown l a)
    → AllByRecursion P xs
all_known l P holds [] each = tt
all_known l P holds (a ∷ xs) each = (holds a (each a (inl refl)), all_known l P holds xs (λ b is. each b (inr is)))

near_by : (l : Listing) (a : FrameAccess) → IsKnown l a → IsNearAccess a
near_by l a is =
    let limit = limit_near (stack_width l) in
    let few = is.few.1 in
    let low = is.within.0 in
    let high = is.within.1 in
    record { from = omega (arith, ints); to = omega (arith, ints); few = omega arith }

module _
    (l : Listing)
    (read : IsWellFormed l)
    (good : first_bad l ≡ None)
    (t : List TableAt)
    (evaluated : List Place)
  where
    -- Those of a frame lie near the entry word.
    pub near_accesses : (f : Frame) → IsFrame l t evaluated f → HasNearAccesses f
    near_accesses f frame = all_known l IsNearAccess (near_by l) f.accesses (framed l read good t evaluated f frame)

    module _ (xs : List FrameAccess) (listed : Lists (IsFrameAccess l t evaluated) IsAccessBefore xs) where
      each_known : (a : FrameAccess) → IsIn a xs → IsKnown l a
      each_known a is = known_access l read good t evaluated a ((listed.each a).0 is)

      -- So do all accesses of the frame,
      pub listed_near : AllByRecursion IsNearAccess xs
      listed_near = all_known l IsNearAccess (near_by l) xs each_known

      -- and each has a byte.
      pub listed_some : AllByRecursion HasBytes xs
      listed_some = all_known l HasBytes (λ a is. is.few.0) xs each_known
