-- The steps of a run, one after another.
use Rattle.std.proofs.Common.{◌≡◌, ℕ, suc, ◌+◌, ◌-◌, ◌<◌, ◌≤◌, Option, Some, None, sym, ap, ◌∙◌, arith}
use Rattle.std.specs.Prelude.{IsSome}
use Rattle.machine.specs.Trace.{End}
use Rattle.machine.specs.Machine.{after, seen}
use Rattle.machine.proofs.Machine.{stands}
use Rattle.pcode_model.specs.declared.listing.Listing.{Listing}
use Rattle.pcode_model.specs.Memory.{Acts, Frame, Layout, Whole, whole}
use Rattle.pcode_model.specs.Places.{standing}
use Rattle.pcode_model.specs.Step.{State, first_whole, layout, machine, seen_p, start, step, step_at}
use Rattle.pcode_model.specs.World.{Entry, shown, unless_over}
use Rattle.run_world.specs.declared.trace.End as worlds
use Rattle.run_world.specs.Meaning.{end_of, over_of}

module _ {M : Type 0} (m : Acts M) (l : Listing) (f : Frame) where
  now : (s : State M) → s.world.over ≡ None → step m l f s ≡ step_at m l f (standing l s.at) s
  now s over = ap (λ (o : Option End). unless_over o s (step_at m l f (standing l s.at) s)) over

  ended : (s : State M) (e : End) → s.world.over ≡ Some e → step m l f s ≡ s
  ended s e over = ap (λ (o : Option End). unless_over o s (step_at m l f (standing l s.at) s)) over

  -- one step less is left
  pub turned : (old new : State M) (n i : ℕ) (all : State M)
      → i < n
      → old.world.over ≡ None
      → new ≡ step_at m l f (standing l old.at) old
      → after (step m l f) (n - i) old ≡ all
      → after (step m l f) (n - (i + 1)) new ≡ all
  turned old new n i all more over goes before =
      let left : n - i ≡ suc (n - (i + 1)) = omega (arith, more) in
      ap (after (step m l f) (n - (i + 1))) (goes ∙ sym (now old over))
      ∙ ap (λ k. after (step m l f) k old) (sym left)
      ∙ before

  pub done_all : (s first : State M) (n i : ℕ)
      → n ≤ i
      → after (step m l f) (n - i) s ≡ after (step m l f) n first
      → shown s.world ≡ seen (machine m l f) first n
  done_all s first n i none before =
      let left : n - i ≡ 0 = omega (arith, none) in
      ap (λ (z : State M). shown z.world) (sym (ap (λ k. after (step m l f) k s) left) ∙ before)

  pub done_early : (s first : State M) (n i : ℕ) (o : Option worlds.End)
      → s.world.over ≡ over_of o
      → IsSome o
      → after (step m l f) (n - i) s ≡ after (step m l f) n first
      → shown s.world ≡ seen (machine m l f) first n
  done_early s first n i None over some before = absurd (cc)
  done_early s first n i (Some e) over some before =
      ap (λ (z : State M). shown z.world) (sym (stands (step m l f) s (ended s (end_of e) over) (n - i)) ∙ before)

-- a run from the state that the run of a listing begins with
pub seen_is : (y : Layout) (l k : Listing) (f g : Frame) (e : Entry) (s : State Whole) (n : ℕ)
    → y ≡ layout l f e
    → k ≡ l
    → g ≡ f
    → s ≡ start l e (first_whole e)
    → seen (machine (whole y) k g) s n ≡ seen_p l f e n
seen_is y l k f g e s n lay list frame first =
    ap (λ (x : Layout). seen (machine (whole x) k g) s n) lay
    ∙ ap (λ (x : Listing). seen (machine (whole (layout l f e)) x g) s n) list
    ∙ ap (λ (x : Frame). seen (machine (whole (layout l f e)) l x) s n) frame
    ∙ ap (λ (x : State Whole). seen (machine (whole (layout l f e)) l f) x n) first
