-- Facts are true of the run of the listing, and of the run whose frame variables have bytes of their own.
use Rattle.std.proofs.Common.{◌≡◌, ℕ, [], None}
use Rattle.machine.specs.Machine.{after}
use Rattle.pcode_model.specs.declared.listing.Listing.{Listing}
use Rattle.pcode_model.specs.Memory.{Acts, Frame, whole, apart}
use Rattle.pcode_model.specs.World.{Entry}
use Rattle.pcode_model.specs.Step.{stack0, layout, first_whole, first_apart, start, step}
use Rattle.frame_runs.specs.Laws.{FactsHold, FactsLaw, IsRun}
use Rattle.frame_runs.proofs.Runs.{never_switches, run_stands, start_stands}

module _ (l : Listing) (e : Entry) (f : Frame) (n : ℕ) (is : IsRun l e) where
  -- over any memory
  pub facts_over : {M : Type 0} (m : Acts M) (w : M)
      → (let s = after (step m l f) n (start l e w) in
      s.world.over ≡ None → FactsHold l [] (stack0 l e) s.at s.local)
  facts_over m w on =
      (run_stands l [] is.read is.ops is.sound (never_switches l is.sound) (stack0 l e) m f n (start l e w)
      (λ o. start_stands l [] e is.low) on).facts

  pub facts_law : FactsLaw l e f n
  facts_law = record {
    in_whole = facts_over (whole (layout l f e)) (first_whole e);
    in_apart = facts_over (apart l) (first_apart l e);
  }
