-- The frame law from single steps, and agreement from two-way runs.
use Rattle.std.proofs.Common.{◌≡◌, refl, ℕ, zero, suc, Bool, true, false, List, [], sym, ap, ◌∙◌, subst, ◌⊎◌, inl, inr, ⊎_elim, append-nil, arith}
use Rattle.machine.specs.Trace.{Event, Outside, Undefined, Trace}
use Rattle.machine.specs.TwoWay.{IsPrefix, TwoWay, NeverEnds, seen_as}
use Rattle.machine.specs.Machine.{Machine, seen, IsMonotone}
use Rattle.machine.specs.Agree.{Agree, AgreeLoosely, FrameLaw, IsOut, Follows}
use Rattle.machine.proofs.TwoWay.{prefix_trans, prefix_of_front, two_way_trans, two_way_from, never_ends_along, loose_two_way_as}
use Rattle.machine.proofs.Machine.{sees_more, stays_seen}

-- at each step both have shown the same, or the first has ended Outside
at_step : {S T : Type 0} (a : Machine S) (b : Machine T) (R : S → T → Type 0) → IsMonotone a → IsMonotone b → Follows a b R → (n : ℕ) (s : S) (t : T) → R s t → (seen a s n ≡ seen b t n) ⊎ IsOut (seen a s n) (seen b t n)
at_step a b R ma mb law zero s t r = inl (law.same s t r)
at_step a b R ma mb law (suc n) s t r = ⊎_elim
    (λ go. at_step a b R ma mb law n (a.step s) (b.step t) go)
    (λ out.
    let still = stays_seen a ma (a.step s) Outside out.over n in
    inr (record {
      over = ap (λ v. v.over) (sym still) ∙ out.over;
      events = let P : Trace → Type 0 = λ v. IsPrefix v.events (seen b t (suc n)).events in subst P still (prefix_trans _ _ _ out.events (prefix_of_front _ _ (sees_more b mb (b.step t) zero n (omega arith))));
    }))
    (law.goes s t r)

pub frame_law_by : {S T : Type 0} (a : Machine S) (b : Machine T) (R : S → T → Type 0) → IsMonotone a → IsMonotone b → Follows a b R → (s : S) (t : T) → R s t → FrameLaw (seen a s) (seen b t)
frame_law_by a b R ma mb law s t r = record {
  same = λ n inside. ⊎_elim (λ e. e) (λ out. absurd (inside out.over)) (at_step a b R ma mb law n s t r);
  until = λ n over. ⊎_elim (λ e. ([], sym (ap (λ v. v.events) e) ∙ sym (append-nil _))) (λ out. out.events) (at_step a b R ma mb law n s t r);
}

-- dropping words leaves the events
events_as : (gives : Bool) (t : Trace) → (seen_as gives t).events ≡ t.events
events_as true t = refl
events_as false t = refl

pub agree_by_frame : (gives : Bool) (source frame target : ℕ → Trace) → FrameLaw source frame → TwoWay (λ n. seen_as gives (frame n)) target → NeverEnds Undefined target → Agree gives source target
agree_by_frame gives source frame target law w defined = record {
  same = λ never. two_way_from (λ n. seen_as gives (source n)) (λ n. seen_as gives (frame n)) target (λ n. ap (seen_as gives) (law.same n (never n))) w;
  until = λ n over.
      let m = w.there n in
      let P : List Event → Type 0 = λ l. IsPrefix l (target m.0).events in
      (m.0, prefix_trans _ _ _ (law.until n over) (subst P (events_as gives (frame n)) (prefix_of_front _ _ m.1)));
  defined = defined;
}

-- agreement with a run is agreement with each run that is two-way with it
pub agree_along : (gives : Bool) (source middle target : ℕ → Trace) → Agree gives source middle → TwoWay middle target → Agree gives source target
agree_along gives source middle target agree w = record {
  same = λ never. two_way_trans (λ n. seen_as gives (source n)) middle target (agree.same never) w;
  until = λ n over.
      let m = agree.until n over in
      let k = w.there m.0 in
      (k.0, prefix_trans _ _ _ m.1 (prefix_of_front _ _ k.1));
  defined = never_ends_along Undefined middle target w agree.defined;
}

pub agree_loosely : (gives : Bool) (source target : ℕ → Trace) → Agree gives source target → AgreeLoosely source target
agree_loosely gives source target agree = record {
  same = λ never. loose_two_way_as gives source target (agree.same never);
  until = agree.until;
  defined = agree.defined;
}
