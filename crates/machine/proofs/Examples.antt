-- The small cases: runs that show all at once, and two machines that call for ever.
use Rattle.std.proofs.Common.{◌≡◌, ◌≢◌, ℕ, zero, suc, Bool, true, false, List, [], ◌∷◌, ◌++◌, Some, None, refl, sym, ap, ◌∙◌, inr}
use Rattle.machine.specs.Trace.{Event, End, Returned, Outside, Undefined, Trace}
use Rattle.machine.specs.TwoWay.{IsPrefix, IsFront, TwoWay, seen_as}
use Rattle.machine.specs.Machine.{after, IsMonotone, Simulates}
use Rattle.machine.specs.Agree.{Agree}
use Rattle.machine.specs.Examples.{returned, call, called_then, late, SmallRuns, SmallAgreements, calls, busy, turned, lazy, StepsAreNotSeen}
use Rattle.machine.proofs.TwoWay.{nil_of_append, prefix_refl, prefix_of_front, front_refl, front_eq, front_trans, end_along, two_way_from}
use Rattle.machine.proofs.Machine.{two_way_by}

late_front : (k : ℕ) (t : Trace) (n : ℕ) → IsFront (late k t n) t
late_front zero t n = front_refl t
late_front (suc k) t zero = (t.events, refl)
late_front (suc k) t (suc n) = late_front k t n

late_at : (k : ℕ) (t : Trace) → late k t k ≡ t
late_at zero t = refl
late_at (suc k) t = late_at k t

late_over : (k : ℕ) (t : Trace) (n : ℕ) (e : End) → (late k t n).over ≡ Some e → t.over ≡ Some e
late_over zero t n e over = over
late_over (suc k) t zero e over = absurd (cc)
late_over (suc k) t (suc n) e over = late_over k t n e over

late_as : (gives : Bool) (k : ℕ) (t : Trace) (n : ℕ) → seen_as gives (late k t n) ≡ late k (seen_as gives t) n
late_as true k t n = refl
late_as false zero t n = refl
late_as false (suc k) t zero = refl
late_as false (suc k) t (suc n) = late_as false k t n

late_to : (j k : ℕ) (t : Trace) (n : ℕ) → (m : ℕ) × IsFront (late j t n) (late k t m)
late_to j k t n = (k, front_trans (late j t n) t (late k t k) (late_front j t n) (front_eq t (late k t k) (sym (late_at k t))))

late_two_way : (j k : ℕ) (t : Trace) → TwoWay (late j t) (late k t)
late_two_way j k t = record { there = λ n. late_to j k t n; back = λ m. late_to k j t m }

not_going : (e : End) → None ≢ Some e
not_going e is = cc

pub small_runs : SmallRuns
small_runs = record {
  waits = late_two_way 0 3 (returned (Some 5));
  for_ever = λ w. let n = w.back 3 in not_going (Returned (Some 5)) (ap (λ v. v.over) (sym n.1));
  another_word = λ w. let m = w.there 0 in let e : Some (Returned (Some 5)) ≡ Some (Returned (Some 6)) = ap (λ v. v.over) m.1 in cc;
}

agree_late : (gives : Bool) (j k : ℕ) (t u : Trace) → seen_as gives t ≡ u → t.over ≢ Some Outside → u.over ≢ Some Undefined → Agree gives (late j t) (late k u)
agree_late gives j k t u same inside defined = record {
  same = λ never. two_way_from (λ n. seen_as gives (late j t n)) (late j u) (late k u) (λ n. late_as gives j t n ∙ ap (λ v. late j v n) same) (late_two_way j k u);
  until = λ n over. absurd (inside (late_over j t n Outside over));
  defined = λ m over. defined (late_over k u m Undefined over);
}

-- what the target never shows, it does not agree on
disagree_late : (gives : Bool) (j k : ℕ) (t u : Trace) (e : End) → (seen_as gives t).over ≡ Some e → t.over ≢ Some Outside → u.over ≢ Some e → ¬ Agree gives (late j t) (late k u)
disagree_late gives j k t u e over inside differ = λ agree.
    let w = agree.same (λ n out. inside (late_over j t n Outside out)) in
    let is = ap (seen_as gives) (late_at j t) in
    let m = end_along (λ n. seen_as gives (late j t n)) (late k u) w j e (ap (λ v. v.over) is ∙ over) in
    differ (late_over k u m.0 e (ap (λ v. v.over) (m.1 ∙ is) ∙ over))

no_calls : (xs rest : List Event) → IsPrefix xs [] → xs ≢ call ∷ rest
no_calls xs rest p is = let none : xs ≡ [] = nil_of_append xs p.0 (sym p.1) in cc

pub small_agreements : SmallAgreements
small_agreements = record {
  gives = agree_late true 1 2 (returned (Some 5)) (returned (Some 5)) refl (λ e. cc) (λ e. cc);
  gives_none = agree_late false 1 2 (returned (Some 5)) (returned None) refl (λ e. cc) (λ e. cc);
  lacks_word = disagree_late true 1 2 (returned (Some 5)) (returned None) (Returned (Some 5)) refl (λ e. cc) (λ e. cc);
  word_too_many = disagree_late false 1 2 (returned (Some 5)) (returned (Some 5)) (Returned None) refl (λ e. cc) (λ e. cc);
  outside = record {
    same = λ never. absurd (never 1 refl);
    until = λ n over. (2, prefix_of_front (late 1 (called_then Outside) n) (called_then Outside) (late_front 1 (called_then Outside) n));
    defined = λ m over. let e = late_over 2 (called_then (Returned (Some 6))) m Undefined over in cc;
  };
  outside_too_early = λ agree.
      let m = agree.until 1 refl in
      let t = returned (Some 6) in
      no_calls (late 2 t m.0).events m.1.0 (prefix_of_front (late 2 t m.0) t (late_front 2 t m.0)) m.1.1;
  undefined = λ agree. agree.defined 2 refl;
}

one_more : (n : ℕ) → call ∷ calls n ≡ calls n ++ call ∷ []
one_more zero = refl
one_more (suc n) = ap (λ l. call ∷ l) (one_more n)

busy_grows : IsMonotone busy
busy_grows n = (call ∷ [], one_more n)

lazy_at : (idle : Bool) (n : ℕ) → IsPrefix (calls n) (calls (turned idle n).count)
lazy_at true n = (call ∷ [], one_more n)
lazy_at false n = prefix_refl (calls n)

lazy_grows : IsMonotone lazy
lazy_grows t = lazy_at t.idle t.count

-- just after a call both have made n
busy_as_lazy : Simulates busy lazy (λ n t. t ≡ record { count = n; idle = false })
busy_as_lazy = record {
  same = λ n t is. ap lazy.sight (sym is);
  goes = λ n t is. inr (0, (1, ap (after lazy.step 2) is));
}

pub steps_are_not_seen : StepsAreNotSeen
steps_are_not_seen = two_way_by busy lazy (λ n t. t ≡ record { count = n; idle = false }) busy_grows lazy_grows busy_as_lazy 0 (record { count = 0; idle = false }) refl
