-- Fronts and two-way runs: how they compose, and what they carry over.
use Rattle.std.proofs.Common.{◌≡◌, ℕ, zero, suc, ◌≤◌, Bool, true, false, List, [], ◌++◌, Option, Some, None, refl, sym, ap, ◌∙◌, subst, ⊎_elim, ◌∷◌, arith, append_assoc, append-nil}
use Rattle.std.proofs.lemmas.Bool.{cases_lt}
use Rattle.std.proofs.lemmas.List.{append_cancel_left}
use Rattle.machine.specs.Trace.{Event, End, Returned, Trace}
use Rattle.machine.specs.TwoWay.{IsPrefix, GoesOn, IsFront, TwoWay, NeverEnds, Grows, bare_end, bare, seen_as, SameEnd, LooselyGoesOn, IsLooseFront, LooseTwoWay}

pub prefix_refl : (xs : List Event) → IsPrefix xs xs
prefix_refl xs = ([], sym (append-nil xs))

pub prefix_trans : (xs ys zs : List Event) → IsPrefix xs ys → IsPrefix ys zs → IsPrefix xs zs
prefix_trans xs ys zs p q = (p.0 ++ q.0, q.1 ∙ ap (λ l. l ++ q.0) p.1 ∙ append_assoc xs p.0 q.0)

pub nil_of_append : (xs ys : List Event) → xs ++ ys ≡ [] → xs ≡ []
nil_of_append [] ys e = refl
nil_of_append (x ∷ xs) ys e = absurd (cc)

-- prefixes of each other are the same
pub prefix_antisym : (xs ys : List Event) → IsPrefix xs ys → IsPrefix ys xs → xs ≡ ys
prefix_antisym xs ys p q =
    let e : xs ++ (p.0 ++ q.0) ≡ xs ++ [] = sym (q.1 ∙ ap (λ l. l ++ q.0) p.1 ∙ append_assoc xs p.0 q.0) ∙ sym (append-nil xs) in
    let none : p.0 ≡ [] = nil_of_append p.0 q.0 (append_cancel_left xs (p.0 ++ q.0) [] e) in
    sym (p.1 ∙ ap (λ l. xs ++ l) none ∙ append-nil xs)

goes_on_refl : (o : Option End) (s : Trace) → GoesOn o s s
goes_on_refl None s = prefix_refl s.events
goes_on_refl (Some e) s = refl

pub front_refl : (s : Trace) → IsFront s s
front_refl s = goes_on_refl s.over s

-- an equal trace is a front
pub front_eq : (s t : Trace) → s ≡ t → IsFront s t
front_eq s t e = let P : Trace → Type 0 = λ v. IsFront s v in subst P e (front_refl s)

-- a trace that has ended is a front of itself alone
pub front_of_over : (s t : Trace) (e : End) → s.over ≡ Some e → IsFront s t → s ≡ t
front_of_over s t e over f = let P : Option End → Type 0 = λ o. GoesOn o s t in subst P over f

-- a trace that goes on is a front of all that begins with its events
pub front_of_going : (s t : Trace) → s.over ≡ None → IsPrefix s.events t.events → IsFront s t
front_of_going s t going p = let P : Option End → Type 0 = λ o. GoesOn o s t in subst P (sym going) p

prefix_at : (o : Option End) (s t : Trace) → GoesOn o s t → IsPrefix s.events t.events
prefix_at None s t f = f
prefix_at (Some e) s t f = ([], sym (ap (λ v. v.events) f) ∙ sym (append-nil s.events))

pub prefix_of_front : (s t : Trace) → IsFront s t → IsPrefix s.events t.events
prefix_of_front s t f = prefix_at s.over s t f

front_trans_at : (o : Option End) (s t u : Trace) → s.over ≡ o → GoesOn o s t → IsFront t u → GoesOn o s u
front_trans_at None s t u e f g = prefix_trans s.events t.events u.events f (prefix_of_front t u g)
front_trans_at (Some x) s t u e f g = f ∙ front_of_over t u x (ap (λ v. v.over) (sym f) ∙ e) g

pub front_trans : (s t u : Trace) → IsFront s t → IsFront t u → IsFront s u
front_trans s t u f g = front_trans_at s.over s t u refl f g

antisym_at : (o p : Option End) (s t : Trace) → s.over ≡ o → t.over ≡ p → GoesOn o s t → GoesOn p t s → s ≡ t
antisym_at (Some e) p s t es et f g = f
antisym_at None (Some e) s t es et f g = sym g
antisym_at None None s t es et f g =
    let over : s.over ≡ t.over = es ∙ sym et in
    let events = prefix_antisym s.events t.events f g in
    ap (λ l. let v : Trace = record { events = l; over = s.over } in v) events ∙ ap (λ o. let v : Trace = record { events = t.events; over = o } in v) over

-- fronts of each other are the same
pub front_antisym : (s t : Trace) → IsFront s t → IsFront t s → s ≡ t
front_antisym s t f g = antisym_at s.over t.over s t refl refl f g

pub two_way_refl : (r : ℕ → Trace) → TwoWay r r
two_way_refl r = record { there = λ n. (n, front_refl (r n)); back = λ n. (n, front_refl (r n)) }

pub two_way_sym : (r s : ℕ → Trace) → TwoWay r s → TwoWay s r
two_way_sym r s w = record { there = w.back; back = w.there }

pub two_way_trans : (r s t : ℕ → Trace) → TwoWay r s → TwoWay s t → TwoWay r t
two_way_trans r s t v w = record {
  there = λ n. let m = v.there n in let k = w.there m.0 in (k.0, front_trans (r n) (s m.0) (t k.0) m.1 k.1);
  back = λ n. let m = w.back n in let k = v.back m.0 in (k.0, front_trans (t n) (s m.0) (r k.0) m.1 k.1);
}

-- the first run may be replaced by one that shows the same at each step
pub two_way_from : (r f s : ℕ → Trace) → ((n : ℕ) → r n ≡ f n) → TwoWay f s → TwoWay r s
two_way_from r f s same w = record {
  there = λ n. let m = w.there n in (m.0, front_trans (r n) (f n) (s m.0) (front_eq (r n) (f n) (same n)) m.1);
  back = λ m. let n = w.back m in (n.0, front_trans (s m) (f n.0) (r n.0) n.1 (front_eq (f n.0) (r n.0) (sym (same n.0))));
}

-- and so may the second
pub two_way_to : (r s f : ℕ → Trace) → TwoWay r s → ((n : ℕ) → s n ≡ f n) → TwoWay r f
two_way_to r s f w same = two_way_sym f r (two_way_from f s r (λ n. sym (same n)) (two_way_sym r s w))

-- where one run ends, the other shows the same in the end
pub end_along : (r s : ℕ → Trace) → TwoWay r s → (n : ℕ) (e : End) → (r n).over ≡ Some e → (m : ℕ) × (s m ≡ r n)
end_along r s w n e over = let m = w.there n in (m.0, sym (front_of_over (r n) (s m.0) e over m.1))

-- where one run never comes to an end of this kind, the other doesn't either
pub never_ends_along : (e : End) (r s : ℕ → Trace) → TwoWay r s → NeverEnds e r → NeverEnds e s
never_ends_along e r s w never = λ m over. let n = w.back m in never n.0 (ap (λ v. v.over) (sym (front_of_over (s m) (r n.0) e over n.1)) ∙ over)

-- the events of one run come in the other
pub events_along : (r s : ℕ → Trace) → TwoWay r s → (n : ℕ) → (m : ℕ) × IsPrefix (r n).events (s m).events
events_along r s w n = let m = w.there n in (m.0, prefix_of_front (r n) (s m.0) m.1)

-- what is shown after more steps goes on from what was shown before
pub grown : (r : ℕ → Trace) → Grows r → (n k : ℕ) → n ≤ k → IsFront (r n) (r k)
grown r g n zero le = let e : n ≡ zero = omega arith in front_eq (r n) (r zero) (ap r e)
grown r g n (suc k) le = ⊎_elim
    (λ lt. front_trans (r n) (r k) (r (suc k)) (grown r g n k (omega arith)) (g k))
    (λ ge. let e : n ≡ suc k = omega arith in front_eq (r n) (r (suc k)) (ap r e))
    (cases_lt n (suc k))

-- after an end nothing changes
pub end_stays : (r : ℕ → Trace) → Grows r → (n k : ℕ) (e : End) → (r n).over ≡ Some e → n ≤ k → r k ≡ r n
end_stays r g n k e over le = sym (front_of_over (r n) (r k) e over (grown r g n k le))

-- a front keeps being one without the words
bare_goes_on : (o : Option End) (s t : Trace) → GoesOn o s t → GoesOn (bare_end o) (bare s) (bare t)
bare_goes_on None s t f = f
bare_goes_on (Some (Returned w)) s t f = ap bare f
bare_goes_on (Some e) s t f = ap bare f

pub front_bare : (s t : Trace) → IsFront s t → IsFront (bare s) (bare t)
front_bare s t f = bare_goes_on s.over s t f

pub two_way_bare : (r s : ℕ → Trace) → TwoWay r s → TwoWay (λ n. bare (r n)) (λ n. bare (s n))
two_way_bare r s w = record {
  there = λ n. let m = w.there n in (m.0, front_bare (r n) (s m.0) m.1);
  back = λ n. let m = w.back n in (m.0, front_bare (s n) (r m.0) m.1);
}

-- the first run's words may be dropped where the second's returns have none to compare with
pub two_way_as : (gives : Bool) (r s : ℕ → Trace) → TwoWay r s → ((n : ℕ) → seen_as gives (s n) ≡ s n) → TwoWay (λ n. seen_as gives (r n)) s
two_way_as true r s w wordless = w
two_way_as false r s w wordless = two_way_to (λ n. bare (r n)) (λ n. bare (s n)) s (two_way_bare r s w) wordless

same_end_refl : (e : Option End) → SameEnd e e
same_end_refl (Some (Returned None)) = tt
same_end_refl (Some (Returned (Some w))) = refl
same_end_refl None = refl
same_end_refl (Some e) = refl

same_end_bare : (e : Option End) → SameEnd (bare_end e) e
same_end_bare (Some (Returned w)) = tt
same_end_bare None = refl
same_end_bare (Some e) = refl

bare_end_same : (e : Option End) → SameEnd e (bare_end e)
bare_end_same (Some (Returned None)) = tt
bare_end_same (Some (Returned (Some w))) = tt
bare_end_same None = refl
bare_end_same (Some e) = refl

loose_at : (o : Option End) (s t : Trace) → s.over ≡ o → GoesOn o s t → LooselyGoesOn o s t
loose_at None s t e f = f
loose_at (Some x) s t e f = (ap (λ v. v.events) f, let P : Option End → Type 0 = λ o. SameEnd (Some x) o in subst P (sym e ∙ ap (λ v. v.over) f) (same_end_refl (Some x)))

-- an exact front is a loose one
pub loose_front_of_front : (s t : Trace) → IsFront s t → IsLooseFront s t
loose_front_of_front s t f = loose_at s.over s t refl f

over_bare : (e : End) → (f : End) × (bare_end (Some e) ≡ Some f)
over_bare (Returned w) = (Returned None, refl)
over_bare e = (e, refl)

bare_loose_at : (o : Option End) (s t : Trace) → s.over ≡ o → IsFront (bare s) t → LooselyGoesOn o s t
bare_loose_at None s t e f = prefix_of_front (bare s) t f
bare_loose_at (Some x) s t e f =
    let y = over_bare x in
    let whole = front_of_over (bare s) t y.0 (ap bare_end e ∙ y.1) f in
    let P : Option End → Type 0 = λ o. SameEnd (Some x) o in
    (ap (λ v. v.events) whole, subst P (ap bare_end (sym e) ∙ ap (λ v. v.over) whole) (bare_end_same (Some x)))

-- what is a front without its word is a loose one with it
pub loose_front_of_bare : (s t : Trace) → IsFront (bare s) t → IsLooseFront s t
loose_front_of_bare s t f = bare_loose_at s.over s t refl f

to_bare_loose_at : (o : Option End) (s t : Trace) → s.over ≡ o → IsFront s (bare t) → LooselyGoesOn o s t
to_bare_loose_at None s t e f = prefix_of_front s (bare t) f
to_bare_loose_at (Some x) s t e f =
    let whole = front_of_over s (bare t) x e f in
    let P : Option End → Type 0 = λ o. SameEnd o t.over in
    (ap (λ v. v.events) whole, subst P (sym (ap (λ v. v.over) whole) ∙ e) (same_end_bare t.over))

-- what is a front of a trace without its word is a loose one of the trace with it
pub loose_front_to_bare : (s t : Trace) → IsFront s (bare t) → IsLooseFront s t
loose_front_to_bare s t f = to_bare_loose_at s.over s t refl f

pub loose_two_way : (r s : ℕ → Trace) → TwoWay r s → LooseTwoWay r s
loose_two_way r s w = record {
  there = λ n. let m = w.there n in (m.0, loose_front_of_front (r n) (s m.0) m.1);
  back = λ m. let n = w.back m in (n.0, loose_front_of_front (s m) (r n.0) n.1);
}

pub loose_two_way_as : (gives : Bool) (r s : ℕ → Trace) → TwoWay (λ n. seen_as gives (r n)) s → LooseTwoWay r s
loose_two_way_as true r s w = loose_two_way r s w
loose_two_way_as false r s w = record {
  there = λ n. let m = w.there n in (m.0, loose_front_of_bare (r n) (s m.0) m.1);
  back = λ m. let n = w.back m in (n.0, loose_front_to_bare (s m) (r n.0) n.1);
}
