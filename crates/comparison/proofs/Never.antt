-- Where one run agrees with another, the comparison of what both have shown after so many steps never says Apart.
use Rattle.std.proofs.Common.{◌≡◌, ◌∙◌, ◌⊎◌, inl, inr, ℕ, Bool, true, false, List, [], ◌∷◌, ◌++◌, refl, sym, ap, ap₂, subst, arith}
use Rattle.std.specs.Prelude.{nat_le, Option, Some, None}
use Rattle.std.proofs.lemmas.Bool.Decides.{nat_tests}
use Rattle.machine.specs.Agree.{Agree}
use Rattle.machine.specs.Trace.{Event, End, Returned, DivZero, ReadOnlyWrite, NoAnswer, NoReturn, Outside, BadTarget, Undefined, Trace}
use Rattle.machine.specs.TwoWay.{Grows, IsFront, IsLooseFront, IsPrefix, LooseTwoWay, LooselyGoesOn, NeverEnds, SameEnd}
use Rattle.machine.proofs.TwoWay.{front_of_over, grown, loose_two_way_as, prefix_of_front, prefix_trans}
use Rattle.comparison.specs.Says.{Says, left_away, within}
use Rattle.comparison.specs.declared.fronts.Comparison.TheVariants.{Apart}

-- ---- two beginnings of one list

head_is : (x y : Event) (xs ys : List Event) → x ∷ xs ≡ y ∷ ys → x ≡ y
head_is x y xs ys e = cc

tail_is : (x y : Event) (xs ys : List Event) → x ∷ xs ≡ y ∷ ys → xs ≡ ys
tail_is x y xs ys e = cc

nil_not : (x : Event) (xs : List Event) → [] ≡ x ∷ xs → ⊥
nil_not x xs e = cc

with_head : (x y : Event) (xs ys : List Event) → x ≡ y → IsPrefix xs ys → IsPrefix (x ∷ xs) (y ∷ ys)
with_head x y xs ys e (rest, is) = (rest, ap₂ (λ a b. a ∷ b) (sym e) is)

prefix_either : (xs ys zs : List Event) → IsPrefix xs zs → IsPrefix ys zs → IsPrefix xs ys ⊎ IsPrefix ys xs
prefix_either [] ys zs p q = inl (ys, refl)
prefix_either (x ∷ xs) [] zs p q = inr (x ∷ xs, refl)
prefix_either (x ∷ xs) (y ∷ ys) [] (r, e) q = absurd (nil_not x (xs ++ r) e)
prefix_either (x ∷ xs) (y ∷ ys) (z ∷ zs) (r, e) (q, f) =
    heads (prefix_either xs ys zs (r, tail_is z x zs (xs ++ r) e) (q, tail_is z y zs (ys ++ q) f))
  where
    same : x ≡ y
    same = sym (head_is z x zs (xs ++ r) e) ∙ head_is z y zs (ys ++ q) f

    heads : IsPrefix xs ys ⊎ IsPrefix ys xs → IsPrefix (x ∷ xs) (y ∷ ys) ⊎ IsPrefix (y ∷ ys) (x ∷ xs)
    heads (inl h) = inl (with_head x y xs ys same h)
    heads (inr h) = inr (with_head y x ys xs (sym same) h)

-- ---- traces of which one is a front of the other

abbrev Comparable : Trace → Trace → Type 0
Comparable s t = IsLooseFront s t ⊎ IsLooseFront t s

going : (s t : Trace) → s.over ≡ None → IsPrefix s.events t.events → IsLooseFront s t
going s t e p = let P : Option End → Type 0 = λ o. LooselyGoesOn o s t in subst P (sym e) p

apart_not : (s t : Trace) → Comparable s t → Says s t Apart → ⊥
apart_not s t (inl f) apart = apart.0 f
apart_not s t (inr f) apart = apart.1 f

left_is : (o : Option End) → (o ≡ Some Outside → ⊥) → left_away o ≡ o
left_is None h = refl
left_is (Some (Returned w)) h = refl
left_is (Some DivZero) h = refl
left_is (Some ReadOnlyWrite) h = refl
left_is (Some NoAnswer) h = refl
left_is (Some NoReturn) h = refl
left_is (Some Outside) h = absurd (h refl)
left_is (Some BadTarget) h = refl
left_is (Some Undefined) h = refl

within_is : (s : Trace) → (s.over ≡ Some Outside → ⊥) → within s ≡ s
within_is s h = let P : Option End → Trace = λ o. record { events = s.events; over = o } in ap P (left_is s.over h)

some_not : (e : End) → ◌≡◌ {A = Option End} (Some e) None → ⊥
some_not e h = cc

-- the same end as none
same_none : (e : End) → SameEnd (Some e) None → ⊥
same_none (Returned w) h = some_not (Returned w) h
same_none DivZero h = some_not DivZero h
same_none ReadOnlyWrite h = some_not ReadOnlyWrite h
same_none NoAnswer h = some_not NoAnswer h
same_none NoReturn h = some_not NoReturn h
same_none Outside h = some_not Outside h
same_none BadTarget h = some_not BadTarget h
same_none Undefined h = some_not Undefined h

-- what goes on, or has only its events to show, beside a front of a trace that goes on from it
by_events : (s t u : Trace) → s.over ≡ None → IsPrefix s.events u.events → IsFront t u ⊎ IsFront u t → Comparable s t
by_events s t u e p (inr f) = inl (going s t e (prefix_trans s.events u.events t.events p (prefix_of_front u t f)))
by_events s t u e p (inl f) = by_over t.over refl (prefix_either s.events t.events u.events p (prefix_of_front t u f))
  where
    by_over : (o : Option End) → t.over ≡ o → IsPrefix s.events t.events ⊎ IsPrefix t.events s.events → Comparable s t
    by_over o is (inl q) = inl (going s t e q)
    by_over None is (inr q) = inr (going t s is q)
    by_over (Some x) is (inr q) = inl
        (going s t e (subst (λ (v : Trace). IsPrefix s.events v.events) (sym (front_of_over t u x is f)) p))

-- a front, and a front of a trace that goes on from it
by_front : (s t u : Trace) → IsLooseFront s u → IsFront t u ⊎ IsFront u t → Comparable s t
by_front s t u h f = by_over s.over refl
  where
    at : (o : Option End) → s.over ≡ o → LooselyGoesOn o s u
    at o is = let P : Option End → Type 0 = λ x. LooselyGoesOn x s u in subst P is h

    ended : (x : End) → s.over ≡ Some x → IsFront t u ⊎ IsFront u t → Comparable s t
    ended x is (inl g) = by_target t.over refl
      where
        by_target : (o : Option End) → t.over ≡ o → Comparable s t
        by_target None e = inr (going t s e
            (subst (IsPrefix t.events) (sym (at (Some x) is).0) (prefix_of_front t u g)))
        by_target (Some y) e = inl (subst (IsLooseFront s) (sym (front_of_over t u y e g)) h)
    ended x is (inr g) = by_target u.over refl
      where
        by_target : (o : Option End) → u.over ≡ o → Comparable s t
        by_target None e = absurd (same_none x (subst (SameEnd (Some x)) e (at (Some x) is).1))
        by_target (Some y) e = inl (subst (IsLooseFront s) (front_of_over u t y e g) h)

    by_over : (o : Option End) → s.over ≡ o → Comparable s t
    by_over None is = by_events s t u is (at None is) f
    by_over (Some x) is = ended x is f

-- ---- runs

fronts : (r : ℕ → Trace) → Grows r → (n k : ℕ) → IsFront (r n) (r k) ⊎ IsFront (r k) (r n)
fronts r grows n k = by (nat_le n k) refl
  where
    by : (b : Bool) → nat_le n k ≡ b → IsFront (r n) (r k) ⊎ IsFront (r k) (r n)
    by true e = inl (grown r grows n k (grind (arith, nat_tests)))
    by false e = inr (grown r grows k n (grind (arith, nat_tests)))

module _ (gives : Bool) (source target : ℕ → Trace) (grows : Grows source) (on : Grows target)
    (inside : NeverEnds Outside target) (agree : Agree gives source target) (n : ℕ) where
  target_is : within (target n) ≡ target n
  target_is = within_is (target n) (inside n)

  -- where the source ends Outside, what it shows before then is shown
  left_none : (m : ℕ)
      → (source m).over ≡ Some Outside
      → (left_away (source n).over ≡ None) × IsPrefix (source n).events (source m).events
  left_none m out = by_front_of (fronts source grows n m)
    where
      ended : (o : Option End) → (source n).over ≡ o → IsFront (source n) (source m) → left_away (source n).over ≡ None
      ended None is f = ap left_away is
      ended (Some e) is f = ap left_away (ap (λ (v : Trace). v.over) (front_of_over (source n) (source m) e is f) ∙ out)

      by_front_of : IsFront (source n) (source m) ⊎ IsFront (source m) (source n)
          → (left_away (source n).over ≡ None) × IsPrefix (source n).events (source m).events
      by_front_of (inl f) = (ended (source n).over refl f, prefix_of_front (source n) (source m) f)
      by_front_of (inr f) =
          let same : source m ≡ source n = front_of_over (source m) (source n) Outside out f in (
            ap left_away (sym (ap (λ (v : Trace). v.over) same) ∙ out),
            subst
                (λ (v : Trace). IsPrefix v.events (source m).events) same ([], sym_append (source m).events),
          )
        where
          sym_append : (xs : List Event) → xs ≡ xs ++ []
          sym_append [] = refl
          sym_append (x ∷ xs) = ap (λ (ys : List Event). x ∷ ys) (sym_append xs)

  out_comparable : (m : ℕ) → (source m).over ≡ Some Outside → Comparable (within (source n)) (target n)
  out_comparable m out =
      let so = left_none m out in
      let shown = agree.until m out in
      by_events (within (source n)) (target n) (target shown.0) so.0
      (prefix_trans (source n).events (source m).events (target shown.0).events so.1 shown.1)
      (fronts target on n shown.0)

  comparable : NeverEnds Outside source → Comparable (within (source n)) (target n)
  comparable never =
      let both : LooseTwoWay source target = loose_two_way_as gives source target (agree.same never) in
      let there = both.there n in
      subst (λ (s : Trace). Comparable s (target n)) (sym (within_is (source n) (never n)))
      (by_front (source n) (target n) (target there.0) there.1 (fronts target on n there.0))

  -- what one run shows after n steps is a front of what the other shows, or the other way round
  pub never_apart : Says (within (source n)) (within (target n)) Apart → ⊥
  never_apart apart = apart_not (within (source n)) (target n)
      (comparable (λ m out. apart_not (within (source n)) (target n) (out_comparable m out) at_target)) at_target
    where
      at_target : Says (within (source n)) (target n) Apart
      at_target = subst (λ (t : Trace). Says (within (source n)) t Apart) target_is apart
