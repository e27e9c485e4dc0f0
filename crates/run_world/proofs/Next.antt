-- The next key of a map by pairs of numbers.
use Rattle.std.proofs.Common.{◌≡◌, ◌≢◌, ℕ, ◌<◌, Bool, true, false, Option, Some, None, IsSome, List, [], ◌∷◌, refl, sym, ◌∙◌, subst, arith, rules}
use Rattle.std.specs.declared.cmp.Ordering.{Ordering}
use Rattle.std.specs.Ordering.{nat_cmp, ordering_then, is_gt}
use Rattle.std.specs.BTreeMap.{BTreeMap, get}
use Rattle.std.specs.BTreeMap.Range.{IsLtBy, IsLeBy, IsRangeOf}
use Rattle.std.specs.declared.ops.Bound.TheVariants.{Excluded, Unbounded}
use Rattle.std.proofs.lemmas.Bool.Decides.{nat_tests}

abbrev pub by_pair : ℕ × ℕ → ℕ × ℕ → Ordering
by_pair p q = ordering_then (nat_cmp p.0 q.0) (nat_cmp p.1 q.1)

less_there : (s o p : ℕ) → o < p → IsLtBy by_pair (s, o) (s, p)
less_there s o p lt = grind (arith, nat_tests)

greater_there : (t k p : ℕ) → p < k → is_gt (ordering_then (nat_cmp t t) (nat_cmp k p)) ≡ true
greater_there t k p lt = grind (arith, nat_tests)

greater_space : (s t k p : ℕ) → s < t → is_gt (ordering_then (nat_cmp t s) (nat_cmp k p)) ≡ true
greater_space s t k p lt = grind (arith, nat_tests)

less_same : (s o k : ℕ) → IsLtBy by_pair (s, o) (s, k) → o < k
less_same s o k less = grind (arith, nat_tests)

less_other : (s o t k : ℕ) → t ≢ s → IsLtBy by_pair (s, o) (t, k) → s < t
less_other s o t k other less = grind (arith, nat_tests)

none_there : (x : Option ℕ) → (IsSome x → ⊥) → x ≡ None
none_there None no_some = refl
none_there (Some b) no_some = absurd (no_some (search rules))

clash : (b : Bool) → b ≡ true → b ≡ false → ⊥
clash b is isnt = let e : true ≡ false = sym is ∙ isnt in cc

-- what a range past an offset begins with, at its first key
pub record BeginsAt (m : BTreeMap (ℕ × ℕ) ℕ) (s o t k : ℕ) : Type 0 where
  pub past : IsLtBy by_pair (s, o) (t, k)
  pub first : (q : ℕ × ℕ) → IsLtBy by_pair (s, o) q → IsSome (get by_pair m q) → IsLeBy by_pair (t, k) q

pub begins_here : (m : BTreeMap (ℕ × ℕ) ℕ) (s o t k : ℕ)
    → BeginsAt m s o t k
    → t ≡ s
    → (o < k) × ((p : ℕ) → o < p → p < k → get by_pair m (s, p) ≡ None)
begins_here m s o t k b same =
    let P : ℕ → Type 0 = λ x. BeginsAt m s o x k in
    let c = subst P same b in (
      less_same s o k c.past,
      λ p after before.
          none_there _ (λ there. clash _ (greater_there s k p before) (c.first (s, p) (less_there s o p after) there)),
    )

pub begins_past : (m : BTreeMap (ℕ × ℕ) ℕ) (s o t k : ℕ)
    → BeginsAt m s o t k
    → t ≢ s
    → (p : ℕ)
    → o < p
    → get by_pair m (s, p) ≡ None
begins_past m s o t k b other p after =
    none_there _ (λ there.
    clash _ (greater_space s t k p (less_other s o t k other b.past)) (b.first (s, p) (less_there s o p after) there))

pub nothing_past : (m : BTreeMap (ℕ × ℕ) ℕ) (s o : ℕ)
    → ((q : ℕ × ℕ) → IsLtBy by_pair (s, o) q → get by_pair m q ≡ None)
    → (p : ℕ)
    → o < p
    → get by_pair m (s, p) ≡ None
nothing_past m s o none p after = none (s, p) (less_there s o p after)

pub begins_at : (m : BTreeMap (ℕ × ℕ) ℕ) (s o t k v : ℕ) (r rest : List ((ℕ × ℕ) × ℕ))
    → IsRangeOf by_pair (Excluded (s, o)) Unbounded m r
    → r ≡ ((t, k), v) ∷ rest
    → BeginsAt m s o t k
begins_at m s o t k v r rest range is =
    let P : List ((ℕ × ℕ) × ℕ) → Type 0 = λ x. IsRangeOf by_pair (Excluded (s, o)) Unbounded m x in
    let h = subst P is range in
    record { past = h.1.0.0; first = λ q less there. h.2 q (less, tt) there }

pub ends_there : (m : BTreeMap (ℕ × ℕ) ℕ) (s o : ℕ) (r : List ((ℕ × ℕ) × ℕ))
    → IsRangeOf by_pair (Excluded (s, o)) Unbounded m r
    → r ≡ []
    → (p : ℕ)
    → o < p
    → get by_pair m (s, p) ≡ None
ends_there m s o r range is = nothing_past m s o (λ q less. range.5 is q (less, tt))
