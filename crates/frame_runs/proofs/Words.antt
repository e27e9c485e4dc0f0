-- What is known of ranges holds after something was written to others, and over calls.
use Rattle.std.proofs.Common.{◌≡◌, ◌≢◌, ℕ, ◌+◌, ◌%◌, ◌<◌, ◌≤◌, Bool, true, false, refl, sym, ap, ◌∙◌, ◌⊎◌, inl, inr, ⊎_elim, arith}
use Rattle.std.specs.Prelude.{◌==◌, ◌&&◌, nat_le, nat_lt}
use Rattle.std.proofs.Math.Nat.{mod-add-mod, add-mod-mod}
use Rattle.std.proofs.lemmas.Bool.Decides.{nat_tests}
use Rattle.std.proofs.lemmas.Bool.{cases_eq}
use Rattle.pcode_model.specs.declared.listing.Varnode.{Varnode}
use Rattle.pcode_model.specs.Ranges.{meets}
use Rattle.pcode_model.specs.Step.{in_range}
use Rattle.range_words.specs.Ranges.{AreApart}
use Rattle.frame_facts.specs.Facts.{shares}

-- ---- sums

pub sum_again : (m x b n : ℕ) → ((x + b) % m + n) % m ≡ (x + (b + n) % m) % m
sum_again m x b n =
    mod-add-mod (x + b) m n ∙ ap (λ z. z % m) (let e : x + b + n ≡ x + (b + n) = omega arith in e)
    ∙ sym (add-mod-mod x (b + n) m)

-- ---- ranges without a common byte

pub apart_from : (a b : Varnode) → shares a b ≡ false → AreApart b a
apart_from a b h = ⊎_elim
    (λ (same : b.space ≡ a.space). by (nat_lt a.offset (b.offset + b.size)) (nat_lt b.offset
    (a.offset + a.size)) refl refl
    (let t : (a.space == b.space) ≡ true = grind (arith, nat_tests) in
    ap (λ x. x && meets a.offset a.size b.offset b.size) (sym t) ∙ h))
    (λ (ne : b.space ≢ a.space). inl ne)
    (cases_eq b.space a.space)
  where
    by : (s t : Bool)
        → nat_lt a.offset (b.offset + b.size) ≡ s
        → nat_lt b.offset (a.offset + a.size) ≡ t
        → (nat_lt a.offset (b.offset + b.size) && nat_lt b.offset (a.offset + a.size)) ≡ false
        → AreApart b a
    by true true e f h = absurd (let g : (true && true) ≡ false = ap (λ x. x && true) (sym e)
        ∙ ap (λ y. nat_lt a.offset (b.offset + b.size) && y) (sym f) ∙ h in cc)
    by false t e f h = inr (inl (grind (arith, nat_tests)))
    by true false e f h = inr (inr (grind (arith, nat_tests)))

-- no common byte, seen from both
pub apart_by : (a b : Varnode) → ((o : ℕ) → b.space ≡ a.space → in_range a o ≡ true → in_range b o ≡ true → ⊥)
    → 0 < a.size
    → 0 < b.size
    → AreApart b a
apart_by a b none pa pb = ⊎_elim
    (λ (same : b.space ≡ a.space). by (nat_le (b.offset + b.size) a.offset) (nat_le
    (a.offset + a.size) b.offset) refl refl
    same)
    (λ (ne : b.space ≢ a.space). inl ne)
    (cases_eq b.space a.space)
  where
    higher : (x y : ℕ) → (m : ℕ) × ((x ≤ m) × ((y ≤ m) × ((m ≡ x) ⊎ (m ≡ y))))
    higher x y = pick (nat_le x y) refl where
      pick : (s : Bool) → nat_le x y ≡ s → (m : ℕ) × ((x ≤ m) × ((y ≤ m) × ((m ≡ x) ⊎ (m ≡ y))))
      pick true e = (y, (grind (arith, nat_tests), (omega arith, inr refl)))
      pick false e = (x, (omega arith, (grind (arith, nat_tests), inl refl)))

    by : (s t : Bool)
        → nat_le (b.offset + b.size) a.offset ≡ s
        → nat_le (a.offset + a.size) b.offset ≡ t
        → b.space ≡ a.space
        → AreApart b a
    by true t e f same = inr (inl (grind (arith, nat_tests)))
    by false true e f same = inr (inr (grind (arith, nat_tests)))
    by false false e f same =
        let m = higher a.offset b.offset in
        let one : a.offset < b.offset + b.size = grind (arith, nat_tests) in
        let two : b.offset < a.offset + a.size = grind (arith, nat_tests) in
        let low : (m.0 < a.offset + a.size) × (m.0 < b.offset + b.size) =
        ⊎_elim (λ (g : m.0 ≡ a.offset). (omega (arith, g, pa), omega (arith, g, one)))
        (λ (g : m.0 ≡ b.offset). (omega (arith, g, two), omega (arith, g, pb))) m.1.1.1 in
        let ra : in_range a m.0 ≡ true = grind (arith, nat_tests, m.1.0, low.0) in
        let rb : in_range b m.0 ≡ true = grind (arith, nat_tests, m.1.1.0, low.1) in
        absurd (none m.0 same ra rb)
