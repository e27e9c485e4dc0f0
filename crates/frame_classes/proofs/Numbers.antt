-- Comparisons of signed numbers.
use Rattle.std.proofs.Common.{◌≡◌, ◌^◌, ◌≤◌, Bool, true, false, refl, ◌⊎◌, inl, inr, arith}
use Rattle.std.specs.Prelude.{cond, ℤ, pos, negsuc, neg_ℤ, ◌≤ℤ◌, ◌<ℤ◌, int_lt}
use Rattle.std.proofs.lemmas.Int.{ints}
use Rattle.frame_classes.specs.Runs.{place}

abbrev pub IsLess : ℤ → ℤ → Type 0
IsLess x y = ((x <ℤ y) × (int_lt x y ≡ true)) ⊎ ((y ≤ℤ x) × (int_lt x y ≡ false))

pub less_or_not : (x y : ℤ) → IsLess x y
less_or_not x y = by (int_lt x y) refl where
  by : (b : Bool) → int_lt x y ≡ b → IsLess x y
  by true e = let h : x <ℤ y = grind (arith, ints) in inl (h, e)
  by false e = let h : y ≤ℤ x = grind (arith, ints) in inr (h, e)

-- what is known of the greater one of two
pub record IsGreater (x y m : ℤ) : Type 0 where
  pub first : x ≤ℤ m
  pub second : y ≤ℤ m
  pub one : (m ≡ x) ⊎ (m ≡ y)

pub greater_is : (x y : ℤ) → IsGreater x y (cond (int_lt x y) y x)
greater_is x y = by (int_lt x y) refl where
  by : (b : Bool) → int_lt x y ≡ b → IsGreater x y (cond b y x)
  by true e =
      let h : x <ℤ y = grind (arith, ints) in
      record { first = omega (arith, ints, h); second = omega (arith, ints); one = inr refl }
  by false e =
      let h : y ≤ℤ x = grind (arith, ints) in
      record { first = omega (arith, ints); second = h; one = inl refl }

-- Numbers of offsets rise as the offsets do.
pub place_rises : (x y : ℤ)
    → neg_ℤ (pos (2 ^ 20)) ≤ℤ x
    → neg_ℤ (pos (2 ^ 20)) ≤ℤ y
    → place x ≤ place y
    → x ≤ℤ y
place_rises (pos n) (pos m) low also le = omega (arith, ints, le)
place_rises (pos n) (negsuc m) low also le = absurd (omega (arith, ints, le))
place_rises (negsuc n) (pos m) low also le = omega (arith, ints)
place_rises (negsuc n) (negsuc m) low also le = omega (arith, ints, le, low, also)
