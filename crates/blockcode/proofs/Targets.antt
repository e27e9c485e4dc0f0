-- The blocks that a switch leads to stand once each, and each has a value.
use Rattle.std.proofs.Common.{◌≡◌, ℕ, Bool, true, false, List, [], ◌∷◌, refl, sym, ap, ◌∙◌, arith}
use Rattle.std.specs.Prelude.{◌==◌, cond}
use Rattle.std.proofs.lemmas.Bool.Decides.{nat_tests}
use Rattle.pcode_model.specs.Spaces.{or}
use Rattle.pcode_laws.proofs.Rules.{neither}
use Rattle.cmeaning.specs.Valid.{is_in}
use Rattle.blockcode.specs.declared.code.Arm.{Arm}
use Rattle.blockcode.specs.Laid.{targets, values_to, without}

pub in_without : (x t : ℕ) (ts : List ℕ) → (t == x) ≡ false → is_in t (without x ts) ≡ is_in t ts
in_without x t [] ne = refl
in_without x t (y ∷ ts) ne = by (y == x) refl (in_without x t ts ne) where
  by : (b : Bool) → (y == x) ≡ b
      → is_in t (without x ts) ≡ is_in t ts
      → is_in t (cond b (without x ts) (y ∷ without x ts)) ≡ or (t == y) (is_in t ts)
  by true e next = let other : (t == y) ≡ false = grind (arith, nat_tests, e, ne) in
      next ∙ sym (ap (λ b. or b (is_in t ts)) other)
  by false e next = ap (or (t == y)) next

-- ---- blocks that stand once

abbrev pub AreOnce : List ℕ → Type 0
AreOnce [] = Unit {0}
AreOnce (t ∷ ts) = (is_in t ts ≡ false) × AreOnce ts

pub still_out : (x y : ℕ) (ts : List ℕ) → is_in y ts ≡ false → is_in y (without x ts) ≡ false
still_out x y [] h = refl
still_out x y (z ∷ ts) h = let parts = neither (y == z) (is_in y ts) h in
    by (z == x) parts.0 (still_out x y ts parts.1) where
      by : (b : Bool) → (y == z) ≡ false
          → is_in y (without x ts) ≡ false
          → is_in y (cond b (without x ts) (z ∷ without x ts)) ≡ false
      by true ne next = next
      by false ne next = ap (λ b. or b (is_in y (without x ts))) ne ∙ next

pub out : (x : ℕ) (ts : List ℕ) → is_in x (without x ts) ≡ false
out x [] = refl
out x (z ∷ ts) = by (z == x) refl (out x ts) where
  by : (b : Bool) → (z == x) ≡ b
      → is_in x (without x ts) ≡ false
      → is_in x (cond b (without x ts) (z ∷ without x ts)) ≡ false
  by true e next = next
  by false e next = let other : (x == z) ≡ false = grind (arith, nat_tests, e) in
      ap (λ b. or b (is_in x (without x ts))) other ∙ next

pub once_without : (x : ℕ) (ts : List ℕ) → AreOnce ts → AreOnce (without x ts)
once_without x [] h = tt
once_without x (z ∷ ts) h = by (z == x) (once_without x ts h.1) where
  by : (b : Bool) → AreOnce (without x ts) → AreOnce (cond b (without x ts) (z ∷ without x ts))
  by true next = next
  by false next = (still_out x z ts h.0, next)

pub once : (xs : List Arm) → AreOnce (targets xs)
once [] = tt
once (x ∷ xs) = (out x.to (targets xs), once_without x.to (targets xs) (once xs))

pub values_none : (t : ℕ) (xs : List Arm) → is_in t (targets xs) ≡ false → values_to t xs ≡ []
values_none t [] h = refl
values_none t (x ∷ xs) h =
    let parts = neither (t == x.to) (is_in t (without x.to (targets xs))) h in
    let other : (x.to == t) ≡ false = grind (arith, nat_tests, parts.0) in
    ap (λ b. cond b (x.value ∷ values_to t xs) (values_to t xs)) other
    ∙ values_none t xs (sym (in_without x.to t (targets xs) parts.0) ∙ parts.1)
