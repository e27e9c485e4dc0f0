-- What pairs of digits write.
use Rattle.std.proofs.Common.{◌≡◌, ◌<◌, ◌+◌, ◌*◌, ℕ, Bool, true, false, List, [], ◌∷◌, length, Option, Some, None, refl, arith}
use Rattle.std.specs.Prelude.{◌&&◌, IfSome, if◌then◌else◌}
use Rattle.std.specs.Char.{digit_value, is_digit}
use Rattle.std.specs.List.{AllByRecursion}
use Rattle.std.specs.Option.{option_map}
use Rattle.std.proofs.lemmas.Bool.{ltb-true}
use Rattle.listing_lines.specs.Text.{Line}
use Rattle.listing_lines.specs.Tokens.{bytes_of, pairs_of}

abbrev pub AreBytes : List ℕ → Type 0
AreBytes bytes = AllByRecursion (λ b. b < 256) bytes

digit_small : (b : ℕ) → is_digit b 16 ≡ true → digit_value b < 16
digit_small b h = ltb-true _ _ h

pairs_small : (part : Line) → IfSome (pairs_of part) AreBytes
pairs_small [] = tt
pairs_small (a ∷ []) = tt
pairs_small (a ∷ b ∷ part) = by_digits (is_digit a 16) (is_digit b 16) refl refl (pairs_of part) (pairs_small part)
  where
    by_more : digit_value a * 16 + digit_value b < 256
        → (more : Option (List ℕ))
        → IfSome more AreBytes
        → IfSome (option_map (λ (bytes : List ℕ). (digit_value a * 16 + digit_value b) ∷ bytes) more) AreBytes
    by_more small None h = tt
    by_more small (Some bytes) h = (small, h)

    by_digits : (t u : Bool) → is_digit a 16 ≡ t → is_digit b 16 ≡ u → (more : Option (List ℕ)) → IfSome more AreBytes
        → IfSome
        (if t && u then option_map (λ (bytes : List ℕ). (digit_value a * 16 + digit_value b) ∷ bytes) more else None)
        AreBytes
    by_digits true true p q more h = by_more (omega (arith, digit_small a p, digit_small b q)) more h
    by_digits true false p q more h = tt
    by_digits false u p q more h = tt

-- Pairs of digits write at least one byte, and bytes alone.
pub bytes_small : (part : Line) → IfSome (bytes_of part) (λ bytes. (0 < length bytes) × AreBytes bytes)
bytes_small [] = tt
bytes_small (a ∷ []) = tt
bytes_small (a ∷ b ∷ part) =
    both (pairs_of (a ∷ b ∷ part)) (pairs_small (a ∷ b ∷ part)) (some (is_digit a 16 && is_digit b 16))
  where
    grown : (more : Option (List ℕ))
        → IfSome (option_map (λ (bytes : List ℕ). (digit_value a * 16 + digit_value b) ∷ bytes) more) (λ bytes. 0 < length bytes)
    grown None = tt
    grown (Some bytes) = omega arith

    some : (t : Bool)
        → IfSome
        (if t then option_map (λ (bytes : List ℕ). (digit_value a * 16 + digit_value b) ∷ bytes) (pairs_of part)
        else None) (λ bytes. 0 < length bytes)
    some true = grown (pairs_of part)
    some false = tt

    both : (o : Option (List ℕ))
        → IfSome o AreBytes
        → IfSome o (λ bytes. 0 < length bytes)
        → IfSome o (λ bytes. (0 < length bytes) × AreBytes bytes)
    both None h g = tt
    both (Some bytes) h g = (g, h)
