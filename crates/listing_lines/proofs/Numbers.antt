-- How large the numbers are that so many digits write.
use Rattle.std.proofs.Common.{◌≡◌, ◌<◌, ◌≤◌, ◌^◌, ℕ, Bool, true, false, [], ◌∷◌, length, refl, arith}
use Rattle.std.proofs.Math.Nat.{pow-le-pow_right}
use Rattle.std.specs.Prelude.{◌==◌, ◌&&◌, nat_le, Some, None, IfSome, if◌then◌else◌}
use Rattle.std.specs.Char.{is_digit}
use Rattle.std.specs.List.{list_all}
use Rattle.std.specs.Str.Parse.{AllDigits, digits_value}
use Rattle.std.proofs.lemmas.Bool.{and_parts, leb-true, ltb-true}
use Rattle.std.proofs.lemmas.Int.Digits.{digits_value-lt}
use Rattle.listing_lines.specs.Text.{Line}
use Rattle.listing_lines.specs.Tokens.{decimal_of, has_leading_zero, hexadecimal_of, number_of}

digits_all : (radix : ℕ) (ds : Line) → list_all (λ b. is_digit b radix) ds ≡ true → AllDigits radix ds
digits_all radix [] h = tt
digits_all radix (d ∷ ds) h =
    let both = and_parts (is_digit d radix) (list_all (λ b. is_digit b radix) ds) h in
    (ltb-true _ _ both.0, digits_all radix ds both.1)

number_small : (radix most : ℕ) (ds : Line) → 1 ≤ radix → IfSome (number_of radix most ds) (λ n. n < radix ^ most)
number_small radix most ds one = by_test _ refl
  where
    are : Bool
    are = list_all (λ b. is_digit b radix) ds

    by_test : (t : Bool)
        → (nat_le 1 (length ds) && (nat_le (length ds) most && are)) ≡ t
        → IfSome (if t then Some (digits_value radix ds) else None) (λ n. n < radix ^ most)
    by_test false e = tt
    by_test true e =
        let rest = and_parts (nat_le (length ds) most) are (and_parts (nat_le 1 (length ds)) _ e).1 in
        let few : length ds ≤ most = leb-true _ _ rest.0 in
        let lower : digits_value radix ds < radix ^ length ds = digits_value-lt radix ds (digits_all radix ds rest.1) in
        let power : radix ^ length ds ≤ radix ^ most = pow-le-pow_right one few in
        omega (arith, lower, power)

-- A hexadecimal number has at most 16 digits.
pub hexadecimal_small : (part : Line) → IfSome (hexadecimal_of part) (λ n. n < 16 ^ 16)
hexadecimal_small [] = tt
hexadecimal_small (a ∷ []) = tt
hexadecimal_small (a ∷ b ∷ ds) = by_test (a == 48 && b == 120)
  where
    by_test : (t : Bool) → IfSome (if t then number_of 16 16 ds else None) (λ n. n < 16 ^ 16)
    by_test true = number_small 16 16 ds (omega arith)
    by_test false = tt

-- A decimal number has at most five digits.
pub decimal_small : (part : Line) → IfSome (decimal_of part) (λ n. n < 10 ^ 5)
decimal_small part = by_zero (has_leading_zero part)
  where
    by_zero : (t : Bool) → IfSome (if t then None else number_of 10 5 part) (λ n. n < 10 ^ 5)
    by_zero true = tt
    by_zero false = number_small 10 5 part (omega arith)
