-- Numbers and bytes are read back from their canonical text.
use Rattle.std.proofs.Common.{◌≡◌, ◌∙◌, ◌<◌, ◌≤◌, ◌+◌, ◌*◌, ◌/◌, ◌%◌, ◌^◌, ℕ, zero, suc, Bool, true, false, List, [], ◌∷◌, length, get_or, ap, sym, refl, arith}
use Rattle.std.specs.Prelude.{◌==◌, decimal, Some, None, if◌then◌else◌}
use Rattle.std.specs.Fmt.{digit_glyph, digits, digits_onto}
use Rattle.std.specs.List.{list_all}
use Rattle.std.specs.Option.{option_map}
use Rattle.std.specs.Char.{digit_value, is_digit}
use Rattle.std.specs.Str.Parse.{AllDigits, digits_value}
use Rattle.std.proofs.lemmas.Fmt.{decimal_digit, decimal_is_IsNumeral, digits_is_IsNumeral, first_decimal, hex_one_digit, length-decimal-le}
use Rattle.std.proofs.lemmas.Bool.Decides.{nat_tests}
use Rattle.std.proofs.lemmas.Bool.{and_from, le-leb, lt-ltb}
use Rattle.listing_lines.proofs.Bytes.{AreBytes}
use Rattle.listing_lines.specs.Text.{Line}
use Rattle.listing_lines.specs.Tokens.{bytes_of, decimal_of, has_leading_zero, hexadecimal_of, number_of, pairs_of}
use Rattle.listing_print.specs.Printed.{hexadecimal, pairs}
use Rattle.listing_again.proofs.Cuts.{IsPart, IsToken}

-- ---- digits

-- no digit stands below `0`, nor is the colon one
digit_token : (b : ℕ) → digit_value b < 16 → (32 < b) × ((b == 58) ≡ false)
digit_token b h = (above, other)
  where
    low : b < 48 → digit_value b ≡ 36
    low p = grind (arith, nat_tests)

    colon : b ≡ 58 → digit_value b ≡ 36
    colon p = ap digit_value p

    above : 32 < b
    above = grind (arith, low)

    other : (b == 58) ≡ false
    other = grind (arith, nat_tests, colon)

pub digits_token : (ds : Line) → AllDigits 16 ds → IsToken ds
digits_token [] h = tt
digits_token (d ∷ ds) h = (digit_token d h.0, digits_token ds h.1)

wider : (ds : Line) → AllDigits 10 ds → AllDigits 16 ds
wider [] h = tt
wider (d ∷ ds) h = (omega (arith, h.0), wider ds h.1)

all_digits : (radix : ℕ) (ds : Line) → AllDigits radix ds → list_all (λ b. is_digit b radix) ds ≡ true
all_digits radix [] h = refl
all_digits radix (d ∷ ds) h = and_from _ _ (lt-ltb _ _ h.0) (all_digits radix ds h.1)

number_is : (radix most : ℕ) (ds : Line)
    → 0 < length ds
    → length ds ≤ most
    → AllDigits radix ds
    → number_of radix most ds ≡ Some (digits_value radix ds)
number_is radix most ds some few all =
    let test =
    and_from _ _ (le-leb 1 (length ds) some)
    (and_from _ _ (le-leb (length ds) most few) (all_digits radix ds all)) in
    ap (λ (t : Bool). if t then Some (digits_value radix ds) else None) test

-- ---- hexadecimal numbers

power_step : (m : ℕ) → 16 ^ suc m ≡ 16 * 16 ^ m
power_step m = grind arith

length_onto : (k m n : ℕ) (acc : Line) → 0 < m → n < 16 ^ m → length (digits_onto k 16 false n acc) ≤ m + length acc
length_onto zero m n acc some small = omega arith
length_onto (suc k) zero n acc some small = absurd (omega arith)
length_onto (suc k) (suc m) n acc some small =
    by_end (length_onto k m (n / 16) (digit_glyph false (n % 16) ∷ acc)) (n / 16 == 0) refl
  where
    first : Line
    first = digit_glyph false (n % 16) ∷ acc

    zero_not : (n / 16 == 0) ≡ false → n / 16 ≡ 0 → ⊥
    zero_not e z = grind (arith, nat_tests)

    none_left : m ≡ 0 → n < 16
    none_left z = let e : 16 ^ suc m ≡ 16 = ap (λ k. 16 ^ suc k) z in omega (arith, e, small)

    some_left : (n / 16 ≡ 0 → ⊥) → 0 < m
    some_left other = grind (arith, none_left)

    by_end : (0 < m → n / 16 < 16 ^ m → length (digits_onto k 16 false (n / 16) first) ≤ m + length first)
        → (t : Bool)
        → (n / 16 == 0) ≡ t
        → length (if t then first else digits_onto k 16 false (n / 16) first) ≤ suc m + length acc
    by_end next true e = omega arith
    by_end next false e =
        let more : n / 16 < 16 ^ m = omega (arith, power_step m, small) in
        let h = next (some_left (zero_not e)) more in
        omega (arith, h)

length_hexadecimal : (n : ℕ) → n < 16 ^ 16 → length (digits 16 false n) ≤ 16
unfolding digits
length_hexadecimal n small = length_onto 64 16 n [] (omega arith) small

wide : (n : ℕ) → n < 16 ^ 16 → n < 16 ^ 64
wide n small = omega arith

pub digits_are : (n : ℕ) → n < 16 ^ 16 → AllDigits 16 (digits 16 false n)
digits_are n small = (digits_is_IsNumeral 16 false (omega arith) (omega arith) n (wide n small)).0.1

pub hexadecimal_back : (n : ℕ) → n < 16 ^ 16 → hexadecimal_of (hexadecimal n) ≡ Some n
hexadecimal_back n small =
    let numeral = digits_is_IsNumeral 16 false (omega arith) (omega arith) n (wide n small) in
    number_is 16 16 (digits 16 false n) numeral.0.0 (length_hexadecimal n small) numeral.0.1 ∙ ap Some numeral.1

pub hexadecimal_token : (n : ℕ) → n < 16 ^ 16 → IsToken (hexadecimal n)
hexadecimal_token n small = ((omega arith, refl), ((omega arith, refl), digits_token _ (digits_are n small)))

-- ---- decimal numbers

no_zero : (ds : Line) → 48 < get_or ds 0 0 → has_leading_zero ds ≡ false
no_zero [] h = refl
no_zero (a ∷ []) h = refl
no_zero (a ∷ b ∷ ds) h = other a h
  where
    other : (x : ℕ) → 48 < x → (x == 48) ≡ false
    other x p = grind (arith, nat_tests)

no_leading : (n : ℕ) → n < 10 ^ 5 → has_leading_zero (decimal n) ≡ false
no_leading zero small = ap has_leading_zero (decimal_digit 0 (omega arith))
no_leading (suc n) small = no_zero (decimal (suc n)) (first_decimal (suc n) (omega arith) (omega arith))

pub decimal_back : (n : ℕ) → n < 10 ^ 5 → decimal_of (decimal n) ≡ Some n
decimal_back n small =
    let numeral = decimal_is_IsNumeral n (omega arith) in
    ap (λ (t : Bool). if t then None else number_of 10 5 (decimal n)) (no_leading n small)
    ∙ number_is 10 5 (decimal n) numeral.0.0 (length-decimal-le 5 n (omega arith) small (omega arith)) numeral.0.1
    ∙ ap Some numeral.1

pub decimal_token : (n : ℕ) → n < 10 ^ 5 → IsToken (decimal n)
decimal_token n small = digits_token _ (wider _ (decimal_is_IsNumeral n (omega arith)).0.1)

-- ---- bytes

glyph_value : (d : ℕ) → d < 16 → digit_value (digit_glyph false d) ≡ d
glyph_value d small =
    let numeral = digits_is_IsNumeral 16 false (omega arith) (omega arith) d (omega arith) in
    let value : digits_value 16 (digit_glyph false d ∷ []) ≡ d =
    ap (digits_value 16) (sym (hex_one_digit false d small)) ∙ numeral.1 in
    omega (arith, value)

glyph_digit : (d : ℕ) → d < 16 → is_digit (digit_glyph false d) 16 ≡ true
glyph_digit d small = lt-ltb _ _ (omega (arith, glyph_value d small))

pairs_back : (bytes : List ℕ) → AreBytes bytes → pairs_of (pairs bytes) ≡ Some bytes
pairs_back [] h = refl
pairs_back (b ∷ bytes) h =
    let high : b / 16 < 16 = omega (arith, h.0) in
    let low : b % 16 < 16 = omega arith in
    let test = and_from _ _ (glyph_digit (b / 16) high) (glyph_digit (b % 16) low) in
    let byte : digit_value (digit_glyph false (b / 16)) * 16 + digit_value (digit_glyph false (b % 16)) ≡ b =
    omega (arith, glyph_value (b / 16) high, glyph_value (b % 16) low) in
    let value : ℕ = digit_value (digit_glyph false (b / 16)) * 16 + digit_value (digit_glyph false (b % 16)) in
    ap (λ (t : Bool). if t then option_map (λ (more : List ℕ). value ∷ more) (pairs_of (pairs bytes)) else None) test
    ∙ ap (option_map (λ (more : List ℕ). value ∷ more)) (pairs_back bytes h.1) ∙ ap (λ (v : ℕ). Some (v ∷ bytes)) byte

pub bytes_back : (bytes : List ℕ) → 0 < length bytes → AreBytes bytes → bytes_of (pairs bytes) ≡ Some bytes
bytes_back [] some h = absurd (omega arith)
bytes_back (b ∷ bytes) some h = pairs_back (b ∷ bytes) h

glyph_part : (d : ℕ) → d < 16 → 32 < digit_glyph false d
glyph_part d small = (digit_token _ (omega (arith, glyph_value d small))).0

pub pairs_part : (bytes : List ℕ) → AreBytes bytes → IsPart (pairs bytes)
pairs_part [] h = tt
pairs_part (b ∷ bytes) h =
    (glyph_part (b / 16) (omega (arith, h.0)), (glyph_part (b % 16) (omega arith), pairs_part bytes h.1))
