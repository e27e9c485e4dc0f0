-- Digits, read from left to right.
use Rattle.std.proofs.Common.{◌≡◌, ◌<◌, ◌≤◌, ◌+◌, ◌^◌, ◌*◌, ℕ, Bool, true, List, [], ◌∷◌, ◌++◌, length, drop, ap, arith, refl, sym, ◌∙◌, get_or, drop-cons}
use Rattle.std.specs.Prelude.{Option, Some, None}
use Rattle.std.specs.Option.{option_map}
use Rattle.std.specs.Prelude.{if◌then◌else◌, ◌&&◌, nat_lt, suc}
use Rattle.std.specs.List.{list_all}
use Rattle.std.proofs.Common.{lit<, append_assoc, ap₂, length-drop}
use Rattle.std.proofs.lemmas.List.{nil_from_length}
use Rattle.std.proofs.Math.Nat.{mul-le-mul_left, pow-le-pow_right}
use Rattle.std.proofs.lemmas.Bool.Decides.{nat_tests}
use Rattle.listing_lines.specs.Tokens.{bytes_of, pairs_of}
use Rattle.std.specs.Char.{digit_value, is_digit}
use Rattle.std.specs.Str.Parse.{digits_value, digits_value_after}

-- the number n is what the first i digits write
pub record HasRead (radix n i : ℕ) (digits : List ℕ) : Type 0 where
  pub value : digits_value_after radix n (drop i digits) ≡ digits_value radix digits
  pub all : list_all (λ b. is_digit b radix) digits ≡ list_all (λ b. is_digit b radix) (drop i digits)
  pub small : n < 16 ^ i

-- bytes before those that are still to come
abbrev pub joined : List ℕ → Option (List ℕ) → Option (List ℕ)
joined bytes more = option_map (λ last. bytes ++ last) more

-- one digit more fits 64 bits, and stays as small
pub product_fits : (n radix i : ℕ) → radix ≤ 16 → i < 16 → n < 16 ^ i → n * radix < 2 ^ 64
product_fits n radix i base few small =
    let up : n * radix ≤ n * 16 = mul-le-mul_left n base in
    let power : 16 ^ i ≤ 16 ^ 15 = pow-le-pow_right (lit< tt) {j = 15} (omega arith) in
    omega (arith, up, power)

pub sum_fits : (n radix d i : ℕ) → radix ≤ 16 → d < radix → i < 16 → n < 16 ^ i → n * radix + d < 2 ^ 64
sum_fits n radix d i base digit few small =
    let up : n * radix ≤ n * 16 = mul-le-mul_left n base in
    let power : 16 ^ i ≤ 16 ^ 15 = pow-le-pow_right (lit< tt) {j = 15} (omega arith) in
    omega (arith, up, power)

pub five_digits : (n k : ℕ) → n < 16 ^ k → k ≤ 5 → n < 2 ^ 32
five_digits n k small few =
    let power : 16 ^ k ≤ 16 ^ 5 = pow-le-pow_right (lit< tt) few in
    omega (arith, power)

-- two digits more are one byte more
two_digits : (bytes more : List ℕ) (high low : ℕ) (one two : Bool) → one ≡ true → two ≡ true → (part : Option (List ℕ))
    → part ≡ joined bytes (if one && two then option_map (λ last. (high * 16 + low) ∷ last) (pairs_of more) else None)
    → part ≡ joined (bytes ++ (high * 16 + low) ∷ []) (pairs_of more)
two_digits bytes more high low one two first second part is =
    rw (first, second) at is ∙ moved (pairs_of more)
  where
    moved : (last : Option (List ℕ)) → joined bytes (option_map (λ after. (high * 16 + low) ∷ after) last) ≡ joined (bytes ++ (high * 16 + low) ∷ []) last
    moved None = refl
    moved (Some after) = ap Some (sym (append_assoc bytes ((high * 16 + low) ∷ []) after))

two_more : (part : List ℕ) (i : ℕ) → i + 1 < length part → drop i part ≡ get_or part i 0 ∷ get_or part (i + 1) 0 ∷ drop (i + 2) part
two_more part i within =
    let here : i < length part = omega arith in
    let next : suc i < length part = omega arith in
    let one : suc i ≡ i + 1 = omega arith in
    let two : suc (suc i) ≡ i + 2 = omega arith in
    drop-cons part i 0 here ∙ ap (λ (rest : List ℕ). get_or part i 0 ∷ rest) (drop-cons part (suc i) 0 next
    ∙ ap₂ (λ (k m : ℕ). get_or part k 0 ∷ drop m part) one two)

is_a_digit : (d : ℕ) → (16 ≤ d → ⊥) → nat_lt d 16 ≡ true
is_a_digit d below = grind (arith, nat_tests)

pub pair_more : (part bytes : List ℕ) (i high low : ℕ) → i + 1 < length part → high ≡ digit_value (get_or part i 0) → low ≡ digit_value (get_or part (i + 1) 0)
    → (16 ≤ high → ⊥) → (16 ≤ low → ⊥) → bytes_of part ≡ joined bytes (pairs_of (drop i part)) → bytes_of part ≡ joined (bytes ++ (high * 16 + low) ∷ []) (pairs_of (drop (i + 2) part))
pair_more part bytes i high low within first second small small2 is =
    let front : drop i part ≡ get_or part i 0 ∷ get_or part (i + 1) 0 ∷ drop (i + 2) part = two_more part i within in
    let high_is : is_digit (get_or part i 0) 16 ≡ true = rw (← first) (is_a_digit high small) in
    let low_is : is_digit (get_or part (i + 1) 0) 16 ≡ true = rw (← second) (is_a_digit low small2) in
    let whole : bytes_of part ≡ joined bytes (pairs_of (get_or part i 0 ∷ get_or part (i + 1) 0 ∷ drop (i + 2) part)) = is ∙ ap (λ (rest : List ℕ). joined bytes (pairs_of rest)) front in
    rw (first, second) (two_digits bytes (drop (i + 2) part) (digit_value (get_or part i 0)) (digit_value (get_or part (i + 1) 0)) _ _ high_is low_is _ whole)

none : (part : List ℕ) (i : ℕ) → (i ≡ length part → ⊥) → (i + 1 < length part → ⊥) → i ≤ length part → length (drop (suc i) part) ≡ 0
none part i inner done within = omega (arith, length-drop (suc i) part)

pub odd_end : (part bytes : List ℕ) (i : ℕ) → (i + 1 < length part → ⊥) → (i ≡ length part → ⊥) → i ≤ length part
    → bytes_of part ≡ joined bytes (pairs_of (drop i part)) → bytes_of part ≡ None
odd_end part bytes i done inner within is =
    let here : i < length part = omega arith in
    let last : drop (suc i) part ≡ [] = nil_from_length _ (none part i inner done within) in
    is ∙ ap (λ (rest : List ℕ). joined bytes (pairs_of rest)) (drop-cons part i 0 here ∙ ap (λ (rest : List ℕ). get_or part i 0 ∷ rest) last)
