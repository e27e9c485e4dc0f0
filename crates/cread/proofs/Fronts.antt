-- Words, numbers and names at the front: how the loops read them, and that they are read again.
use Rattle.std.proofs.Common.{◌≡◌, ℕ, suc, ◌+◌, ◌-◌, ◌*◌, ◌%◌, ◌^◌, ◌<◌, ◌≤◌, Bool, true, false, eqb, List, [], ◌∷◌, ◌++◌, length, Option, Some, None, refl, sym, ap, ◌∙◌, arith, lit<, lit≤, ◌≢◌, get_or, take, drop, inl, inr, length-drop}
use Rattle.std.proofs.lemmas.List.{take_all, get_or-drop, drop-drop, nil_from_length}
use Rattle.std.proofs.Math.Nat.{mul-le-mul_left}
use Rattle.std.specs.Prelude.{MatchOption}
use Rattle.std.specs.Option.{option_map}
use Rattle.std.specs.Borrow.{Bor}
use Rattle.std.specs.Char.{digit_value, is_digit}
use Rattle.std.specs.Fmt.{decimal, digits}
use Rattle.std.specs.Str.Parse.{digits_value_after, AllDigits}
use Rattle.std.proofs.lemmas.Bool.{lt-ltb, le-ltb, eqb-true, cases_Bool, and_parts}
use Rattle.std.proofs.lemmas.Fmt.{digits_is_IsNumeral, decimal_is_IsNumeral}
use Rattle.std.specs.List.{list_all}
use Rattle.listing_lines.specs.Tokens.{is_name_byte}
use Rattle.ctext.specs.Names.{hex}
use Rattle.cread.specs.Words.{after, run_of, past_spaces, name_at, number_from, decimal_at, hex_at}

abbrev pub AllSpaces : List ℕ → Type 0
AllSpaces [] = Unit {0}
AllSpaces (b ∷ bs) = (b ≡ 32) × AllSpaces bs

-- ---- words

pub after_front : (ws rest : List ℕ) → after ws (ws ++ rest) ≡ Some rest
unfolding after
after_front [] rest = refl
after_front (w ∷ ws) rest = let same : eqb w w ≡ true = grind arith in rw same (after_front ws rest)

after_none : (ws bs : List ℕ) → ((rest : List ℕ) → bs ≢ ws ++ rest) → after ws bs ≡ None
unfolding after
after_none [] bs h = absurd (h bs refl)
after_none (w ∷ ws) [] h = refl
after_none (w ∷ ws) (b ∷ bs) h =
    elim (cases_Bool (eqb w b)) [
      | inl same_byte ↦ rw same_byte (after_none ws bs
          (λ rest e. h rest (let same : w ≡ b = eqb-true _ _ same_byte in rw (same, e) refl)))
      | inr other ↦ rw other refl
    ]

pub skip_is : (ws bs : List ℕ) (r : Option (Bor (List ℕ)))
    → MatchOption r ((rest : List ℕ) → bs ≢ ws ++ rest) (λ x. bs ≡ ws ++ x.now)
    → option_map (λ x. x.now) r ≡ after ws bs
skip_is ws bs None h = sym (after_none ws bs h)
skip_is ws bs (Some x) h = sym (rw h (after_front ws x.now))

-- ---- runs of bytes of a kind

run_step : (p : ℕ → Bool) (bs : List ℕ)
    → p (get_or bs 0 0) ≡ true
    → 0 < length bs
    → run_of p bs ≡ suc (run_of p (drop 1 bs))
unfolding run_of
run_step p [] h pos = absurd (omega arith)
run_step p (b ∷ bs) h pos = rw h refl

run_stop : (p : ℕ → Bool) (bs : List ℕ) → p (get_or bs 0 0) ≡ false → run_of p bs ≡ 0
unfolding run_of
run_stop p [] h = refl
run_stop p (b ∷ bs) h = rw h refl

first_of : (i : ℕ) (bs : List ℕ) → get_or (drop i bs) 0 0 ≡ get_or bs i 0
first_of i bs = rw get_or-drop (ap (λ (k : ℕ). get_or bs k 0) (omega arith))

pub run_more : (p : ℕ → Bool) (n : ℕ) (bs : List ℕ) (total : ℕ)
    → n < length bs
    → p (get_or bs n 0) ≡ true
    → n + run_of p (drop n bs) ≡ total
    → n + 1 + run_of p (drop (n + 1) bs) ≡ total
run_more p n bs total lt h so_far =
    let here = ap p (first_of n bs) ∙ h in
    let one = run_step p (drop n bs) here (omega (arith, length-drop n bs)) in
    let rest : drop 1 (drop n bs) ≡ drop (n + 1) bs = drop-drop 1 n bs ∙ ap (λ (k : ℕ). drop k bs) (omega arith) in
    let next : run_of p (drop n bs) ≡ suc (run_of p (drop (n + 1) bs)) =
    one ∙ ap (λ (r : List ℕ). suc (run_of p r)) rest in
    omega arith

pub run_done : (p : ℕ → Bool) (n : ℕ) (bs : List ℕ) (total : ℕ)
    → p (get_or bs n 0) ≡ false
    → n + run_of p (drop n bs) ≡ total
    → n ≡ total
run_done p n bs total h so_far =
    let none = run_stop p (drop n bs) (ap p (first_of n bs) ∙ h) in
    omega arith

pub run_end : (p : ℕ → Bool) (n : ℕ) (bs : List ℕ) (total : ℕ)
    → length bs ≤ n
    → n + run_of p (drop n bs) ≡ total
    → n ≡ total
unfolding run_of
run_end p n bs total le so_far =
    let none : drop n bs ≡ [] = nil_from_length (drop n bs) (omega (arith, length-drop n bs)) in
    let zero_left : run_of p (drop n bs) ≡ 0 = rw none refl in
    omega arith

-- ---- numbers

-- reading more digits never lowers the number
after_ge : (radix n : ℕ) (ds : List ℕ) → 0 < radix → n ≤ digits_value_after radix n ds
after_ge radix n [] pos = omega arith
after_ge radix n (c ∷ cs) pos =
    let more = after_ge radix (n * radix + digit_value c) cs pos in
    let one : 1 ≤ radix = pos in
    let up : n ≤ n * radix = omega (arith, mul-le-mul_left n one) in
    omega (arith, more, up)

number_again : (radix n : ℕ) (ds : List ℕ) (c : ℕ) (rest : List ℕ)
    → 0 < radix
    → AllDigits radix ds
    → is_digit c radix ≡ false
    → digits_value_after radix n ds < 2 ^ 128
    → number_from radix n (ds ++ c ∷ rest) ≡ (digits_value_after radix n ds, c ∷ rest)
unfolding number_from
number_again radix n [] c rest pos all stop small = rw stop refl
number_again radix n (d ∷ ds) c rest pos all stop small =
    let here : is_digit d radix ≡ true = lt-ltb _ _ all.0 in
    let ge = after_ge radix (n * radix + digit_value d) ds pos in
    let same : (n * radix + digit_value d) % 2 ^ 128 ≡ n * radix + digit_value d = omega (arith, ge, small) in
    rw (here, same) (number_again radix (n * radix + digit_value d) ds c rest pos all.1 stop small)

pub hex_again : (n c : ℕ) (rest : List ℕ)
    → n < 2 ^ 128
    → is_digit c 16 ≡ false
    → hex_at (hex n ++ c ∷ rest) ≡ (n, c ∷ rest)
unfolding hex_at
hex_again n c rest small stop =
    let is = digits_is_IsNumeral 16 false (lit≤ tt) (lit≤ tt) n (omega arith) in
    number_again 16 0 (digits 16 false n) c rest (lit< tt) is.0.1 stop (rw is.1 small)
    ∙ ap (λ (m : ℕ). (m, c ∷ rest)) is.1

pub decimal_again : (n c : ℕ) (rest : List ℕ)
    → n < 2 ^ 64
    → is_digit c 10 ≡ false
    → decimal_at (decimal n ++ c ∷ rest) ≡ (n, c ∷ rest)
unfolding decimal_at
decimal_again n c rest small stop =
    let is = decimal_is_IsNumeral n small in
    number_again 10 0 (decimal n) c rest (lit< tt) is.0.1 stop (rw is.1 (omega arith))
    ∙ ap (λ (m : ℕ). (m, c ∷ rest)) is.1

not_among : (x : ℕ) (ds : List ℕ) (c : ℕ) (rest : List ℕ)
    → is_digit x 16 ≡ false
    → AllDigits 16 ds
    → eqb x c ≡ false
    → after (x ∷ []) (ds ++ c ∷ rest) ≡ None
unfolding after
not_among x [] c rest gap all other = rw other refl
not_among x (d ∷ ds) c rest gap all other =
    let yes : is_digit d 16 ≡ true = lt-ltb _ _ all.0 in
    elim (cases_Bool (eqb x d)) [
      | inl same_byte ↦ absurd (let same : x ≡ d = eqb-true _ _ same_byte in
          let never : true ≡ false = sym yes ∙ ap (λ (b : ℕ). is_digit b 16) (sym same) ∙ gap in cc)
      | inr differs ↦ rw differs refl
    ]

-- no hexadecimal number begins with another letter
pub hex_begins : (x n c : ℕ) (rest : List ℕ)
    → n < 2 ^ 128
    → is_digit x 16 ≡ false
    → eqb x c ≡ false
    → after (x ∷ []) (hex n ++ c ∷ rest) ≡ None
hex_begins x n c rest small gap other =
    let is = digits_is_IsNumeral 16 false (lit≤ tt) (lit≤ tt) n (omega arith) in
    not_among x (digits 16 false n) c rest gap is.0.1 other

-- what the loop over digits does

number_stop : (radix n : ℕ) (bs : List ℕ) → is_digit (get_or bs 0 0) radix ≡ false → number_from radix n bs ≡ (n, bs)
unfolding number_from
number_stop radix n [] h = refl
number_stop radix n (b ∷ bs) h = rw h refl

number_step : (radix n : ℕ) (bs : List ℕ)
    → is_digit (get_or bs 0 0) radix ≡ true
    → 0 < length bs
    → number_from radix n bs ≡ number_from radix ((n * radix + digit_value (get_or bs 0 0)) % 2 ^ 128) (drop 1 bs)
unfolding number_from
number_step radix n [] h pos = absurd (omega arith)
number_step radix n (b ∷ bs) h pos = rw h refl

mod_in : (a b : ℕ) → (a % 2 ^ 128 + b) % 2 ^ 128 ≡ (a + b) % 2 ^ 128
mod_in a b = omega arith

rest_is : (i : ℕ) (bs : List ℕ) → take (length bs - i) (drop i bs) ≡ drop i bs
rest_is i bs = take_all (length bs - i) (drop i bs) (omega (arith, length-drop i bs))

pub number_more : (radix n i d r f : ℕ) (bs : List ℕ) (total : ℕ × List ℕ)
    → i < length bs
    → d ≡ digit_value (get_or bs i 0)
    → d < radix
    → r ≡ radix
    → f ≡ d
    → number_from radix n (drop i bs) ≡ total
    → number_from radix ((n * r % 2 ^ 128 + f) % 2 ^ 128) (drop (i + 1) bs) ≡ total
number_more radix n i d r f bs total lt is_d below is_r is_f so_far =
    let first = first_of i bs in
    let test : is_digit (get_or (drop i bs) 0 0) radix ≡ true = rw (first, ← is_d) (lt-ltb _ _ below) in
    let step = number_step radix n (drop i bs) test (omega (arith, length-drop i bs)) in
    let rest : drop 1 (drop i bs) ≡ drop (i + 1) bs = drop-drop 1 i bs ∙ ap (λ (k : ℕ). drop k bs) (omega arith) in
    let value : (n * r % 2 ^ 128 + f) % 2 ^ 128 ≡ (n * radix + digit_value (get_or (drop i bs) 0 0)) % 2 ^ 128 =
    mod_in (n * r) f ∙ ap (λ (k : ℕ). k % 2 ^ 128) (rw (is_r, is_f, is_d, first) refl) in
    rw (value, ← rest) (sym step ∙ so_far)

pub number_done : (radix n i d : ℕ) (bs : List ℕ) (total : ℕ × List ℕ)
    → d ≡ digit_value (get_or bs i 0)
    → radix ≤ d
    → number_from radix n (drop i bs) ≡ total
    → ◌≡◌ {A = ℕ × List ℕ} (n, take (length bs - i) (drop i bs)) total
number_done radix n i d bs total is_d above so_far =
    let first = first_of i bs in
    let test : is_digit (get_or (drop i bs) 0 0) radix ≡ false = rw (first, ← is_d) (le-ltb _ _ above) in
    rw (rest_is i bs) (sym (number_stop radix n (drop i bs) test) ∙ so_far)

pub number_end : (radix n i : ℕ) (bs : List ℕ) (total : ℕ × List ℕ)
    → length bs ≤ i
    → number_from radix n (drop i bs) ≡ total
    → ◌≡◌ {A = ℕ × List ℕ} (n, take (length bs - i) (drop i bs)) total
unfolding number_from
number_end radix n i bs total le so_far =
    let none : drop i bs ≡ [] = nil_from_length (drop i bs) (omega (arith, length-drop i bs)) in
    rw (rest_is i bs) (ap (λ (k : List ℕ). (n, k)) none ∙ ap (number_from radix n) (sym none) ∙ so_far)

-- ---- names and spaces

run_again : (p : ℕ → Bool) (c : ℕ) (rest : List ℕ) → p c ≡ false → run_of p (c ∷ rest) ≡ 0
unfolding run_of
run_again p c rest stop = rw stop refl

-- a name before another byte
pub name_again : (name : List ℕ) (c : ℕ) (rest : List ℕ)
    → list_all is_name_byte name ≡ true
    → is_name_byte c ≡ false
    → name_at (name ++ c ∷ rest) ≡ (name, c ∷ rest)
unfolding name_at run_of
name_again [] c rest all stop = rw stop refl
name_again (b ∷ bs) c rest all stop =
    let both = and_parts (is_name_byte b) (list_all is_name_byte bs) all in
    let more = name_again bs c rest both.1 stop in
    let here = both.0 in
    let front : take (run_of is_name_byte (bs ++ c ∷ rest)) (bs ++ c ∷ rest) ≡ bs =
    ap (λ (x : List ℕ × List ℕ). x.0) more in
    let behind : drop (run_of is_name_byte (bs ++ c ∷ rest)) (bs ++ c ∷ rest) ≡ c ∷ rest =
    ap (λ (x : List ℕ × List ℕ). x.1) more in
    rw here (rw (front, behind) refl)

pub no_spaces : (b : ℕ) (bs : List ℕ) → eqb b 32 ≡ false → past_spaces (b ∷ bs) ≡ b ∷ bs
unfolding past_spaces run_of
no_spaces b bs other = rw other refl

pub spaces_again : (d rest : List ℕ) → AllSpaces d → past_spaces (d ++ rest) ≡ past_spaces rest
unfolding past_spaces run_of
spaces_again [] rest all = refl
spaces_again (b ∷ d) rest all =
    let one = all.0 in
    let here : eqb b 32 ≡ true = grind (arith, one) in
    rw here (spaces_again d rest all.1)
