-- Case values of one arm after another.
use Rattle.std.proofs.Common.{◌≡◌, ℕ, suc, ◌*◌, ◌^◌, ◌%◌, ◌<◌, ◌≤◌, ◌==◌, ◌&&◌, nat_lt, not, Bool, true, false, List, [], ◌∷◌, ◌++◌, refl, sym, ap, ◌∙◌, arith}
use Rattle.std.proofs.Math.Nat.{pow-suc, mod-eq_of_lt}
use Rattle.std.proofs.Math.Pow.{pow_mono}
use Rattle.std.proofs.lemmas.Nat.{pow_pos}
use Rattle.bits_core.specs.Value.{limit}
use Rattle.bits_core.proofs.Limits.{limit_is}
use Rattle.pcode_model.specs.Spaces.{or}
use Rattle.cmeaning.specs.declared.tree.Arm.{Arm}
use Rattle.cmeaning.specs.Valid.{is_in, are_distinct, are_words, cases_of}
use Rattle.cmeaning.specs.Arms.{is_case, differ_from, arms_differ, arms_fit}

or_or : (a b c : Bool) → or a (or b c) ≡ or (or a b) c
or_or true b c = refl
or_or false b c = refl

pub and_and : (a b c : Bool) → a && (b && c) ≡ (a && b) && c
and_and true b c = refl
and_and false b c = refl

pub is_in_append : (x : ℕ) (xs ys : List ℕ) → is_in x (xs ++ ys) ≡ or (is_in x xs) (is_in x ys)
is_in_append x [] ys = refl
is_in_append x (y ∷ xs) ys = ap (or (x == y)) (is_in_append x xs ys) ∙ or_or (x == y) (is_in x xs) (is_in x ys)

is_in_cases : (x : ℕ) (arms : List Arm) → is_in x (cases_of arms) ≡ is_case x arms
is_in_cases x [] = refl
is_in_cases x (a ∷ rest) = is_in_append x a.cases (cases_of rest) ∙ ap (or (is_in x a.cases)) (is_in_cases x rest)

distinct_append : (xs : List ℕ) (arms : List Arm)
    → are_distinct (xs ++ cases_of arms) ≡ differ_from xs arms && are_distinct (cases_of arms)
distinct_append [] arms = refl
distinct_append (x ∷ xs) arms =
    ap (λ b. not b && are_distinct (xs ++ cases_of arms))
    (is_in_append x xs (cases_of arms) ∙ ap (or (is_in x xs)) (is_in_cases x arms))
    ∙ ap (λ b. not (or (is_in x xs) (is_case x arms)) && b) (distinct_append xs arms)
    ∙ and_and (not (or (is_in x xs) (is_case x arms))) (differ_from xs arms) (are_distinct (cases_of arms))

pub distinct_by_arms : (arms : List Arm) → are_distinct (cases_of arms) ≡ arms_differ arms
distinct_by_arms [] = refl
distinct_by_arms (a ∷ rest) = distinct_append a.cases rest
    ∙ ap (λ b. differ_from a.cases rest && b) (distinct_by_arms rest)

words_append : (w : ℕ) (xs ys : List ℕ) → are_words w (xs ++ ys) ≡ are_words w xs && are_words w ys
words_append w [] ys = refl
words_append w (x ∷ xs) ys = ap (λ b. nat_lt x (limit w) && b) (words_append w xs ys)
    ∙ and_and (nat_lt x (limit w)) (are_words w xs) (are_words w ys)

pub words_by_arms : (w : ℕ) (arms : List Arm) → are_words w (cases_of arms) ≡ arms_fit w arms
words_by_arms w [] = refl
words_by_arms w (a ∷ rest) = words_append w a.cases (cases_of rest)
    ∙ ap (λ b. are_words w a.cases && b) (words_by_arms w rest)

pub wide_fits : (w x : ℕ) → 16 ≤ w → x < 2 ^ 128 → true ≡ nat_lt x (limit w)
wide_fits w x wide below =
    let m : 2 ^ 128 ≤ 2 ^ (8 * w) = pow_mono {i = 128} {j = 8 * w} (omega arith) in
    rw (limit_is w) (grind (arith, below, m))

-- a shift of 1 by the bits of a narrow word
pub narrow_limit : (w : ℕ) → w < 16 → 1 * 2 ^ (8 * w) % 2 ^ 128 ≡ limit w
narrow_limit w narrow =
    let m : 2 ^ suc (8 * w) ≤ 2 ^ 128 = pow_mono {i = suc (8 * w)} {j = 128} (omega arith) in
    let some : 0 < 2 ^ (8 * w) = pow_pos (8 * w) in
    let below : 1 * 2 ^ (8 * w) < 2 ^ 128 = omega (arith, m, some, pow-suc 2 (8 * w)) in
    let one : 1 * 2 ^ (8 * w) ≡ 2 ^ (8 * w) = omega arith in
    mod-eq_of_lt below ∙ one ∙ sym (limit_is w)
