-- One step of a loop over bytes.
use Rattle.std.proofs.Common.{◌≡◌, ℕ, suc, ◌+◌, ◌-◌, ◌*◌, ◌/◌, ◌%◌, ◌^◌, ◌<◌, ◌≤◌, Bool, true, false, List, [], ◌∷◌, ◌++◌, length, drop, get_or, reverse, refl, sym, ap, ◌∙◌, arith, append_assoc, add-one, lit<, Option, Some, None}
use Rattle.std.proofs.Math.Nat.{pow-suc, pow-le-pow_right}
use Rattle.std.proofs.lemmas.List.{drop_more, reverse-append}
use Rattle.std.specs.Option as option
use Rattle.bits_core.specs.Bytes.{bytes, number}
use Rattle.pcode_model.specs.Spaces.{bytes_at, any_at, each_at, next, or, is_some}

-- one more byte was read
pub read_more : (size : ℕ) (f : ℕ → ℕ) (here count i : ℕ) (out all : List ℕ)
    → i < count
    → out ++ bytes_at size f here (count - i) ≡ all
    → (out ++ f here ∷ []) ++ bytes_at size f (next size here) (count - (i + 1)) ≡ all
read_more size f here count i out all more before =
    let left : count - i ≡ suc (count - (i + 1)) = omega arith in
    append_assoc out (f here ∷ []) (bytes_at size f (next size here) (count - (i + 1)))
    ∙ ap (λ n. out ++ bytes_at size f here n) (sym left)
    ∙ before

-- one more byte was written
pub write_more : {A W : Type 0} (size : ℕ) (change : ℕ → A → W → W) (here i : ℕ) (bs : List A) (d : A) (w : W)
    → i < length bs
    → each_at size change here (drop i bs) w
    ≡ each_at size change (next size here) (drop (i + 1) bs) (change here (get_or bs i d) w)
write_more size change here i bs d w more = ap (λ xs. each_at size change here xs w) (drop_more bs i d more)

-- one more byte was looked at
pub look_more : (size : ℕ) (f : ℕ → Bool) (here count i : ℕ)
    → i < count
    → f here ≡ false
    → any_at size f here (count - i) ≡ any_at size f (next size here) (count - (i + 1))
look_more size f here count i more isnt =
    let left : count - i ≡ suc (count - (i + 1)) = omega arith in
    ap (λ n. any_at size f here n) left ∙ ap (λ b. or b (any_at size f (next size here) (count - (i + 1)))) isnt

pub look_found : (size : ℕ) (f : ℕ → Bool) (here count i : ℕ)
    → i < count
    → f here ≡ true
    → any_at size f here (count - i) ≡ true
look_found size f here count i more is =
    let left : count - i ≡ suc (count - (i + 1)) = omega arith in
    ap (λ n. any_at size f here n) left ∙ ap (λ b. or b (any_at size f (next size here) (count - (i + 1)))) is

-- one more byte of a word
pub bytes_more : (rest count i : ℕ) (out all : List ℕ)
    → i < count
    → out ++ bytes (count - i) rest ≡ all
    → (out ++ rest % 256 ∷ []) ++ bytes (count - (i + 1)) (rest / 256) ≡ all
bytes_more rest count i out all more before =
    let left : count - i ≡ suc (count - (i + 1)) = omega arith in
    append_assoc out (rest % 256 ∷ []) (bytes (count - (i + 1)) (rest / 256))
    ∙ ap (λ n. out ++ bytes n rest) (sym left)
    ∙ before

-- one more byte below the others
pub number_more : (bs : List ℕ) (b : ℕ) → number (reverse (bs ++ b ∷ [])) ≡ number (reverse bs) * 256 + b
number_more bs b = ap number (reverse-append bs (b ∷ []))

-- one more byte above the others
pub number_above : (bs : List ℕ) (i : ℕ)
    → i < length bs
    → number (drop i bs) ≡ number (drop (i + 1) bs) * 256 + get_or bs i 0
number_above bs i more = ap number (drop_more bs i 0 more)

-- a number of at most 15 bytes and one byte more
pub one_more_fits : (n b i : ℕ) → n < 256 ^ i → b < 256 → i < 16 → n * 256 + b < 2 ^ 128
one_more_fits n b i below byte few =
    let most : 256 ^ i ≤ 256 ^ 15 = pow-le-pow_right (lit< tt) {i = i} {j = 15} (omega arith) in
    omega (arith, most)

pub one_more_below : (n b i : ℕ) → n < 256 ^ i → b < 256 → n * 256 + b < 256 ^ (i + 1)
one_more_below n b i below byte = rw (add-one i) (rw (pow-suc 256 i) (omega arith))

-- a byte that is read and pushed leaves the others to be read
pub read_step : (size : ℕ) (f : ℕ → ℕ) (here count i : ℕ) (out all : List ℕ) (b later : ℕ) (longer : List ℕ)
    → b ≡ f here
    → later ≡ next size here
    → longer ≡ out ++ b ∷ []
    → i < count
    → out ++ bytes_at size f here (count - i) ≡ all
    → longer ++ bytes_at size f later (count - (i + 1)) ≡ all
read_step size f here count i out all b later longer byte place pushed more before =
    ap (λ xs. xs ++ bytes_at size f later (count - (i + 1))) (pushed ∙ ap (λ x. out ++ x ∷ []) byte)
    ∙ ap (λ p. (out ++ f here ∷ []) ++ bytes_at size f p (count - (i + 1))) place
    ∙ read_more size f here count i out all more before

-- a byte that is looked at and has no fault leaves the others to be looked at
pub look_step : (size : ℕ) (f : ℕ → Bool) (here count i later : ℕ) (all found : Bool)
    → found ≡ f here
    → found ≡ false
    → later ≡ next size here
    → i < count
    → any_at size f here (count - i) ≡ all
    → any_at size f later (count - (i + 1)) ≡ all
look_step size f here count i later all found is isnt place more before =
    ap (λ p. any_at size f p (count - (i + 1))) place
    ∙ sym (look_more size f here count i more (sym is ∙ isnt))
    ∙ before

pub low_step : (rest count i : ℕ) (out all longer : List ℕ)
    → longer ≡ out ++ rest % 256 ∷ []
    → i < count
    → out ++ bytes (count - i) rest ≡ all
    → longer ++ bytes (count - (i + 1)) (rest / 256) ≡ all
low_step rest count i out all longer pushed more before =
    ap (λ xs. xs ++ bytes (count - (i + 1)) (rest / 256)) pushed ∙ bytes_more rest count i out all more before

-- the test of an option that std has is that of the definitions
pub same_some : (x : Option ℕ) → option.is_some x ≡ is_some x
same_some None = refl
same_some (Some b) = refl
