-- Words and their bytes: what is read and written in several ranges.
use Rattle.std.proofs.Common.{◌≡◌, ℕ, zero, suc, ◌+◌, ◌-◌, ◌*◌, ◌%◌, ◌/◌, ◌<◌, ◌≤◌, Bool, true, false, List, [], ◌∷◌, ◌++◌, reverse, length, get_or, take, drop, refl, sym, ap, ◌∙◌, arith, subst, append_assoc}
use Rattle.std.proofs.Math.Nat.{mod-lt, mod-one, mod-eq_of_lt, div-div-eq-div-mul, div-one, mul_comm}
use Rattle.std.proofs.Math.Seq.{take-append_seam, drop-append_seam}
use Rattle.std.proofs.lemmas.List.{reverse-reverse, reverse-append, length-reverse, get_or-reverse}
use Rattle.std.proofs.lemmas.List.Elements.{All-nil, All-cons, All-head, All-tail}
use Rattle.std.proofs.lemmas.Nat.{mod-mul-add, div-mul-add}
use Rattle.std.specs.List.{All}
use Rattle.bits_core.specs.Value.{limit, concat, part}
use Rattle.bits_core.specs.Bytes.{number, bytes, word_bytes, word_of, place_of_part}
use Rattle.bits_core.proofs.Limits.{limit_pos, limit-add, limit_is}
use Rattle.laws.proofs.Parts.{both}

limit_one : limit 1 ≡ 256
limit_one = limit_is 1

limit_next : (w : ℕ) → limit (suc w) ≡ limit w * 256
limit_next w = let e : suc w ≡ w + 1 = omega arith in ap limit e ∙ limit-add w 1 ∙ ap (λ n. limit w * n) limit_one

-- ---- the least significant byte first

pub length-bytes : (w n : ℕ) → length (bytes w n) ≡ w
length-bytes zero n = refl
length-bytes (suc w) n = ap suc (length-bytes w (n / 256))

pub bytes_below : (w n : ℕ) → All (λ b. b < 256) (bytes w n)
bytes_below zero n = All-nil (λ b. b < 256)
bytes_below (suc w) n = All-cons (λ b. b < 256) (n % 256) (bytes w (n / 256)) (mod-lt n (omega arith)) (bytes_below w (n / 256))

pub number-bytes : (w n : ℕ) → number (bytes w n) ≡ n % limit w
number-bytes zero n = sym (ap (λ k. n % k) (limit_is 0) ∙ mod-one n)
number-bytes (suc w) n =
    let e : suc w ≡ w + 1 = omega arith in
    let f : n % limit (w + 1) ≡ (n / 256 % limit w) * 256 + n % 256 = rw (← limit_one) (both n w 1) in
    ap (λ k. k * 256 + n % 256) (number-bytes w (n / 256)) ∙ sym f ∙ ap (λ k. n % limit k) (sym e)

pub number_below : (bs : List ℕ) → All (λ b. b < 256) bs → number bs < limit (length bs)
number_below [] h = limit_pos 0
number_below (b ∷ bs) h = omega (arith, number_below bs (All-tail (λ b. b < 256) b bs h), All-head (λ b. b < 256) b bs h, limit_next (length bs))

pub bytes-number : (bs : List ℕ) → All (λ b. b < 256) bs → bytes (length bs) (number bs) ≡ bs
bytes-number [] h = refl
bytes-number (b ∷ bs) h =
    let low : b < 256 = All-head (λ b. b < 256) b bs h in
    let e : (number bs * 256 + b) % 256 ≡ b = mod-mul-add (number bs) 256 b low in
    let f : (number bs * 256 + b) / 256 ≡ number bs = div-mul-add (number bs) 256 b low in
    rw (e, f) (ap (λ r. b ∷ r) (bytes-number bs (All-tail (λ b. b < 256) b bs h)))

-- bytes put one after another make the word of the high part and the low part
pub number-append : (low high : List ℕ) → number (low ++ high) ≡ concat (length low) (number high) (number low)
unfolding concat limit
number-append [] high = omega arith
number-append (b ∷ low) high =
    omega (arith, number-append low high, ap (λ k. number high * k) (limit_next (length low)))

pub bytes-concat : (v u a b : ℕ) → b < limit v → bytes (v + u) (concat v a b) ≡ bytes v b ++ bytes u a
unfolding concat
bytes-concat zero u a b h =
    let l : b ≡ 0 = omega (arith, limit_is 0) in
    let e : a * limit 0 + b ≡ a = ap (λ k. a * k + b) (limit_is 0) ∙ omega (arith, l) in
    let z : 0 + u ≡ u = omega arith in
    rw (z, e) refl
bytes-concat (suc v) u a b h =
    let n : limit (suc v) ≡ limit v * 256 = limit_next v in
    let s : suc v + u ≡ suc (v + u) = omega arith in
    let e : a * limit (suc v) + b ≡ (a * limit v + b / 256) * 256 + b % 256 = omega (arith, ap (λ k. a * k) n) in
    let d : ((a * limit v + b / 256) * 256 + b % 256) % 256 ≡ b % 256 = mod-mul-add (a * limit v + b / 256) 256 (b % 256) (mod-lt b (omega arith)) in
    let f : ((a * limit v + b / 256) * 256 + b % 256) / 256 ≡ a * limit v + b / 256 = div-mul-add (a * limit v + b / 256) 256 (b % 256) (mod-lt b (omega arith)) in
    let l : b / 256 < limit v = omega arith in
    rw (s, e) (rw (d, f) (ap (λ r. b % 256 ∷ r) (bytes-concat v u a (b / 256) l)))

-- the bytes of a word, cut at k
pub bytes-split : (k n x : ℕ) → bytes (k + n) x ≡ bytes k x ++ bytes n (x / limit k)
bytes-split zero n x =
    let z : 0 + n ≡ n = omega arith in
    let e : x / limit 0 ≡ x = ap (λ d. x / d) (limit_is 0) ∙ div-one x in
    rw (z, e) refl
bytes-split (suc k) n x =
    let s : suc k + n ≡ suc (k + n) = omega arith in
    let e : x / limit (suc k) ≡ x / 256 / limit k = ap (λ d. x / d) (limit_next k ∙ mul_comm (limit k) 256) ∙ sym (div-div-eq-div-mul x 256 (limit k)) in
    rw (s, e) (ap (λ r. x % 256 ∷ r) (bytes-split k n (x / 256)))

-- only the low part of a number shows in its bytes
pub bytes-reduced : (w n : ℕ) → bytes w (n % limit w) ≡ bytes w n
bytes-reduced w n =
    let P : ℕ → Type 0 = λ k. bytes k (number (bytes w n)) ≡ bytes w n in
    ap (bytes w) (sym (number-bytes w n)) ∙ subst P (length-bytes w n) (bytes-number (bytes w n) (bytes_below w n))

pub part_bytes : (x k n : ℕ) → bytes n (part x k n) ≡ bytes n (x / limit k)
unfolding part
part_bytes x k n = bytes-reduced n (x / limit k)

part_below : (x k n : ℕ) → part x k n < limit n
unfolding part
part_below x k n = mod-lt (x / limit k) (limit_pos n)

first_byte : (n : ℕ) → n % 256 ≡ part n 0 1
unfolding part
first_byte n = sym (ap (λ d. n / d % limit 1) (limit_is 0) ∙ ap (λ m. m % limit 1) (div-one n) ∙ ap (λ l. n % l) limit_one)

next_byte : (n i : ℕ) → part (n / 256) i 1 ≡ part n (suc i) 1
unfolding part
next_byte n i = ap (λ m. m % limit 1) (div-div-eq-div-mul n 256 (limit i) ∙ ap (λ d. n / d) (mul_comm 256 (limit i) ∙ sym (limit_next i)))

get_or-bytes : (w n i : ℕ) → i < w → get_or (bytes w n) i 0 ≡ part n i 1
get_or-bytes zero n i h = absurd (omega arith)
get_or-bytes (suc w) n zero h = first_byte n
get_or-bytes (suc w) n (suc i) h = get_or-bytes w (n / 256) i (omega arith) ∙ next_byte n i

-- ---- memory order

pub length-word_bytes : (big : Bool) (w n : ℕ) → length (word_bytes big w n) ≡ w
length-word_bytes true w n = length-reverse (bytes w n) ∙ length-bytes w n
length-word_bytes false w n = length-bytes w n

reverse_below : (bs : List ℕ) → All (λ b. b < 256) bs → All (λ b. b < 256) (reverse bs)
reverse_below bs h k d p =
    let q : k < length bs = omega (arith, length-reverse bs) in
    let r : length bs - 1 - k < length bs = omega arith in
    subst (λ b. b < 256) (sym (get_or-reverse bs k d q)) (h (length bs - 1 - k) d r)

pub word_bytes_below : (big : Bool) (w n : ℕ) → All (λ b. b < 256) (word_bytes big w n)
word_bytes_below true w n = reverse_below (bytes w n) (bytes_below w n)
word_bytes_below false w n = bytes_below w n

-- what is written as bytes and read again is the word, and the other way round
pub word_of-word_bytes : (big : Bool) (w n : ℕ) → word_of big (word_bytes big w n) ≡ n % limit w
word_of-word_bytes true w n = ap number (reverse-reverse (bytes w n)) ∙ number-bytes w n
word_of-word_bytes false w n = number-bytes w n

pub word_again : (big : Bool) (w n : ℕ) → n < limit w → word_of big (word_bytes big w n) ≡ n
word_again big w n h = word_of-word_bytes big w n ∙ mod-eq_of_lt h

pub word_bytes-word_of : (big : Bool) (bs : List ℕ) → All (λ b. b < 256) bs → word_bytes big (length bs) (word_of big bs) ≡ bs
word_bytes-word_of true bs h =
    ap (λ n. reverse (bytes n (number (reverse bs)))) (sym (length-reverse bs)) ∙ ap reverse (bytes-number (reverse bs) (reverse_below bs h)) ∙ reverse-reverse bs
word_bytes-word_of false bs h = bytes-number bs h

pub word_of_below : (big : Bool) (bs : List ℕ) → All (λ b. b < 256) bs → word_of big bs < limit (length bs)
word_of_below true bs h = subst (λ n. number (reverse bs) < limit n) (length-reverse bs) (number_below (reverse bs) (reverse_below bs h))
word_of_below false bs h = number_below bs h

pub word_bytes-reduced : (big : Bool) (w n : ℕ) → word_bytes big w (n % limit w) ≡ word_bytes big w n
word_bytes-reduced true w n = ap reverse (bytes-reduced w n)
word_bytes-reduced false w n = bytes-reduced w n

-- adjacent ranges: the low part comes first with the little end first, the high part with the big end first
pub word_bytes-concat_little : (v u a b : ℕ) → b < limit v → word_bytes false (v + u) (concat v a b) ≡ word_bytes false v b ++ word_bytes false u a
word_bytes-concat_little v u a b h = bytes-concat v u a b h

pub word_bytes-concat_big : (v u a b : ℕ) → b < limit v → word_bytes true (v + u) (concat v a b) ≡ word_bytes true u a ++ word_bytes true v b
word_bytes-concat_big v u a b h = ap reverse (bytes-concat v u a b h) ∙ reverse-append (bytes v b) (bytes u a)

pub word_of-append_little : (xs ys : List ℕ) → word_of false (xs ++ ys) ≡ concat (length xs) (word_of false ys) (word_of false xs)
word_of-append_little xs ys = number-append xs ys

pub word_of-append_big : (xs ys : List ℕ) → word_of true (xs ++ ys) ≡ concat (length ys) (word_of true xs) (word_of true ys)
word_of-append_big xs ys =
    ap number (reverse-append xs ys) ∙ number-append (reverse ys) (reverse xs) ∙ ap (λ n. concat n (number (reverse xs)) (number (reverse ys))) (length-reverse ys)

-- a range within a word: its bytes are those of the part
middle : (xs ys zs : List ℕ) (k n : ℕ) → length xs ≡ k → length ys ≡ n → take n (drop k (xs ++ (ys ++ zs))) ≡ ys
middle xs ys zs k n e f = rw (← e, ← f) (ap (take (length ys)) (drop-append_seam xs (ys ++ zs)) ∙ take-append_seam ys zs)

reversed : (xs ys zs : List ℕ) → reverse (xs ++ (ys ++ zs)) ≡ reverse zs ++ (reverse ys ++ reverse xs)
reversed xs ys zs =
    reverse-append xs (ys ++ zs) ∙ ap (λ bs. bs ++ reverse xs) (reverse-append ys zs) ∙ append_assoc (reverse zs) (reverse ys) (reverse xs)

pub word_bytes-part : (big : Bool) (w x k n : ℕ) → k + n ≤ w → word_bytes big n (part x k n) ≡ take n (drop (place_of_part big w k n) (word_bytes big w x))
word_bytes-part big w x k n h =
    let r = w - (k + n) in
    let xs = bytes k x in
    let ys = bytes n (x / limit k) in
    let zs = bytes r (x / limit k / limit n) in
    let e : w ≡ k + (n + r) = omega arith in
    let s : bytes w x ≡ xs ++ (ys ++ zs) = ap (λ m. bytes m x) e ∙ bytes-split k (n + r) x ∙ ap (λ bs. xs ++ bs) (bytes-split n r (x / limit k)) in
    let m : bytes n (part x k n) ≡ ys = part_bytes x k n in
    elim big as (λ b. word_bytes b n (part x k n) ≡ take n (drop (place_of_part b w k n) (word_bytes b w x))) [
      | true ↦ ap reverse m ∙ sym (ap (λ bs. take n (drop r bs)) (ap reverse s ∙ reversed xs ys zs) ∙ middle (reverse zs) (reverse ys) (reverse xs) r n (length-reverse zs ∙ length-bytes r (x / limit k / limit n)) (length-reverse ys ∙ length-bytes n (x / limit k)))
      | false ↦ m ∙ sym (ap (λ bs. take n (drop k bs)) s ∙ middle xs ys zs k n (length-bytes k x) (length-bytes n (x / limit k)))
    ]

-- a part of what bytes make is what that range of them makes
pub part-word_of : (big : Bool) (bs : List ℕ) (k n : ℕ) → All (λ b. b < 256) bs → k + n ≤ length bs → part (word_of big bs) k n ≡ word_of big (take n (drop (place_of_part big (length bs) k n) bs))
part-word_of big bs k n h l =
    let m = word_of big bs in
    let at = place_of_part big (length bs) k n in
    sym (word_again big n (part m k n) (part_below m k n))
    ∙ ap (word_of big) (word_bytes-part big (length bs) m k n l ∙ ap (λ cs. take n (drop at cs)) (word_bytes-word_of big bs h))

-- the byte at an index, as a part
pub get_or-word_bytes : (big : Bool) (w n i : ℕ) → i < w → get_or (word_bytes big w n) i 0 ≡ part n (place_of_part big w i 1) 1
get_or-word_bytes true w n i h =
    let l : length (bytes w n) ≡ w = length-bytes w n in
    let e : length (bytes w n) - 1 - i ≡ w - (i + 1) = omega arith in
    get_or-reverse (bytes w n) i 0 (omega arith) ∙ ap (λ k. get_or (bytes w n) k 0) e ∙ get_or-bytes w n (w - (i + 1)) (omega arith)
get_or-word_bytes false w n i h = get_or-bytes w n i h
