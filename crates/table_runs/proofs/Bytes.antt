-- Bytes of a range, of a part of it, and of ranges that lie one behind the other.
use Rattle.std.proofs.Common.{◌≡◌, ℕ, zero, suc, ◌+◌, ◌/◌, ◌<◌, ◌≤◌, Bool, true, false, List, ◌∷◌, ◌++◌, length, take, drop, get_or, refl, sym, ap, ◌∙◌, arith}
use Rattle.std.proofs.Math.Nat.{mod-lt}
use Rattle.std.proofs.lemmas.List.{drop_more}
use Rattle.bits_core.specs.Bytes.{place_of_part, word_bytes, word_of}
use Rattle.bits_core.specs.Value.{concat, limit, part}
use Rattle.bits_core.proofs.Limits.{limit_pos}
use Rattle.laws.proofs.Bytes.{length-word_bytes, word_again, word_bytes-part, word_of-append_big, word_of-append_little}
use Rattle.pcode_model.specs.Spaces.{bytes_at, next}
use Rattle.pcode_laws.proofs.Puts.{next_within}
use Rattle.range_words.proofs.Variables.{length-bytes_at}

pub part_below : (x k n : ℕ) → part x k n < limit n
unfolding part
part_below x k n = mod-lt (x / limit k) (limit_pos n)

module _ (size : ℕ) (f : ℕ → ℕ) where
  pub onward : (o n : ℕ) → o + suc n ≤ size → bytes_at size f (next size o) n ≡ bytes_at size f (suc o) n
  onward o zero within = refl
  onward o (suc n) within = ap (λ x. bytes_at size f x (suc n)) (next_within size o (omega (arith, within)))

  split : (o j k : ℕ)
      → o + (j + k) ≤ size
      → bytes_at size f o (j + k) ≡ bytes_at size f o j ++ bytes_at size f (o + j) k
  split o zero k within =
      let y : 0 + k ≡ k = omega arith in
      let z : o + 0 ≡ o = omega arith in
      rw (y, z) refl
  split o (suc j) k within =
      let y : suc j + k ≡ suc (j + k) = omega arith in
      let z : suc o + j ≡ o + suc j = omega arith in
      ap (bytes_at size f o) y
      ∙ ap (λ xs. f o ∷ xs)
      (onward o (j + k) (omega (arith, within))
      ∙ split (suc o) j k (omega (arith, within))
      ∙ ap (λ x. bytes_at size f (suc o) j ++ bytes_at size f x k) z
      ∙ ap (λ xs. xs ++ bytes_at size f (o + suc j) k) (sym (onward o j (omega (arith, within)))))

  -- With the big end first the word of the first range is the high part.
  pub split_big : (o j k : ℕ)
      → o + (j + k) ≤ size
      → word_of true (bytes_at size f o (j + k))
      ≡ concat k (word_of true (bytes_at size f o j)) (word_of true (bytes_at size f (o + j) k))
  split_big o j k within =
      let xs = bytes_at size f o j in
      let ys = bytes_at size f (o + j) k in
      ap (word_of true) (split o j k within)
      ∙ word_of-append_big xs ys
      ∙ ap (λ n. concat n (word_of true xs) (word_of true ys)) (length-bytes_at size f (o + j) k)

  -- With the little end first that of the second one is.
  pub split_little : (o j k : ℕ)
      → o + (j + k) ≤ size
      → word_of false (bytes_at size f o (j + k))
      ≡ concat j (word_of false (bytes_at size f (o + j) k)) (word_of false (bytes_at size f o j))
  split_little o j k within =
      let xs = bytes_at size f o j in
      let ys = bytes_at size f (o + j) k in
      ap (word_of false) (split o j k within)
      ∙ word_of-append_little xs ys
      ∙ ap (λ n. concat n (word_of false ys) (word_of false xs)) (length-bytes_at size f o j)

  -- bytes that are those of a list from a place on
  taken : (xs : List ℕ) (o n i : ℕ)
      → o + n ≤ size
      → i + n ≤ length xs
      → ((j : ℕ) → j < n → f (o + j) ≡ get_or xs (i + j) 0)
      → bytes_at size f o n ≡ take n (drop i xs)
  taken xs o zero i within low h = refl
  taken xs o (suc n) i within low h =
      let z : o + 0 ≡ o = omega arith in
      let y : i + 0 ≡ i = omega arith in
      let first : f o ≡ get_or xs i 0 = ap f (sym z) ∙ h 0 (omega arith) ∙ ap (λ k. get_or xs k 0) y in
      let rest : bytes_at size f (suc o) n ≡ take n (drop (i + 1) xs) =
      taken xs (suc o) n (i + 1) (omega (arith, within)) (omega (arith, low)) (λ j lt.
      let a : suc o + j ≡ o + suc j = omega arith in
      let b : i + suc j ≡ i + 1 + j = omega arith in
      ap f a ∙ h (suc j) (omega arith) ∙ ap (λ k. get_or xs k 0) b) in
      ap (λ ys. f o ∷ ys) (onward o n within ∙ rest)
      ∙ ap (λ b. b ∷ take n (drop (i + 1) xs)) first
      ∙ ap (take (suc n)) (sym (drop_more xs i 0 (omega (arith, low))))

  -- Bytes that are some of a word's, dropped low ones ahead of them, are a part of it.
  pub part_word : (big : Bool) (w v o n i k : ℕ)
      → o + n ≤ size
      → k + n ≤ w
      → place_of_part big w k n ≡ i
      → i + n ≤ w
      → ((j : ℕ) → j < n → f (o + j) ≡ get_or (word_bytes big w v) (i + j) 0)
      → word_of big (bytes_at size f o n) ≡ part v k n
  part_word big w v o n i k within low place at h =
      let long : length (word_bytes big w v) ≡ w = length-word_bytes big w v in
      let bytes : bytes_at size f o n ≡ word_bytes big n (part v k n) =
      taken (word_bytes big w v) o n i within (omega (arith, long)) h
      ∙ ap (λ p. take n (drop p (word_bytes big w v))) (sym place)
      ∙ sym (word_bytes-part big w v k n low) in
      ap (word_of big) bytes ∙ word_again big n (part v k n) (part_below v k n)
