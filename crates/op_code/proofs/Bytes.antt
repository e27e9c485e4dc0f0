-- The bytes of two ranges that lie one behind the other, and the words that they make.
use Rattle.std.proofs.Common.{◌≡◌, ℕ, zero, suc, ◌+◌, ◌≤◌, List, [], ◌∷◌, ◌++◌, length, refl, sym, ap, ◌∙◌, true, false, arith}
use Rattle.bits_core.specs.Bytes.{word_of}
use Rattle.bits_core.specs.Value.{concat}
use Rattle.laws.proofs.Bytes.{word_of-append_big, word_of-append_little}
use Rattle.pcode_model.specs.Spaces.{bytes_at, each_at, next}
use Rattle.pcode_laws.proofs.Puts.{next_within}
use Rattle.range_words.proofs.Variables.{length-bytes_at}

module _ (size : ℕ) (f : ℕ → ℕ) where
  onward : (o n : ℕ) → o + suc n ≤ size → bytes_at size f (next size o) n ≡ bytes_at size f (suc o) n
  onward o zero within = refl
  onward o (suc n) within = ap (λ x. bytes_at size f x (suc n)) (next_within size o (omega (arith, within)))

  pub bytes_split : (o j k : ℕ)
      → o + (j + k) ≤ size
      → bytes_at size f o (j + k) ≡ bytes_at size f o j ++ bytes_at size f (o + j) k
  bytes_split o zero k within =
      let y : 0 + k ≡ k = omega arith in
      let z : o + 0 ≡ o = omega arith in
      rw (y, z) refl
  bytes_split o (suc j) k within =
      let y : suc j + k ≡ suc (j + k) = omega arith in
      let z : suc o + j ≡ o + suc j = omega arith in
      ap (bytes_at size f o) y
      ∙ ap (λ xs. f o ∷ xs)
      (onward o (j + k) (omega (arith, within))
      ∙ bytes_split (suc o) j k (omega (arith, within))
      ∙ ap (λ x. bytes_at size f (suc o) j ++ bytes_at size f x k) z
      ∙ ap (λ xs. xs ++ bytes_at size f (o + suc j) k) (sym (onward o j (omega (arith, within)))))

  -- With the big end first the word of the first range is the high part.
  pub word_split_big : (o j k : ℕ)
      → o + (j + k) ≤ size
      → word_of true (bytes_at size f o (j + k))
      ≡ concat k (word_of true (bytes_at size f o j)) (word_of true (bytes_at size f (o + j) k))
  word_split_big o j k within =
      let xs = bytes_at size f o j in
      let ys = bytes_at size f (o + j) k in
      ap (word_of true) (bytes_split o j k within)
      ∙ word_of-append_big xs ys
      ∙ ap (λ n. concat n (word_of true xs) (word_of true ys)) (length-bytes_at size f (o + j) k)

  -- With the little end first that of the second one is.
  pub word_split_little : (o j k : ℕ)
      → o + (j + k) ≤ size
      → word_of false (bytes_at size f o (j + k))
      ≡ concat j (word_of false (bytes_at size f (o + j) k)) (word_of false (bytes_at size f o j))
  word_split_little o j k within =
      let xs = bytes_at size f o j in
      let ys = bytes_at size f (o + j) k in
      ap (word_of false) (bytes_split o j k within)
      ∙ word_of-append_little xs ys
      ∙ ap (λ n. concat n (word_of false ys) (word_of false xs)) (length-bytes_at size f o j)

-- Bytes that are written one behind the other are written as one.
pub each_split : {W : Type 0} (size : ℕ) (change : ℕ → ℕ → W → W) (o : ℕ) (xs ys : List ℕ) (w : W)
    → o + (length xs + length ys) ≤ size
    → each_at size change o (xs ++ ys) w ≡ each_at size change (o + length xs) ys (each_at size change o xs w)
each_split size change o [] ys w within =
    let z : o + 0 ≡ o = omega arith in
    ap (λ p. each_at size change p ys w) (sym z)
each_split size change o (x ∷ []) [] w within = refl
each_split size change o (x ∷ []) (y ∷ ys) w within =
    let n : next size o ≡ o + 1 = next_within size o (omega (arith, within)) ∙ omega arith in
    ap (λ p. each_at size change p (y ∷ ys) (change o x w)) n
each_split size change o (x ∷ z ∷ xs) ys w within =
    let n : next size o ≡ suc o = next_within size o (omega (arith, within)) in
    let s : suc o + length (z ∷ xs) ≡ o + length (x ∷ z ∷ xs) = omega arith in
    ap (λ p. each_at size change p ((z ∷ xs) ++ ys) (change o x w)) n
    ∙ each_split size change (suc o) (z ∷ xs) ys (change o x w) (omega (arith, within))
    ∙ ap (λ p. each_at size change p ys (each_at size change (suc o) (z ∷ xs) (change o x w))) s
    ∙ ap (λ p. each_at size change (o + length (x ∷ z ∷ xs)) ys (each_at size change p (z ∷ xs) (change o x w))) (sym n)
