-- What is read of a space after bytes were written to a range that lies within it.
use Rattle.std.proofs.Common.{◌≡◌, ◌≢◌, ℕ, zero, suc, ◌+◌, ◌<◌, ◌≤◌, List, [], ◌∷◌, length, refl, sym, ap, ◌∙◌, ◌⊎◌, inl, inr, ⊎_elim, arith}
use Rattle.pcode_model.specs.Spaces.{next, bytes_at, put_in, each_at}
use Rattle.pcode_laws.proofs.Puts.{IsOther, next_within, put_in_at, put_in_else}

-- another space, or an offset before or after so many from one on
abbrev pub IsOff : (s o k t p : ℕ) → Type 0
IsOff s o k t p = (t ≢ s) ⊎ ((p < o) ⊎ (o + k ≤ p))

off_other : (s o k t p : ℕ) → IsOff s o (suc k) t p → IsOther s o t p
off_other s o k t p out = ⊎_elim (λ ne. inl ne)
    (λ side. inr (λ e. ⊎_elim (λ lt. omega arith) (λ ge. omega arith) side)) out

off_rest : (s o k t p : ℕ) → IsOff s o (suc k) t p → IsOff s (suc o) k t p
off_rest s o k t p out = ⊎_elim (λ ne. inl ne)
    (λ side. inr (⊎_elim (λ (lt : p < o). inl (omega arith)) (λ (ge : o + suc k ≤ p). inr (omega arith)) side)) out

-- another range without a common byte
abbrev pub IsAway : (s o k t p j : ℕ) → Type 0
IsAway s o k t p j = (t ≢ s) ⊎ ((p + j ≤ o) ⊎ (o + k ≤ p))

away_off : (s o k t p j : ℕ) → IsAway s o k t p (suc j) → IsOff s o k t p
away_off s o k t p j out = ⊎_elim (λ ne. inl ne)
    (λ side. inr (⊎_elim (λ (lt : p + suc j ≤ o). inl (omega arith)) (λ ge. inr ge) side)) out

away_rest : (s o k t p j : ℕ) → IsAway s o k t p (suc j) → IsAway s o k t (suc p) j
away_rest s o k t p j out = ⊎_elim (λ ne. inl ne)
    (λ side. inr (⊎_elim (λ (lt : p + suc j ≤ o). inl (omega arith)) (λ (ge : o + k ≤ p). inr (omega arith)) side)) out

module _ (size s : ℕ) where
  -- bytes outside the range stay
  pub written_off : (o : ℕ) (bs : List ℕ) (m : ℕ → ℕ → ℕ) (t p : ℕ)
      → o + length bs ≤ size
      → IsOff s o (length bs) t p
      → each_at size (put_in s) o bs m t p ≡ m t p
  written_off o [] m t p h out = refl
  written_off o (b ∷ []) m t p h out = put_in_else s o b m t p (off_other s o 0 t p out)
  written_off o (b ∷ c ∷ bs) m t p h out =
      let n : next size o ≡ suc o = next_within size o (omega arith) in
      let out' : IsOff s (suc o) (length (c ∷ bs)) t p = off_rest s o (length (c ∷ bs)) t p out in
      ap (λ x. each_at size (put_in s) x (c ∷ bs) (put_in s o b m) t p) n
      ∙ written_off (suc o) (c ∷ bs) (put_in s o b m) t p (omega arith) out'
      ∙ put_in_else s o b m t p (off_other s o (length (c ∷ bs)) t p out)

  -- the range holds what was written to it
  pub written_on : (o : ℕ) (bs : List ℕ) (m : ℕ → ℕ → ℕ)
      → o + length bs ≤ size
      → bytes_at size (each_at size (put_in s) o bs m s) o (length bs) ≡ bs
  written_on o [] m h = refl
  written_on o (b ∷ []) m h = ap (λ x. x ∷ []) (put_in_at s o b m)
  written_on o (b ∷ c ∷ bs) m h =
      let n : next size o ≡ suc o = next_within size o (omega arith) in
      let after : ℕ → ℕ → ℕ = each_at size (put_in s) (suc o) (c ∷ bs) (put_in s o b m) in
      let first : after s o ≡ b =
      written_off (suc o) (c ∷ bs) (put_in s o b m) s o (omega arith) (inr (inl (omega arith)))
      ∙ put_in_at s o b m in
      let rest : bytes_at size (after s) (suc o) (length (c ∷ bs)) ≡ c ∷ bs =
      written_on (suc o) (c ∷ bs) (put_in s o b m) (omega arith) in
      ap (λ x. bytes_at size (each_at size (put_in s) x (c ∷ bs) (put_in s o b m) s) o (suc (length (c ∷ bs)))) n
      ∙ ap (λ x. after s o ∷ bytes_at size (after s) x (length (c ∷ bs))) n
      ∙ ap (λ x. x ∷ bytes_at size (after s) (suc o) (length (c ∷ bs))) first
      ∙ ap (λ xs. b ∷ xs) rest

  -- a range that is away from it keeps its bytes
  pub written_away : (o : ℕ) (bs : List ℕ) (m : ℕ → ℕ → ℕ) (size' t p j : ℕ)
      → o + length bs ≤ size
      → p + j ≤ size'
      → IsAway s o (length bs) t p j
      → bytes_at size' (each_at size (put_in s) o bs m t) p j ≡ bytes_at size' (m t) p j
  written_away o bs m size' t p zero h h' out = refl
  written_away o bs m size' t p (suc zero) h h' out =
      ap (λ x. x ∷ []) (written_off o bs m t p h (away_off s o (length bs) t p 0 out))
  written_away o bs m size' t p (suc (suc j)) h h' out =
      let after : ℕ → ℕ = each_at size (put_in s) o bs m t in
      let n : next size' p ≡ suc p = next_within size' p (omega arith) in
      let first : after p ≡ m t p = written_off o bs m t p h (away_off s o (length bs) t p (suc j) out) in
      let rest : bytes_at size' after (suc p) (suc j) ≡ bytes_at size' (m t) (suc p) (suc j) =
      written_away o bs m size' t (suc p) (suc j) h (omega arith) (away_rest s o (length bs) t p (suc j) out) in
      ap (λ x. after p ∷ bytes_at size' after x (suc j)) n
      ∙ ap (λ x. x ∷ bytes_at size' after (suc p) (suc j)) first
      ∙ ap (λ xs. m t p ∷ xs) rest
      ∙ ap (λ x. m t p ∷ bytes_at size' (m t) x (suc j)) (sym n)
