-- The maximal parts of a range lie one behind the other, and each has one writer.
use Rattle.std.proofs.Common.{◌≡◌, ℕ, zero, suc, ◌+◌, ◌<◌, Bool, true, false, cond, List, [], ◌∷◌, Option, refl, sym, ap, ◌∙◌, subst, arith}
use Rattle.table_form.specs.Slices.{Part, Written, is_same, parts, with_byte}

pub record IsPart (last : ℕ → Option Written) (p : Part) : Type 0 where
  pub some : 0 < p.size
  pub each : (j : ℕ) → j < p.size → last (p.from + j) ≡ p.writer

-- these parts are so many bytes from an offset on
abbrev pub Cover : (ℕ → Option Written) → (offset size : ℕ) → List Part → Type 0
Cover last o k [] = k ≡ 0
Cover last o k (p ∷ ps) =
    (rest : ℕ) × ((p.from ≡ o) × (IsPart last p × ((k ≡ p.size + rest) × Cover last (o + p.size) rest ps)))

module _ (last : ℕ → Option Written) (once : (o p : ℕ) → is_same (last o) (last p) ≡ true → last o ≡ last p) where
  one_byte : (o : ℕ) → IsPart last (record { writer = last o; from = o; size = 1 })
  one_byte o = record { some = omega arith; each = λ j lt. let z : o + j ≡ o = omega arith in ap last z }

  longer : (o : ℕ) (p : Part)
      → is_same (last o) p.writer ≡ true
      → p.from ≡ suc o
      → IsPart last p
      → IsPart last (record { writer = p.writer; from = o; size = suc p.size })
  longer o p e f h =
      let z : p.from + 0 ≡ suc o = omega arith in
      let next : last (suc o) ≡ p.writer = ap last (sym z) ∙ h.each 0 h.some in
      let here : last o ≡ p.writer = once o (suc o) (ap (is_same (last o)) next ∙ e) ∙ next in
      record { some = omega arith; each = λ j. at j here }
    where
      at : (j : ℕ) → last o ≡ p.writer → j < suc p.size → last (o + j) ≡ p.writer
      at zero here lt = let z : o + 0 ≡ o = omega arith in ap last z ∙ here
      at (suc j) here lt = let z : o + suc j ≡ p.from + j = omega arith in ap last z ∙ h.each j (omega arith)

  with_cover : (o k : ℕ) (ps : List Part) → Cover last (suc o) k ps → Cover last o (suc k) (with_byte (last o) o ps)
  with_cover o k [] c = (0, (refl, (one_byte o, (omega arith, refl))))
  with_cover o k (p ∷ ps) c = by (is_same (last o) p.writer) refl
    where
      moved : (n rest : ℕ) (qs : List Part) → Cover last (suc o + n) rest qs → Cover last (o + suc n) rest qs
      moved n rest qs c = let z : suc o + n ≡ o + suc n = omega arith in subst (λ x. Cover last x rest qs) z c

      single : Cover last (suc o) k (p ∷ ps) → Cover last (o + 1) k (p ∷ ps)
      single c = let z : suc o ≡ o + 1 = omega arith in subst (λ x. Cover last x k (p ∷ ps)) z c

      by : (b : Bool)
          → is_same (last o) p.writer ≡ b
          → Cover last o (suc k) (cond b (record { writer = p.writer; from = o; size = suc p.size } ∷ ps) (record { writer = last o; from = o; size = 1 } ∷ p ∷ ps))
      by true e =
          let x = c.1 in
          (c.0, (refl, (longer o p e x.0 x.1.0, (omega (arith, x.1.1.0), moved p.size c.0 ps x.1.1.1))))
      by false e = (k, (refl, (one_byte o, (omega arith, single c))))

  pub parts_cover : (o k : ℕ) → Cover last o k (parts last o k)
  parts_cover o zero = refl
  parts_cover o (suc k) = with_cover o k (parts last (suc o) k) (parts_cover (suc o) k)
