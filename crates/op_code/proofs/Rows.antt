-- Rows of variables whose ranges lie one behind the other, and that such a row is the cover of what it fills.
use Rattle.std.proofs.Common.{◌≡◌, ◌≢◌, ℕ, zero, suc, ◌+◌, ◌-◌, ◌<◌, ◌≤◌, Bool, true, false, List, [], ◌∷◌, ◌++◌, length, Some, None, refl, sym, ap, ◌∙◌, subst, arith, ⊎_elim}
use Rattle.std.specs.Prelude.{slice_get, if◌then◌else◌}
use Rattle.std.specs.Option.{option_map}
use Rattle.std.proofs.lemmas.Bool.{cases_eq}
use Rattle.std.proofs.lemmas.Bool.Decides.{nat_tests}
use Rattle.pcode_model.specs.declared.listing.Varnode.{Varnode}
use Rattle.pcode_model.specs.declared.listing.Listing.{Listing}
use Rattle.range_words.specs.Ranges.{IsTable}
use Rattle.cmeaning.specs.Places.{place}
use Rattle.op_code.specs.Cover.{Begins, HasCover, IsRow, Piece, begins, cover, piece_by, piece_of, pieces_at, pieces_from}

-- ---- the first place in a list

module _ {A : Type 0} (test : A → Bool) where
  -- where nothing passes the test
  no_place : (xs : List A) → ((n : ℕ) (x : A) → slice_get xs n ≡ Some x → test x ≡ false) → place test xs ≡ None
  no_place [] fails = refl
  no_place (x ∷ xs) fails =
      ap (λ t. if t then Some 0 else option_map suc (place test xs)) (fails 0 x refl)
      ∙ ap (option_map suc) (no_place xs (λ n y e. fails (suc n) y e))

  -- where one thing passes it
  the_place : (xs : List A) (n : ℕ) (x : A)
      → slice_get xs n ≡ Some x
      → test x ≡ true
      → ((m : ℕ) (y : A) → slice_get xs m ≡ Some y → m ≢ n → test y ≡ false)
      → place test xs ≡ Some n
  the_place [] n x e passes others = absurd (cc)
  the_place (y ∷ ys) zero x e passes others =
      let is : y ≡ x = cc in
      ap (λ t. if t then Some 0 else option_map suc (place test ys)) (ap test is ∙ passes)
  the_place (y ∷ ys) (suc n) x e passes others =
      ap (λ t. if t then Some 0 else option_map suc (place test ys)) (others 0 y refl (λ z. absurd (omega (arith, z))))
      ∙ ap (option_map suc) (the_place ys n x e passes (λ m z f ne. others (suc m) z f (λ i. ne (omega (arith, i)))))

-- ---- the variables that begin at an offset

-- every range has a byte
abbrev pub AreSome : List Varnode → Type 0
AreSome ranges = (n : ℕ) (a : Varnode) → slice_get ranges n ≡ Some a → 0 < a.size

not_begun : (space offset : ℕ) (a : Varnode)
    → (a.space ≡ space → a.offset ≡ offset → ⊥)
    → begins space offset a ≡ false
not_begun space offset a out = ⊎_elim
    (λ (s : a.space ≡ space). ⊎_elim
    (λ (o : a.offset ≡ offset). absurd (out s o))
    (λ (ne : a.offset ≢ offset). grind (arith, nat_tests))
    (cases_eq a.offset offset))
    (λ (ne : a.space ≢ space). grind (arith, nat_tests))
    (cases_eq a.space space)

-- ---- rows

pub row_rises : (ranges : List Varnode) (space offset : ℕ) (ps : List Piece) (end : ℕ)
    → IsRow ranges space offset ps end
    → offset ≤ end
row_rises ranges space offset [] end row = omega (arith, row)
row_rises ranges space offset (p ∷ ps) end row =
    omega (arith, row_rises ranges space (offset + p.range.size) ps end row.1)

-- there are at most as many variables as bytes
row_few : (ranges : List Varnode) (space offset : ℕ) (ps : List Piece) (end : ℕ)
    → IsRow ranges space offset ps end
    → offset + length ps ≤ end
row_few ranges space offset [] end row = omega (arith, row)
row_few ranges space offset (p ∷ ps) end row =
    omega (arith, row_few ranges space (offset + p.range.size) ps end row.1, row.0.some)

-- So a cover has at most 16 variables where an op may name the range.
pub cover_few : (ranges : List Varnode) (v : Varnode) → HasCover ranges v → length (cover ranges v) ≤ v.size
cover_few ranges v has = omega (arith, row_few ranges v.space v.offset (cover ranges v) (v.offset + v.size) has)

one_row : (ranges : List Varnode) (n : ℕ) (v : Varnode)
    → slice_get ranges n ≡ Some v
    → 0 < v.size
    → IsRow ranges v.space v.offset (record { variable = n; range = v } ∷ []) (v.offset + v.size)
one_row ranges n v e some = (record { listed = e; space = refl; offset = refl; some = some }, refl)

module _ (l : Listing) (ranges : List Varnode) (table : IsTable l ranges) (some : AreSome ranges) where
  -- Only one range begins where another one lies.
  alone : (n m : ℕ) (a b : Varnode)
      → slice_get ranges n ≡ Some a
      → slice_get ranges m ≡ Some b
      → m ≢ n
      → b.space ≡ a.space
      → a.offset ≤ b.offset
      → b.offset < a.offset + a.size
      → ⊥
  alone n m a b e f ne same from to = ⊎_elim
      (λ (other : b.space ≢ a.space). other same)
      (λ side. ⊎_elim
      (λ (before : b.offset + b.size ≤ a.offset). absurd (omega (arith, before, from, some m b f)))
      (λ (behind : a.offset + a.size ≤ b.offset). absurd (omega (arith, behind, to)))
      side)
      (table.apart m n b a f e ne)

  -- The range of a variable begins at its offset, and no other one does.
  begins_one : (p : Piece) (space offset : ℕ)
      → Begins ranges space offset p
      → pieces_at ranges space offset ≡ p ∷ []
  begins_one p space offset h =
      let at : place (begins space offset) ranges ≡ Some p.variable =
      the_place (begins space offset) ranges p.variable p.range h.listed
      (let s : p.range.space ≡ space = h.space in let o : p.range.offset ≡ offset = h.offset in
      grind (arith, nat_tests))
      (λ m b f ne. not_begun space offset b (λ s o. alone p.variable m p.range b h.listed f ne (s ∙ sym h.space)
      (omega (arith, o, h.offset)) (omega (arith, o, h.offset, h.some)))) in
      ap (piece_by ranges) at ∙ ap (piece_of p.variable) h.listed

  -- None begins behind it in its range.
  begins_none : (p : Piece) (space offset o : ℕ)
      → Begins ranges space offset p
      → offset < o
      → o < offset + p.range.size
      → pieces_at ranges space o ≡ []
  begins_none p space offset o h from to =
      ap (piece_by ranges) (no_place (begins space o) ranges (λ m b f. not_begun space o b (λ s i.
      ⊎_elim
      (λ (same : m ≡ p.variable).
      let g : Some b ≡ Some p.range = sym f ∙ ap (slice_get ranges) same ∙ h.listed in
      let is : b ≡ p.range = cc in
      absurd (omega (arith, ap (λ (a : Varnode). a.offset) is, i, h.offset, from)))
      (λ (ne : m ≢ p.variable). alone p.variable m p.range b h.listed f ne (s ∙ sym h.space)
      (omega (arith, i, h.offset, from)) (omega (arith, i, h.offset, to)))
      (cases_eq m p.variable))))

  skips : (p : Piece) (space offset o j k : ℕ)
      → Begins ranges space offset p
      → offset < o
      → o + j ≡ offset + p.range.size
      → pieces_from ranges space o (j + k) ≡ pieces_from ranges space (o + j) k
  skips p space offset o zero k h from to =
      let y : 0 + k ≡ k = omega arith in
      let z : o + 0 ≡ o = omega arith in
      rw (y, z) refl
  skips p space offset o (suc j) k h from to =
      let y : suc j + k ≡ suc (j + k) = omega arith in
      let z : o + suc j ≡ suc o + j = omega arith in
      ap (pieces_from ranges space o) y
      ∙ ap (λ ps. ps ++ pieces_from ranges space (suc o) (j + k))
      (begins_none p space offset o h from (omega (arith, to)))
      ∙ skips p space offset (suc o) j k h (omega (arith, from)) (omega (arith, to))
      ∙ ap (λ x. pieces_from ranges space x k) (sym z)

  -- A row of variables is what begins in the bytes that it fills.
  fills : (space offset k : ℕ) (ps : List Piece)
      → IsRow ranges space offset ps (offset + k)
      → pieces_from ranges space offset k ≡ ps
  fills space offset zero [] row = refl
  fills space offset (suc k) [] row = absurd (omega (arith, row))
  fills space offset k (p ∷ ps) row =
      let n = p.range.size in
      let within : offset + n ≤ offset + k = row_rises ranges space (offset + n) ps (offset + k) row.1 in
      let first = row.0 in
      let j = n - 1 in
      let r = k - n in
      let is : k ≡ suc (j + r) = omega (arith, within, first.some) in
      let end : offset + k ≡ (offset + n) + r = omega (arith, within) in
      let behind : suc offset + j ≡ offset + n = omega (arith, first.some) in
      let R : ℕ → Type 0 = λ x. IsRow ranges space (offset + n) ps x in
      ap (pieces_from ranges space offset) is
      ∙ ap (λ qs. qs ++ pieces_from ranges space (suc offset) (j + r)) (begins_one p space offset first)
      ∙ ap (λ qs. p ∷ qs)
      (skips p space offset (suc offset) j r first (omega arith) behind
      ∙ ap (λ x. pieces_from ranges space x r) behind
      ∙ fills space (offset + n) r ps (subst R end row.1))

  -- Any row of variables that fills a range is its cover.
  pub cover_is : (v : Varnode) (ps : List Piece)
      → IsRow ranges v.space v.offset ps (v.offset + v.size)
      → cover ranges v ≡ ps
  cover_is v ps row = fills v.space v.offset v.size ps row

  -- So a range that a row fills has a cover.
  pub row_covers : (v : Varnode) (ps : List Piece)
      → IsRow ranges v.space v.offset ps (v.offset + v.size)
      → HasCover ranges v
  row_covers v ps row =
      let R : List Piece → Type 0 = λ qs. IsRow ranges v.space v.offset qs (v.offset + v.size) in
      subst R (sym (cover_is v ps row)) row

  -- The range of a variable is covered by this variable alone.
  pub cover_one : (n : ℕ) (v : Varnode)
      → slice_get ranges n ≡ Some v
      → cover ranges v ≡ record { variable = n; range = v } ∷ []
  cover_one n v e = cover_is v (record { variable = n; range = v } ∷ []) (one_row ranges n v e (some n v e))

  pub covers_one : (n : ℕ) (v : Varnode) → slice_get ranges n ≡ Some v → HasCover ranges v
  covers_one n v e = row_covers v (record { variable = n; range = v } ∷ []) (one_row ranges n v e (some n v e))
