-- Where the variables stand for a listing's atoms, each range that is accessed has a cover.
use Rattle.std.proofs.Common.{◌≡◌, ◌≢◌, ℕ, zero, suc, ◌+◌, ◌-◌, ◌<◌, ◌≤◌, List, [], ◌∷◌, Some, refl, sym, ap, ◌∙◌, subst, inl, inr, ⊎_elim, ◌⊎◌, arith}
use Rattle.std.specs.Prelude.{slice_get, ℤ, pos, ◌+ℤ◌}
use Rattle.std.proofs.lemmas.Bool.{cases_eq, cases_lt}
use Rattle.std.proofs.lemmas.Int.{ints}
use Rattle.pcode_model.specs.declared.listing.Varnode.{Varnode}
use Rattle.pcode_model.specs.declared.listing.Listing.{Listing}
use Rattle.pcode_model.specs.declared.storage.ParamStorage.{ParamStorage}
use Rattle.pcode_model.specs.declared.storage.ParamStorage.TheVariants as P
use Rattle.pcode_model.specs.declared.tables.TableAt.{TableAt}
use Rattle.pcode_model.specs.declared.atoms.Atom.{Atom}
use Rattle.pcode_model.specs.declared.frame.Frame.{Frame}
use Rattle.pcode_model.specs.Atoms.{Accesses, AreAtoms, Area, IsAccessed, IsCut, Registers, Uniques, area_of, offset_of, range, varnode}
use Rattle.pcode_model.specs.Flow.{IsIn}
use Rattle.pcode_model.specs.Spaces.{register_space, unique_space}
use Rattle.range_words.specs.Ranges.{IsTable}
use Rattle.op_code.specs.Cover.{Begins, HasCover, IsRow, Piece}
use Rattle.op_code.specs.Ranges.{HasAtoms}
use Rattle.op_code.proofs.Apart.{registers_stacked, registers_uniques, uniques_stacked}
use Rattle.op_code.proofs.Rows.{AreSome, row_covers}

-- where a member stands
place_in : {A : Type 0} (x : A) (xs : List A) → IsIn x xs → (n : ℕ) × (slice_get xs n ≡ Some x)
place_in x [] is = absurd is
place_in x (y ∷ ys) (inl e) = (0, ap (λ z. Some z) (sym e))
place_in x (y ∷ ys) (inr is) = let n = place_in x ys is in (suc n.0, n.1)

-- ---- from cut to cut

module _
    (IsPiece : (offset bytes : ℕ) → Type 0)
    (tell : (o k : ℕ) → IsPiece o k ⊎ (IsPiece o k → ⊥))
  where
    abbrev HasPiece : (offset most : ℕ) → Type 0
    HasPiece o j = (k : ℕ) × ((0 < k) × ((k ≤ j) × IsPiece o k))

    abbrev HasNone : (offset most : ℕ) → Type 0
    HasNone o j = (k : ℕ) → 0 < k → k ≤ j → IsPiece o k → ⊥

    has_piece : (o j : ℕ) → HasPiece o j ⊎ HasNone o j
    has_piece o zero = inr (λ k some most p. absurd (omega (arith, some, most)))
    has_piece o (suc j) = ⊎_elim
        (λ found. inl (found.0, (found.1.0, (omega (arith, found.1.1.0), found.1.1.1))))
        (λ none. ⊎_elim
        (λ p. inl (suc j, (omega arith, (omega arith, p))))
        (λ not. inr (λ k some most p. ⊎_elim
        (λ (less : k < suc j). none k some (omega (arith, less)) p)
        (λ (more : suc j ≤ k). let same : k ≡ suc j = omega (arith, most, more) in not (subst (IsPiece o) same p))
        (cases_lt k (suc j))))
        (tell o (suc j)))
        (has_piece o j)

    module _
        (ranges : List Varnode)
        (space start end : ℕ)
        (named : (o k : ℕ) → IsPiece o k → IsIn (varnode space o k) ranges)
        (Cut : ℕ → Type 0)
        (makes : (o k : ℕ)
        → 0 < k
        → start ≤ o
        → o + k ≤ end
        → Cut o
        → Cut (o + k)
        → ((d : ℕ) → 0 < d → d < k → Cut (o + d) → ⊥)
        → IsPiece o k)
        (ends : (o k : ℕ) → IsPiece o k → Cut (o + k))
        (last : Cut end)
      where
        -- Where no piece begins at a cut, no cut follows.
        no_cut : (o r : ℕ)
            → start ≤ o
            → o + r ≤ end
            → Cut o
            → HasNone o r
            → (d : ℕ)
            → 0 < d
            → d ≤ r
            → Cut (o + d)
            → ⊥
        no_cut o zero from to cut none d some most next = absurd (omega (arith, some, most))
        no_cut o (suc r) from to cut none d some most next =
            let before = no_cut o r from (omega (arith, to)) cut (λ k s m p. none k s (omega (arith, m)) p) in
            ⊎_elim
            (λ (less : d < suc r). before d some (omega (arith, less)) next)
            (λ (more : suc r ≤ d). none d some most (makes o d some from (omega (arith, most, to)) cut next
            (λ c s lt here. before c s (omega (arith, lt, most)) here)))
            (cases_lt d (suc r))

        row_to : (fuel r o : ℕ)
            → r ≤ fuel
            → start ≤ o
            → o + r ≡ end
            → Cut o
            → (ps : List Piece) × IsRow ranges space o ps end
        row_to zero r o small from all cut = ([], omega (arith, small, all))
        row_to (suc fuel) r o small from all cut = ⊎_elim
            (λ (none : r ≤ 0). ([], omega (arith, none, all)))
            (λ (some : 0 < r). ⊎_elim
            (λ found.
            let k = found.0 in
            let most : k ≤ r = found.1.1.0 in
            let more : 0 < k = found.1.0 in
            let n = place_in (varnode space o k) ranges (named o k found.1.1.1) in
            let rest = row_to fuel (r - k) (o + k) (omega (arith, small, most, more)) (omega (arith, from))
            (omega (arith, all, most)) (ends o k found.1.1.1) in
            let p : Piece = record { variable = n.0; range = varnode space o k } in
            let first : Begins ranges space o p = record { listed = n.1; space = refl; offset = refl; some = more } in
            (p ∷ rest.0, (first, rest.1)))
            (λ none. absurd (no_cut o r from (omega (arith, all)) cut none r some (omega arith)
            (subst Cut (sym all) last)))
            (has_piece o r))
            (turn (cases_lt 0 r))
          where
            turn : (0 < r) ⊎ (r ≤ 0) → (r ≤ 0) ⊎ (0 < r)
            turn (inl a) = inr a
            turn (inr b) = inl b

-- ---- the atoms of an area

-- The area's ranges are those of a space, whose offset 0 is this offset of the area.
module _
    (l : Listing)
    (t : List TableAt)
    (f : Frame)
    (atoms : List Atom)
    (are : AreAtoms l t f atoms)
    (ranges : List Varnode)
    (area : Area)
    (space : ℕ)
    (at : ℕ → ParamStorage)
    (base : ℤ)
    (area_is : (o : ℕ) → area_of (at o) ≡ area)
    (offset_is : (o : ℕ) → offset_of (at o) ≡ pos o +ℤ base)
    (tell_one : (a : Atom) (o k : ℕ) → (range (at o) k ≡ a) ⊎ (range (at o) k ≢ a))
    (named : (o k : ℕ) → IsIn (range (at o) k) atoms → IsIn (varnode space o k) ranges)
  where
    tell_in : (xs : List Atom) (o k : ℕ) → IsIn (range (at o) k) xs ⊎ (IsIn (range (at o) k) xs → ⊥)
    tell_in [] o k = inr (λ is. is)
    tell_in (x ∷ xs) o k = ⊎_elim
        (λ same. inl (inl same))
        (λ ne. ⊎_elim (λ is. inl (inr is)) (λ not. inr (λ is. ⊎_elim ne not is)) (tell_in xs o k))
        (tell_one x o k)

    abbrev CutAt : ℕ → Type 0
    CutAt o = IsCut l t f area (pos o +ℤ base)

    ahead : (o d : ℕ) → offset_of (at o) +ℤ pos d ≡ pos (o + d) +ℤ base
    ahead o d = let e = offset_is o in omega (arith, ints)

    cut_here : (o : ℕ) → CutAt o → IsCut l t f (area_of (at o)) (offset_of (at o))
    cut_here o cut =
        let A : Area → Type 0 = λ a. IsCut l t f a (offset_of (at o)) in
        let Z : ℤ → Type 0 = λ z. IsCut l t f area z in
        subst A (sym (area_is o)) (subst Z (sym (offset_is o)) cut)

    cut_ahead : (o d : ℕ) → CutAt (o + d) → IsCut l t f (area_of (at o)) (offset_of (at o) +ℤ pos d)
    cut_ahead o d cut =
        let A : Area → Type 0 = λ a. IsCut l t f a (offset_of (at o) +ℤ pos d) in
        let Z : ℤ → Type 0 = λ z. IsCut l t f area z in
        subst A (sym (area_is o)) (subst Z (sym (ahead o d)) cut)

    cut_back : (o d : ℕ) → IsCut l t f (area_of (at o)) (offset_of (at o) +ℤ pos d) → CutAt (o + d)
    cut_back o d cut =
        let A : Area → Type 0 = λ a. IsCut l t f a (offset_of (at o) +ℤ pos d) in
        let Z : ℤ → Type 0 = λ z. IsCut l t f area z in
        subst Z (ahead o d) (subst A (area_is o) cut)

    module _ (offset size : ℕ) (accessed : IsAccessed l t f (range (at offset) size)) where
      makes : (o k : ℕ)
          → 0 < k
          → offset ≤ o
          → o + k ≤ offset + size
          → CutAt o
          → CutAt (o + k)
          → ((d : ℕ) → 0 < d → d < k → CutAt (o + d) → ⊥)
          → IsIn (range (at o) k) atoms
      makes o k some from to cut next whole =
          let back : offset + (o - offset) ≡ o = omega (arith, from) in
          (are.each (range (at o) k)).1 (record {
            some = some;
            begins = cut_here o cut;
            ends = cut_ahead o k next;
            whole = λ d s lt here. whole d s lt (cut_back o d here);
            access = range (at offset) size;
            accessed = accessed;
            inside = (
              area_is o ∙ sym (area_is offset),
              (
                o - offset,
                (
                  offset_is o ∙ ap (λ n. pos n +ℤ base) (sym back) ∙ sym (ahead offset (o - offset)),
                  omega (arith, from, to),
                ),
              ),
            );
          })

      ends : (o k : ℕ) → IsIn (range (at o) k) atoms → CutAt (o + k)
      ends o k is = let a = (are.each (range (at o) k)).0 is in cut_back o k a.ends

      first : CutAt offset
      first = (range (at offset) size, (inl accessed, (area_is offset, inl (sym (offset_is offset)))))

      last : CutAt (offset + size)
      last = (range (at offset) size, (inl accessed, (area_is offset, inr (sym (ahead offset size)))))

      -- What is accessed of the area has a row.
      pub accessed_row : (ps : List Piece) × IsRow ranges space offset ps (offset + size)
      accessed_row =
          row_to (λ o k. IsIn (range (at o) k) atoms) (tell_in atoms) ranges space offset (offset + size) named CutAt
          makes ends last size size offset (omega arith) (omega arith) refl first

-- ---- the two spaces

register_same : (m n : ℕ) → P.Register m ≡ P.Register n → m ≡ n
register_same m n e = cc

unique_same : (m n : ℕ) → P.Unique m ≡ P.Unique n → m ≡ n
unique_same m n e = cc

-- ranges by their storages
module _ (at : ℕ → ParamStorage) (same : (m n : ℕ) → at m ≡ at n → m ≡ n) (o k p n : ℕ) where
  tell_range : (range (at o) k ≡ range (at p) n) ⊎ (range (at o) k ≢ range (at p) n)
  tell_range = ⊎_elim
      (λ (e : o ≡ p). ⊎_elim
      (λ (g : k ≡ n). inl (ap (λ q. range (at q) k) e ∙ ap (λ j. range (at p) j) g))
      (λ (ne : k ≢ n). inr (λ h. ne (ap (λ (a : Atom). a.size) h)))
      (cases_eq k n))
      (λ (ne : o ≢ p). inr (λ h. ne (same o p (ap (λ (a : Atom). a.storage) h))))
      (cases_eq o p)

tell_register : (s : ParamStorage) (n o k : ℕ)
    → (range (P.Register o) k ≡ range s n) ⊎ (range (P.Register o) k ≢ range s n)
tell_register (P.Register p) n o k = tell_range P.Register register_same o k p n
tell_register (P.Unique p) n o k = inr (λ h. registers_uniques (ap (λ (a : Atom). area_of a.storage) h))
tell_register (P.Stack z) n o k = inr (λ h. registers_stacked (ap (λ (a : Atom). area_of a.storage) h))

tell_unique : (s : ParamStorage) (n o k : ℕ)
    → (range (P.Unique o) k ≡ range s n) ⊎ (range (P.Unique o) k ≢ range s n)
tell_unique (P.Register p) n o k = inr (λ h. registers_uniques (sym (ap (λ (a : Atom). area_of a.storage) h)))
tell_unique (P.Unique p) n o k = tell_range P.Unique unique_same o k p n
tell_unique (P.Stack z) n o k = inr (λ h. uniques_stacked (ap (λ (a : Atom). area_of a.storage) h))

-- Each range of the register space and of the unique space that is accessed at a reached place has a cover.
pub accessed_cover : (l : Listing) (t : List TableAt) (f : Frame) (atoms : List Atom) (ranges : List Varnode)
    → AreAtoms l t f atoms
    → HasAtoms l atoms ranges
    → IsTable l ranges
    → AreSome ranges
    → (v : Varnode)
    → Accesses l t v
    → HasCover ranges v
accessed_cover l t f atoms ranges are has table some v accesses = ⊎_elim
    (λ (in_registers : v.space ≡ register_space l).
    let A : ℕ → Type 0 = λ s. Accesses l t (varnode s v.offset v.size) in
    let R : ℕ → Type 0 = λ s. (ps : List Piece) × IsRow ranges s v.offset ps (v.offset + v.size) in
    let row = accessed_row l t f atoms are ranges Registers (register_space l) P.Register (pos 0) (λ o. refl) (λ o. omega (arith, ints))
    (λ a o k. tell_register a.storage a.size o k) has.registers v.offset v.size (subst A in_registers accesses) in
    let here = subst R (sym in_registers) row in
    row_covers l ranges table some v here.0 here.1)
    (λ (in_uniques : v.space ≡ unique_space l).
    let A : ℕ → Type 0 = λ s. Accesses l t (varnode s v.offset v.size) in
    let R : ℕ → Type 0 = λ s. (ps : List Piece) × IsRow ranges s v.offset ps (v.offset + v.size) in
    let row = accessed_row l t f atoms are ranges Uniques (unique_space l) P.Unique (pos 0) (λ o. refl) (λ o. omega (arith, ints))
    (λ a o k. tell_unique a.storage a.size o k) has.uniques v.offset v.size (subst A in_uniques accesses) in
    let here = subst R (sym in_uniques) row in
    row_covers l ranges table some v here.0 here.1)
    accesses.is_local
