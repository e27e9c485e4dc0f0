-- What is read for a range of several variables has the range's word.
use Rattle.std.proofs.Common.{◌≡◌, ℕ, ◌+◌, ◌-◌, ◌<◌, ◌≤◌, Bool, true, false, List, [], ◌∷◌, ◌++◌, reverse, Option, Some, refl, sym, ap, ◌∙◌, subst, arith}
use Rattle.std.specs.Prelude.{slice_get}
use Rattle.std.proofs.lemmas.List.{reverse-append}
use Rattle.bits_core.specs.declared.ops.Binary.TheVariants as B
use Rattle.bits_core.specs.Bytes.{word_of}
use Rattle.bits_core.specs.Value.{binary_value, concat}
use Rattle.pcode_model.specs.declared.listing.Varnode.{Varnode}
use Rattle.pcode_model.specs.declared.listing.Listing.{Listing}
use Rattle.pcode_model.specs.Memory.{Bytes}
use Rattle.pcode_model.specs.Spaces.{bytes_at, is_big, size_of}
use Rattle.pcode_model.specs.Step.{local_word, word_in_bytes}
use Rattle.range_words.specs.Ranges.{Holds, IsInside, IsTable}
use Rattle.cmeaning.specs.declared.tree.Expr.{Expr}
use Rattle.cmeaning.specs.declared.tree.Expr.TheVariants as E
use Rattle.cmeaning.specs.Value.{width_of}
use Rattle.cmeaning.proofs.Value.{value_of_concat, value_of_var, width_of_concat, width_of_var}
use Rattle.op_values.proofs.Means.{Means, two}
use Rattle.op_code.specs.Cover.{Begins, HasCover, IsRow, Piece, cover}
use Rattle.op_code.specs.Words.{joined, read_range}
use Rattle.op_code.proofs.Bytes.{word_split_big, word_split_little}
use Rattle.op_code.proofs.Rows.{row_rises}

-- the variables of the ranges have the ranges' widths, as far as these are widths
abbrev pub HaveWidths : List Varnode → (ℕ → ℕ) → Type 0
HaveWidths ranges ws =
    (n : ℕ) (a : Varnode) → slice_get ranges n ≡ Some a → (0 < a.size) × (a.size ≤ 16) → ws n ≡ a.size

-- ---- within the space

row_inside : (l : Listing) (ranges : List Varnode) (space offset : ℕ) (p : Piece) (ps : List Piece) (end : ℕ)
    → IsTable l ranges
    → IsRow ranges space offset (p ∷ ps) end
    → end ≤ size_of l space
row_inside l ranges space offset p [] end table row =
    let inside : p.range.offset + p.range.size ≤ size_of l p.range.space =
    table.inside p.variable p.range row.0.listed in
    let P : ℕ → Type 0 = λ s. p.range.offset + p.range.size ≤ size_of l s in
    omega (arith, row.1, row.0.offset, subst P row.0.space inside)
row_inside l ranges space offset p (q ∷ ps) end table row =
    row_inside l ranges space (offset + p.range.size) q ps end table row.1

row_within : (l : Listing) (ranges : List Varnode) (v : Varnode) (ps : List Piece)
    → IsTable l ranges
    → 0 < v.size
    → IsRow ranges v.space v.offset ps (v.offset + v.size)
    → IsInside l v
row_within l ranges v [] table some row = absurd (omega (arith, some, row))
row_within l ranges v (p ∷ ps) table some row =
    row_inside l ranges v.space v.offset p ps (v.offset + v.size) table row

-- A range with a cover lies within its space.
pub cover_inside : (l : Listing) (ranges : List Varnode) (v : Varnode)
    → IsTable l ranges
    → 0 < v.size
    → HasCover ranges v
    → IsInside l v
cover_inside l ranges v table some has = row_within l ranges v (cover ranges v) table some has

-- ---- from the last one on

-- Variables that fill so many bytes from an offset on, the last one first.
abbrev IsFall : List Varnode → (space offset : ℕ) → List Piece → (bytes : ℕ) → Type 0
IsFall ranges space offset [] k = k ≡ 0
IsFall ranges space offset (p ∷ ps) k =
    (j : ℕ) × ((k ≡ j + p.range.size) × (Begins ranges space (offset + j) p × IsFall ranges space offset ps j))

begins_at : (ranges : List Varnode) (space o u : ℕ) (p : Piece)
    → o ≡ u
    → Begins ranges space o p
    → Begins ranges space u p
begins_at ranges space o u p same h = let P : ℕ → Type 0 = λ x. Begins ranges space x p in subst P same h

-- one more before them
fall_more : (ranges : List Varnode) (space offset : ℕ) (qs : List Piece) (p : Piece) (k : ℕ)
    → Begins ranges space offset p
    → IsFall ranges space (offset + p.range.size) qs k
    → IsFall ranges space offset (qs ++ p ∷ []) (p.range.size + k)
fall_more ranges space offset [] p k h fall =
    (0, (omega (arith, fall), (begins_at ranges space offset (offset + 0) p (omega arith) h, refl)))
fall_more ranges space offset (q ∷ qs) p k h fall =
    let n = p.range.size in
    let j = fall.0 in (
      n + j,
      (
        omega (arith, fall.1.0),
        (
          begins_at ranges space (offset + n + j) (offset + (n + j)) q (omega arith) fall.1.1.0,
          fall_more ranges space offset qs p j h fall.1.1.1,
        ),
      ),
    )

fall_of_row : (ranges : List Varnode) (space offset : ℕ) (ps : List Piece) (k : ℕ)
    → IsRow ranges space offset ps (offset + k)
    → IsFall ranges space offset (reverse ps) k
fall_of_row ranges space offset [] k row = omega (arith, row)
fall_of_row ranges space offset (p ∷ ps) k row =
    let n = p.range.size in
    let rises = row_rises ranges space (offset + n) ps (offset + k) row.1 in
    let r = k - n in
    let end : offset + k ≡ (offset + n) + r = omega (arith, rises) in
    let all : n + r ≡ k = omega (arith, rises) in
    let R : ℕ → Type 0 = λ x. IsRow ranges space (offset + n) ps x in
    let F : List Piece → Type 0 = λ qs. IsFall ranges space offset qs k in
    let G : ℕ → Type 0 = λ x. IsFall ranges space offset (reverse ps ++ p ∷ []) x in
    subst F (sym (reverse-append (p ∷ []) ps))
    (subst G all (fall_more ranges space offset (reverse ps) p r row.0
    (fall_of_row ranges space (offset + n) ps r (subst R end row.1))))

-- ---- words

module _ (ws : ℕ → ℕ) (env : ℕ → Option ℕ) where
  concat_means : (u w a b : ℕ) (d e : Expr)
      → Means ws env d u a
      → Means ws env e w b
      → Means ws env (E.Concat d e) (u + w) (concat w a b)
  concat_means u w a b d e m n = record {
    width = width_of_concat ws d e ∙ ap (λ k. k + width_of ws e) m.width ∙ ap (λ k. u + k) n.width;
    value = two ws env (E.Concat d e) d e (λ u x v y. binary_value B.Piece u x v y (u + v)) u w a b
        (value_of_concat ws env d e) m n;
  }

module _
    (l : Listing)
    (ranges : List Varnode)
    (table : IsTable l ranges)
    (ws : ℕ → ℕ)
    (wide : HaveWidths ranges ws)
    (m : Bytes)
    (env : ℕ → Option ℕ)
    (holds : Holds l ranges m env)
  where
    -- the variable of a range has its word
    pub piece_means : (space offset : ℕ) (p : Piece)
        → Begins ranges space offset p
        → p.range.size ≤ 16
        → Means ws env (E.Var p.variable) p.range.size (word_in_bytes l space offset p.range.size m)
    piece_means space offset p h few = record {
      width = width_of_var ws p.variable ∙ wide p.variable p.range h.listed (h.some, few);
      value = value_of_var ws env p.variable ∙ holds p.variable p.range h.listed
          ∙ ap (λ s. Some (word_in_bytes l s p.range.offset p.range.size m)) h.space
          ∙ ap (λ o. Some (word_in_bytes l space o p.range.size m)) h.offset;
    }

    module _ (space : ℕ) where
      abbrev word : Bool → (offset bytes : ℕ) → ℕ
      word big o k = word_of big (bytes_at (size_of l space) (m space) o k)

      ordered_means : (big : Bool) (offset : ℕ) (p : Piece)
          → is_big l space ≡ big
          → Begins ranges space offset p
          → p.range.size ≤ 16
          → Means ws env (E.Var p.variable) p.range.size (word big offset p.range.size)
      ordered_means big offset p order h few =
          let M : Bool → Type 0 = λ b. Means ws env (E.Var p.variable) p.range.size (word b offset p.range.size) in
          subst M order (piece_means space offset p h few)

      as_one : (e : Expr) (k n : ℕ) (a b : ℕ) → k ≡ n → a ≡ b → Means ws env e k a → Means ws env e n b
      as_one e k n a b wide same means = record {
        width = means.width ∙ wide;
        value = means.value ∙ ap (λ x. Some x) same;
      }

      joined_big : (offset : ℕ) (ps : List Piece) (k : ℕ)
          → is_big l space ≡ true
          → IsRow ranges space offset ps (offset + k)
          → 0 < k
          → k ≤ 16
          → offset + k ≤ size_of l space
          → Means ws env (joined ps) k (word true offset k)
      joined_big offset [] k order row some few inside = absurd (omega (arith, row, some))
      joined_big offset (p ∷ []) k order row some few inside =
          let n : p.range.size ≡ k = omega (arith, row.1) in
          as_one (E.Var p.variable) p.range.size k (word true offset p.range.size) (word true offset k) n
          (ap (word true offset) n) (ordered_means true offset p order row.0 (omega (arith, n, few)))
      joined_big offset (p ∷ q ∷ ps) k order row some few inside =
          let n = p.range.size in
          let rises = row_rises ranges space (offset + n + q.range.size) ps (offset + k) row.1.1 in
          let r = k - n in
          let all : n + r ≡ k = omega (arith, rises) in
          let end : offset + k ≡ (offset + n) + r = omega (arith, all) in
          let R : ℕ → Type 0 = λ x. IsRow ranges space (offset + n) (q ∷ ps) x in
          let d = E.Var p.variable in
          let e = joined (q ∷ ps) in
          let low = joined_big (offset + n) (q ∷ ps) r order (subst R end row.1)
          (omega (arith, all, rises, row.1.0.some)) (omega (arith, all, few)) (omega (arith, end, inside)) in
          let high = ordered_means true offset p order row.0 (omega (arith, all, few)) in
          as_one (E.Concat d e) (n + r) k (concat r (word true offset n) (word true (offset + n) r))
          (word true offset k)
          all
          (sym (word_split_big (size_of l space) (m space) offset n r (omega (arith, all, inside)))
          ∙ ap (word true offset) all)
          (concat_means ws env n r (word true offset n) (word true (offset + n) r) d e high low)

      joined_little : (offset : ℕ) (ps : List Piece) (k : ℕ)
          → is_big l space ≡ false
          → IsFall ranges space offset ps k
          → 0 < k
          → k ≤ 16
          → offset + k ≤ size_of l space
          → Means ws env (joined ps) k (word false offset k)
      joined_little offset [] k order fall some few inside = absurd (omega (arith, fall, some))
      joined_little offset (p ∷ []) k order fall some few inside =
          let n : p.range.size ≡ k = omega (arith, fall.1.0, fall.1.1.1) in
          let first = begins_at ranges space (offset + fall.0) offset p (omega (arith, fall.1.1.1)) fall.1.1.0 in
          as_one (E.Var p.variable) p.range.size k (word false offset p.range.size) (word false offset k) n
          (ap (word false offset) n) (ordered_means false offset p order first (omega (arith, n, few)))
      joined_little offset (p ∷ q ∷ ps) k order fall some few inside =
          let n = p.range.size in
          let j = fall.0 in
          let all : k ≡ j + n = fall.1.0 in
          let d = E.Var p.variable in
          let e = joined (q ∷ ps) in
          let low = joined_little offset (q ∷ ps) j order fall.1.1.1
          (omega (arith, fall.1.1.1.1.0, fall.1.1.1.1.1.0.some)) (omega (arith, all, few))
          (omega (arith, all, inside)) in
          let high = ordered_means false (offset + j) p order fall.1.1.0 (omega (arith, all, few)) in
          as_one (E.Concat d e) (n + j) k (concat j (word false (offset + j) n) (word false offset j))
          (word false offset k)
          (omega (arith, all))
          (sym (word_split_little (size_of l space) (m space) offset j n (omega (arith, all, inside)))
          ∙ ap (word false offset) (sym all))
          (concat_means ws env n j (word false (offset + j) n) (word false offset j) d e high low)

    read_by : (big : Bool) (v : Varnode)
        → is_big l v.space ≡ big
        → HasCover ranges v
        → 0 < v.size
        → v.size ≤ 16
        → Means ws env (read_range big ranges v) v.size (word v.space big v.offset v.size)
    read_by true v order has some few =
        joined_big v.space v.offset (cover ranges v) v.size order has some few
        (cover_inside l ranges v table some has)
    read_by false v order has some few =
        joined_little v.space v.offset (reverse (cover ranges v)) v.size order
        (fall_of_row ranges v.space v.offset (cover ranges v) v.size has) some few
        (cover_inside l ranges v table some has)

    -- What is read for a range has the range's width and its word.
    pub read_means : (v : Varnode)
        → HasCover ranges v
        → 0 < v.size
        → v.size ≤ 16
        → Means ws env (read_range (is_big l v.space) ranges v) v.size (local_word l v m)
    read_means v has some few = read_by (is_big l v.space) v refl has some few
