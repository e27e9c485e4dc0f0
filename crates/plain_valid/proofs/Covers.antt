-- The words of ranges that are made of several variables obey the rules, and so do the parts that are assigned.
use Rattle.std.proofs.Common.{◌≡◌, ℕ, zero, suc, Option, ◌+◌, ◌-◌, ◌<◌, ◌≤◌, ◌^◌, Bool, true, false, List, [], ◌∷◌, ◌++◌, length, map, reverse, Some, refl, sym, subst, arith}
use Rattle.std.specs.Prelude.{slice_get}
use Rattle.std.proofs.lemmas.List.{reverse-append}
use Rattle.std.proofs.lemmas.Option.{slice_get_within}
use Rattle.bits_core.specs.declared.ops.Binary.TheVariants as B
use Rattle.pcode_model.specs.declared.listing.Varnode.{Varnode}
use Rattle.pcode_model.specs.declared.listing.Listing.{Listing}
use Rattle.pcode_model.specs.Spaces.{first_ram, is_big}
use Rattle.range_words.specs.Own.{frame_range}
use Rattle.cmeaning.specs.declared.tree.Expr.{Expr}
use Rattle.cmeaning.specs.declared.tree.Expr.TheVariants as E
use Rattle.cmeaning.specs.declared.tree.Stmt.{Stmt}
use Rattle.cmeaning.specs.declared.tree.Stmt.TheVariants as S
use Rattle.blockcode.specs.declared.code.Exit.{Exit}
use Rattle.op_values.specs.Nodes.{address_node, constant, nearest, part_node}
use Rattle.op_values.proofs.Means.{nearest_is}
use Rattle.op_code.specs.declared.covers.Piece.{Piece}
use Rattle.op_code.specs.Cover.{HasCover, IsRow, cover}
use Rattle.op_code.specs.Form.{HasPointer, IsFramed, IsNarrow}
use Rattle.op_code.specs.Made.{above, above_stack, frame_word, offset_bytes, range_word}
use Rattle.op_code.specs.Words.{assigns_part, bytes_below, joined, read_range}
use Rattle.op_code.proofs.Rows.{row_rises}
use Rattle.op_code.proofs.Sees.{Setting}
use Rattle.plain_valid.proofs.Shapes.{Fits, as_wide, concat_fits, constant_fits, deeper, variable_fits}
use Rattle.plain_valid.proofs.Expressions.{binary_fits, part_node_fits}
use Rattle.plain_valid.proofs.EachKind.{IsVariable, Kinds}

-- ---- variables of so many bytes in all

-- the variable of a range that has a byte
pub record IsPiece (ranges : List Varnode) (p : Piece) : Type 0 where
  pub listed : slice_get ranges p.variable ≡ Some p.range
  pub some : 0 < p.range.size

-- These variables have so many bytes in all.
abbrev pub Fill : List Varnode → List Piece → ℕ → Type 0
Fill ranges [] w = w ≡ 0
Fill ranges (p ∷ ps) w = (rest : ℕ) × ((w ≡ p.range.size + rest) × (IsPiece ranges p × Fill ranges ps rest))

module _ (ranges : List Varnode) where
  -- The variables of a row have those from its offset to its end.
  pub row_fills : (space offset k : ℕ) (ps : List Piece)
      → IsRow ranges space offset ps (offset + k)
      → Fill ranges ps k
  row_fills space offset k [] row = omega (arith, row)
  row_fills space offset k (p ∷ ps) row =
      let n = p.range.size in
      let rises = row_rises ranges space (offset + n) ps (offset + k) row.1 in
      let r = k - n in
      let end : offset + k ≡ (offset + n) + r = omega (arith, rises) in
      let R : ℕ → Type 0 = λ x. IsRow ranges space (offset + n) ps x in (
        r,
        (
          omega (arith, rises),
          (record { listed = row.0.listed; some = row.0.some }, row_fills space (offset + n) r ps (subst R end row.1)),
        ),
      )

  -- with one more behind them
  fill_more : (ps : List Piece) (q : Piece) (w k : ℕ)
      → k ≡ w + q.range.size
      → Fill ranges ps w
      → IsPiece ranges q
      → Fill ranges (ps ++ q ∷ []) k
  fill_more [] q w k is fill h = (0, (omega (arith, is, fill), (h, refl)))
  fill_more (p ∷ ps) q w k is fill h =
      let rest = fill.0 + q.range.size in
      (rest, (omega (arith, is, fill.1.0), (fill.1.1.0, fill_more ps q fill.0 rest refl fill.1.1.1 h)))

  -- as many the other way round
  fill_back : (ps : List Piece) (w : ℕ) → Fill ranges ps w → Fill ranges (reverse ps) w
  fill_back [] w fill = fill
  fill_back (p ∷ ps) w fill =
      let F : List Piece → Type 0 = λ qs. Fill ranges qs w in
      subst F (sym (reverse-append (p ∷ []) ps))
      (fill_more (reverse ps) p fill.0 w (omega (arith, fill.1.0)) (fill_back ps fill.0 fill.1.1.1) fill.1.1.0)

  -- at most as many variables as bytes
  fill_few : (ps : List Piece) (w : ℕ) → Fill ranges ps w → length ps ≤ w
  fill_few [] w fill = omega arith
  fill_few (p ∷ ps) w fill =
      let few = fill_few ps fill.0 fill.1.1.1 in
      omega (arith, fill.1.0, fill.1.1.0.some, few)

module _
    (l : Listing)
    (ranges : List Varnode)
    (ws : ℕ → ℕ)
    (n : ℕ)
    (set : Setting l ranges ws)
    (few : n ≤ 2 ^ 32)
    (known : length ranges ≤ n)
  where
    -- The variable of a range has the range's width.
    pub piece_variable : (p : Piece) → IsPiece ranges p → p.range.size ≤ 16 → IsVariable ws n p.variable p.range.size
    piece_variable p h small = record {
      within = omega (arith, slice_get_within ranges p.variable p.range h.listed, known);
      width = set.widths p.variable p.range h.listed (h.some, small);
      some = h.some;
    }

    piece_fits : (p : Piece) → IsPiece ranges p → p.range.size ≤ 16 → Fits ws n (E.Var p.variable) p.range.size 1
    piece_fits p h small =
        let is = piece_variable p h small in
        variable_fits ws n p.variable p.range.size is.within few is.width is.some

    -- ---- reading

    -- a concatenation is as deep as it has variables
    joined_fits : (ps : List Piece) (w : ℕ)
        → Fill ranges ps w
        → 0 < w
        → w ≤ 16
        → Fits ws n (joined ps) w (length ps)
    joined_fits [] w fill some small = absurd (omega (arith, fill, some))
    joined_fits (p ∷ []) w fill some small =
        let size : p.range.size ≡ w = omega (arith, fill.1.0, fill.1.1.1) in
        as_wide ws n (E.Var p.variable) p.range.size w 1 size
        (piece_fits p fill.1.1.0 (omega (arith, size, small)))
    joined_fits (p ∷ q ∷ ps) w fill some small =
        let r = fill.0 in
        let d = E.Var p.variable in
        let first = piece_fits p fill.1.1.0 (omega (arith, fill.1.0, small)) in
        let less = fill_few ranges (q ∷ ps) r fill.1.1.1 in
        concat_fits ws n p.range.size r w (length (q ∷ ps)) d (joined (q ∷ ps)) fill.1.0 small
        (omega (arith, less, fill.1.0, small))
        (deeper ws n d p.range.size 1 (length (q ∷ ps)) (omega arith) first)
        (joined_fits (q ∷ ps) r fill.1.1.1 (omega (arith, less)) (omega (arith, fill.1.0, small)))

    by_fill : (ps : List Piece) (w : ℕ) → Fill ranges ps w → 0 < w → w ≤ 16 → Fits ws n (joined ps) w 16
    by_fill ps w fill some small =
        deeper ws n (joined ps) w (length ps) 16 (omega (arith, fill_few ranges ps w fill, small))
        (joined_fits ps w fill some small)

    by_order : (big : Bool) (v : Varnode)
        → IsNarrow v
        → Fill ranges (cover ranges v) v.size
        → Fits ws n (read_range big ranges v) v.size 16
    by_order true v narrow fill = by_fill (cover ranges v) v.size fill narrow.0 narrow.1
    by_order false v narrow fill =
        by_fill (reverse (cover ranges v)) v.size (fill_back ranges (cover ranges v) v.size fill) narrow.0 narrow.1

    -- The word of a range that has a cover obeys the rules, with the range's width.
    pub word_fits : (v : Varnode) → IsNarrow v → HasCover ranges v → Fits ws n (range_word l ranges v) v.size 16
    word_fits v narrow has =
        by_order (is_big l v.space) v narrow (row_fills ranges v.space v.offset v.size (cover ranges v) has)

    -- ---- the frame, and what lies above a range's word

    -- So many bytes of the frame.
    pub frame_fits : (c k : ℕ)
        → (0 < k) × (k ≤ 16)
        → IsFramed l ranges c k
        → Fits ws n (frame_word l ranges c k) k 16
    frame_fits c k narrow is = word_fits (frame_range l c k) narrow is.cover

    -- The word so many bytes above that of a range.
    pub above_fits : (v : Varnode) (k : ℕ)
        → IsNarrow v
        → HasCover ranges v
        → Fits ws n (above l ranges v k) v.size 18
    above_fits v zero narrow has =
        deeper ws n (range_word l ranges v) v.size 16 18 (omega arith) (word_fits v narrow has)
    above_fits v (suc k) narrow has =
        let e = constant v.size (suc k) in
        binary_fits ws n v.size 0 v.size v.size (range_word l ranges v) e narrow.0 narrow.1 (word_fits v narrow has)
        (deeper ws n e v.size 1 16 (omega arith) (constant_fits ws n v.size (suc k) narrow.0 narrow.1)) B.Add
        narrow.0 narrow.1 (refl, refl)

    -- Where memory lies above the stack pointer: the first ram space has words of one byte.
    pub pointer_fits : (k : ℕ) (has : HasPointer l ranges)
        → Fits ws n (above_stack l ranges l.stack k) has.pointer.size 18
    pointer_fits k has =
        let sp : Varnode = has.pointer in
        let e : Expr = above l ranges sp k in
        let R : ℕ → Type 0 = λ w. Fits ws n (address_node (offset_bytes l (first_ram l)) w sp.size e) sp.size 18 in
        let O : Option Varnode → Type 0 = λ o. Fits ws n (above_stack l ranges o k) sp.size 18 in
        subst O (sym has.is) (subst R (sym has.word) (above_fits sp k has.given.1.0 has.given.1.1))

    -- ---- writing

    module _
        (blocks : ℕ)
        (P : List Stmt → Type 0)
        (B : List Stmt → Exit → Type 0)
        (kinds : Kinds l ranges ws n blocks P B)
        (big : Bool)
        (v : Varnode)
        (narrow : IsNarrow v)
        (local : ℕ)
        (is : Fits ws n (E.Var local) v.size 16)
      where
        -- Variables of at most 16 bytes in all are assigned parts.
        pub parts_right : (ps : List Piece) (w : ℕ)
            → Fill ranges ps w
            → w ≤ 16
            → P (map (assigns_part big v local) ps)
        parts_right [] w fill small = kinds.none
        parts_right (p ∷ ps) w fill small =
            let h = fill.1.1.0 in
            let size : p.range.size ≤ 16 = omega (arith, fill.1.0, small) in
            let below = bytes_below big v p.range in
            let e = part_node (nearest v.size) below p.range.size (E.Var local) in
            let F : ℕ → Type 0 = λ u. Fits ws n (part_node u below p.range.size (E.Var local)) p.range.size 18 in
            kinds.append (S.Assign p.variable e ∷ []) (map (assigns_part big v local) ps)
            (kinds.assign p.variable p.range.size 18 e (piece_variable p h size)
            (subst F (sym (nearest_is v.size narrow.0 narrow.1))
            (part_node_fits ws n v.size below (E.Var local) is p.range.size h.some size)))
            (parts_right ps fill.0 fill.1.1.1 (omega (arith, fill.1.0, small)))
