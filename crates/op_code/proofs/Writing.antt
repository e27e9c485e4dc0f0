-- What is done to write a range of several variables writes its word.
use Rattle.std.proofs.Common.{◌≡◌, ◌≢◌, ℕ, ◌+◌, ◌-◌, ◌/◌, ◌<◌, ◌≤◌, Bool, true, false, List, [], ◌∷◌, ◌++◌, length, map, take, drop, Some, None, refl, sym, ap, ◌∙◌, subst, arith, take-append-drop, drop-drop, length-drop, length-take-le, drop_of_length-le}
use Rattle.std.specs.Prelude.{slice_get}
use Rattle.std.proofs.Math.Nat.{mod-lt}
use Rattle.bits_core.proofs.Limits.{limit_pos}
use Rattle.bits_core.specs.Bytes.{place_of_part, word_bytes}
use Rattle.bits_core.specs.Value.{limit, part}
use Rattle.laws.proofs.Bytes.{length-word_bytes, word_bytes-part}
use Rattle.pcode_model.specs.declared.listing.Varnode.{Varnode}
use Rattle.pcode_model.specs.declared.listing.Listing.{Listing}
use Rattle.pcode_model.specs.Memory.{Bytes}
use Rattle.pcode_model.specs.Spaces.{each_at, is_big, put_in, size_of}
use Rattle.pcode_model.specs.Step.{bytes_in, with_word}
use Rattle.pcode_model.specs.World.{unless_over}
use Rattle.pcode_laws.proofs.Puts.{put_at, put_else}
use Rattle.range_words.specs.Ranges.{Holds, IsInside, IsTable}
use Rattle.range_words.proofs.Variables.{holds_other, holds_written}
use Rattle.cmeaning.specs.declared.tree.Expr.{Expr}
use Rattle.cmeaning.specs.declared.tree.Expr.TheVariants as E
use Rattle.cmeaning.specs.declared.tree.Stmt.{Stmt}
use Rattle.cmeaning.specs.declared.tree.Stmt.TheVariants as S
use Rattle.cmeaning.specs.Value.{value_of}
use Rattle.cmeaning.specs.Do.{Local, assigned, do_simple}
use Rattle.cmeaning.specs.Do as code
use Rattle.cmeaning.proofs.Do.{do_assign}
use Rattle.cmeaning.proofs.Value.{value_of_var, width_of_var}
use Rattle.blockcode.proofs.Straight.{run_all}
use Rattle.op_values.specs.Nodes.{nearest, part_node}
use Rattle.op_values.proofs.Means.{Means, nearest_is}
use Rattle.op_values.proofs.Parts.{part_means}
use Rattle.op_code.specs.Cover.{Begins, HasCover, IsRow, Piece, cover}
use Rattle.op_code.specs.Words.{assigns_part, bytes_below, parts_by, target, target_by, write_range}
use Rattle.op_code.proofs.Bytes.{each_split}
use Rattle.op_code.proofs.Reading.{cover_inside}
use Rattle.op_code.proofs.Rows.{row_rises}

-- this is none of their variables
abbrev pub IsOther : List Piece → ℕ → Type 0
IsOther [] j = Unit {0}
IsOther (p ∷ ps) j = (j ≢ p.variable) × IsOther ps j

-- From the one state to the other the variables of ranges have come to hold the words of these bytes, and no other
-- variables have changed, but for one.
pub record Wrote (l : Listing) (ranges : List Varnode) (ps : List Piece) (but : ℕ) (m : Bytes) (x y : Local) : Type
    0 where
  pub world : y.world ≡ x.world
  pub left : y.left ≡ x.left
  pub holds : Holds l ranges m y.env
  pub kept : (j : ℕ) → j ≢ but → IsOther ps j → y.env j ≡ x.env j

-- ---- places in a word

place_within : (big : Bool) (w k n : ℕ) → k + n ≤ w → place_of_part big w k n + n ≤ w
place_within true w k n h = omega (arith, h)
place_within false w k n h = h

place_again : (big : Bool) (w k n : ℕ) → k + n ≤ w → place_of_part big w (place_of_part big w k n) n ≡ k
place_again true w k n h = omega (arith, h)
place_again false w k n h = refl

part_small : (x k n : ℕ) → part x k n < limit n
unfolding part
part_small x k n = mod-lt (x / limit k) (limit_pos n)

-- ---- statements

module _ (l : Listing) (ws : ℕ → ℕ) (returns : List Stmt → Bool) where
  assign_runs : (v n : ℕ) (e : Expr) (rest : List Stmt) (x : Local)
      → x.world.over ≡ None
      → value_of ws x.env e ≡ Some n
      → run_all l ws returns (S.Assign v e ∷ rest) x ≡ run_all l ws returns rest (assigned v n x)
  assign_runs v n e rest x go is =
      ap (λ o. run_all l ws returns rest (unless_over o x (do_simple l ws (λ c. returns rest) (S.Assign v e) x))) go
      ∙ ap (run_all l ws returns rest)
      (do_assign l ws (λ c. returns rest) v e x ∙ ap (λ o. code.with_word o x (λ k. assigned v k x)) is)

module _
    (l : Listing)
    (ranges : List Varnode)
    (table : IsTable l ranges)
    (ws : ℕ → ℕ)
    (returns : List Stmt → Bool)
    (v : Varnode)
    (some : 0 < v.size)
    (few : v.size ≤ 16)
    (w : ℕ)
    (word : w < limit v.size)
  where
    module _
        (inside : IsInside l v)
        (local : ℕ)
        (free : slice_get ranges local ≡ None)
        (wide : ws local ≡ v.size)
      where
        abbrev big : Bool
        big = is_big l v.space

        -- the bytes with these written from so many bytes of the range on
        abbrev with_bytes : ℕ → List ℕ → Bytes → Bytes
        with_bytes at bs m = each_at (size_of l v.space) (put_in v.space) (v.offset + at) bs m

        abbrev bytes : List ℕ
        bytes = word_bytes big v.size w

        long : length bytes ≡ v.size
        long = length-word_bytes big v.size w

        -- the part of the word at a place in the range
        abbrev part_at : Piece → ℕ
        part_at p = part w (bytes_below big v p.range) p.range.size

        module _
            (at : ℕ)
            (p : Piece)
            (h : Begins ranges v.space (v.offset + at) p)
            (within : at + p.range.size ≤ v.size)
          where
            there : p.range.offset - v.offset ≡ at
            there = omega (arith, h.offset)

            lies : bytes_below big v p.range + p.range.size ≤ v.size
            lies = place_within big v.size (p.range.offset - v.offset) p.range.size (omega (arith, there, within))

            place_is : place_of_part big v.size (bytes_below big v p.range) p.range.size ≡ at
            place_is = place_again big v.size (p.range.offset - v.offset) p.range.size (omega (arith, there, within))
                ∙ there

            -- its part is that many of the word's bytes
            part_written : (m : Bytes)
                → with_word l p.range (part_at p) m ≡ with_bytes at (take p.range.size (drop at bytes)) m
            part_written m =
                let a = p.range in
                let n = part_at p in
                ap (λ s. each_at (size_of l s) (put_in s) a.offset (bytes_in l s a.size n) m) h.space
                ∙ ap (λ o. each_at (size_of l v.space) (put_in v.space) o (bytes_in l v.space a.size n) m) h.offset
                ∙ ap (λ bs. with_bytes at bs m)
                (word_bytes-part big v.size w (bytes_below big v a) a.size lies
                ∙ ap (λ d. take a.size (drop d bytes)) place_is)

            -- and with the rest of them it is those from there on
            rest_written : (m : Bytes)
                → with_bytes (at + p.range.size) (drop (at + p.range.size) bytes) (with_word l p.range (part_at p) m)
                ≡ with_bytes at (drop at bytes) m
            rest_written m =
                let n = p.range.size in
                let xs = take n (drop at bytes) in
                let ys = drop (at + n) bytes in
                let left : length (drop at bytes) ≡ v.size - at = length-drop at bytes ∙ ap (λ k. k - at) long in
                let count : length xs ≡ n = length-take-le n (drop at bytes) (omega (arith, left, within)) in
                let behind : length ys ≡ v.size - (at + n) =
                length-drop (at + n) bytes ∙ ap (λ k. k - (at + n)) long in
                let cut : drop at bytes ≡ xs ++ ys =
                sym (take-append-drop n (drop at bytes)) ∙ ap (λ zs. xs ++ zs) (drop-drop n at bytes) in
                let next : v.offset + at + length xs ≡ v.offset + (at + n) = omega (arith, count) in
                ap (with_bytes (at + n) ys) (part_written m)
                ∙ ap (λ o. each_at (size_of l v.space) (put_in v.space) o ys (with_bytes at xs m)) (sym next)
                ∙ sym (each_split (size_of l v.space) (put_in v.space) (v.offset + at) xs ys m
                (omega (arith, count, behind, within, inside)))
                ∙ ap (λ bs. with_bytes at bs m) (sym cut)

            part_value : (x : Local)
                → x.env local ≡ Some w
                → value_of ws x.env
                (part_node (nearest v.size) (bytes_below big v p.range) p.range.size (E.Var local)) ≡ Some (part_at p)
            part_value x held =
                let means : Means ws x.env (E.Var local) v.size w = record {
                  width = width_of_var ws local ∙ wide;
                  value = value_of_var ws x.env local ∙ held;
                } in
                let P : ℕ → Type 0 = λ u. value_of ws x.env
                (part_node u (bytes_below big v p.range) p.range.size (E.Var local)) ≡ Some (part_at p) in
                subst P (sym (nearest_is v.size some few))
                (part_means ws x.env v.size (bytes_below big v p.range) p.range.size w (E.Var local) h.some
                (omega (arith, within, few)) word means).value

        parts_run : (at : ℕ) (ps : List Piece) (m : Bytes) (x : Local)
            → IsRow ranges v.space (v.offset + at) ps (v.offset + v.size)
            → Holds l ranges m x.env
            → x.env local ≡ Some w
            → x.world.over ≡ None
            → Wrote l ranges ps local (with_bytes at (drop at bytes) m) x
            (run_all l ws returns (map (assigns_part big v local) ps) x)
        parts_run at [] m x row holds held go =
            let none : drop at bytes ≡ [] = drop_of_length-le bytes (omega (arith, long, row)) in
            let H : List ℕ → Type 0 = λ bs. Holds l ranges (with_bytes at bs m) x.env in
            record { world = refl; left = refl; holds = subst H (sym none) holds; kept = λ j ne out. refl }
        parts_run at (p ∷ ps) m x row holds held go =
            let n = p.range.size in
            let first = row.0 in
            let rises = row_rises ranges v.space (v.offset + at + n) ps (v.offset + v.size) row.1 in
            let within : at + n ≤ v.size = omega (arith, rises) in
            let k = part_at p in
            let y : Local = assigned p.variable k x in
            let m1 : Bytes = with_word l p.range k m in
            let other : local ≢ p.variable = λ e.
            let g : slice_get ranges local ≡ slice_get ranges p.variable = ap (slice_get ranges) e in
            let listed : slice_get ranges p.variable ≡ Some p.range = first.listed in
            absurd (cc) in
            let ran = assign_runs l ws returns p.variable k
            (part_node (nearest v.size) (bytes_below big v p.range) n (E.Var local)) (map (assigns_part big v local) ps) x go
            (part_value at p first within x held) in
            let R : ℕ → Type 0 = λ o. IsRow ranges v.space o ps (v.offset + v.size) in
            let rest = parts_run (at + n) ps m1 y (subst R (omega arith) row.1)
            (holds_written l ranges table p.variable p.range first.listed k
            (part_small w (bytes_below big v p.range) n) m x.env holds)
            (put_else x.env p.variable (Some k) local other ∙ held) go in
            let z : Local = run_all l ws returns (map (assigns_part big v local) ps) y in
            let H : Bytes → Type 0 = λ bs. Holds l ranges bs z.env in
            let P : Local → Type 0 =
            λ u. Wrote l ranges (p ∷ ps) local (with_bytes at (drop at bytes) m) x u in
            subst P (sym ran) (record {
              world = rest.world;
              left = rest.left;
              holds = subst H (rest_written at p first within m) rest.holds;
              kept = λ j ne out. rest.kept j ne out.1 ∙ put_else x.env p.variable (Some k) j out.0;
            })

        -- Several are assigned their parts of the local's word.
        all_parts : (ps : List Piece) (m : Bytes) (x : Local)
            → IsRow ranges v.space v.offset ps (v.offset + v.size)
            → Holds l ranges m x.env
            → x.world.over ≡ None
            → Wrote l ranges ps local (with_word l v w m) x
            (run_all l ws returns (map (assigns_part big v local) ps) (assigned local w x))
        all_parts ps m x row holds go =
            let start : v.offset ≡ v.offset + 0 = omega arith in
            let R : ℕ → Type 0 = λ o. IsRow ranges v.space o ps (v.offset + v.size) in
            let y : Local = assigned local w x in
            let done = parts_run 0 ps m y (subst R start row)
            (holds_other l ranges local free (Some w) m x.env holds) (put_at x.env local (Some w)) go in
            let z : Local = run_all l ws returns (map (assigns_part big v local) ps) y in
            let H : ℕ → Type 0 =
            λ o. Holds l ranges (each_at (size_of l v.space) (put_in v.space) o bytes m) z.env in
            record {
              world = done.world;
              left = done.left;
              holds = subst H (sym start) done.holds;
              kept = λ j ne out. done.kept j ne out ∙ put_else x.env local (Some w) j ne;
            }

    -- one variable's own range
    one_is : (p : Piece) → IsRow ranges v.space v.offset (p ∷ []) (v.offset + v.size) → p.range ≡ v
    one_is p row =
        let a = p.range in
        let size : a.size ≡ v.size = omega (arith, row.1) in
        ap (λ (s : ℕ). let r : Varnode = record { space = s; offset = a.offset; size = a.size } in r) row.0.space
        ∙ ap (λ (o : ℕ). let r : Varnode = record { space = v.space; offset = o; size = a.size } in r) row.0.offset
        ∙ ap (λ (k : ℕ). let r : Varnode = record { space = v.space; offset = v.offset; size = k } in r) size

    written_by : (ps : List Piece) (next : ℕ) (m : Bytes) (x : Local)
        → IsRow ranges v.space v.offset ps (v.offset + v.size)
        → IsInside l v
        → slice_get ranges next ≡ None
        → ws (target_by next ps) ≡ v.size
        → Holds l ranges m x.env
        → x.world.over ≡ None
        → Wrote l ranges ps next (with_word l v w m) x
        (run_all l ws returns (parts_by (is_big l v.space) v next ps) (assigned (target_by next ps) w x))
    written_by [] next m x row inside free wide holds go = absurd (omega (arith, some, row))
    written_by (p ∷ []) next m x row inside free wide holds go =
        let L : Varnode → Type 0 = λ a. slice_get ranges p.variable ≡ Some a in
        record {
          world = refl;
          left = refl;
          holds = holds_written l ranges table p.variable v (subst L (one_is p row) row.0.listed) w word m x.env holds;
          kept = λ j ne out. put_else x.env p.variable (Some w) j out.0;
        }
    written_by (p ∷ q ∷ ps) next m x row inside free wide holds go =
        all_parts inside next free wide (p ∷ q ∷ ps) m x row holds go

    -- Where a word is assigned to the target of a range and the parts are written then, the variables hold the words
    -- of the bytes with this word in the range, and all others stay, but for the local.
    pub write_wrote : (next : ℕ) (m : Bytes) (x : Local)
        → HasCover ranges v
        → slice_get ranges next ≡ None
        → ws (target ranges next v) ≡ v.size
        → Holds l ranges m x.env
        → x.world.over ≡ None
        → Wrote l ranges (cover ranges v) next (with_word l v w m) x
        (run_all l ws returns (write_range (is_big l v.space) ranges v next) (assigned (target ranges next v) w x))
    write_wrote next m x has free wide holds go =
        written_by (cover ranges v) next m x has (cover_inside l ranges v table some has) free wide holds go
