-- What a call spares and what it doesn't: each variable of a register lies in one range that it spares, or meets none.
use Rattle.std.proofs.Common.{◌≡◌, ◌≢◌, ℕ, ◌+◌, ◌<◌, ◌≤◌, Bool, true, false, List, [], ◌∷◌, ◌++◌, Option, Some, None, refl, sym, ap, ◌∙◌, subst, ◌⊎◌, inl, inr, ⊎_elim, arith}
use Rattle.std.specs.Prelude.{◌==◌, ◌&&◌, cond, not, slice_get, IfSome}
use Rattle.std.proofs.lemmas.Bool.{cases_eq, cases_lt}
use Rattle.std.proofs.lemmas.Bool.Decides.{nat_tests}
use Rattle.pcode_model.specs.declared.listing.Varnode.{Varnode}
use Rattle.pcode_model.specs.declared.listing.Proto.{Proto}
use Rattle.pcode_model.specs.declared.listing.Listing.{Listing}
use Rattle.pcode_model.specs.Atoms.{one_range}
use Rattle.pcode_model.specs.Flow.{IsIn}
use Rattle.pcode_model.specs.Ranges.{meets}
use Rattle.pcode_model.specs.Spaces.{or, register_space}
use Rattle.pcode_model.specs.Step.{in_range, in_some}
use Rattle.pcode_model.proofs.Members.{behind, in_either, member_at, of_member}
use Rattle.range_words.specs.Ranges.{IsTable}
use Rattle.op_code.specs.Cover.{HasCover, IsRow, Piece, cover}
use Rattle.op_code.specs.Form.{IsCallable, IsGiven, IsSplitBy}
use Rattle.op_code.specs.Left.{is_left, meets_some, spared}
use Rattle.op_code.specs.Made.{Own}
use Rattle.op_code.specs.Words.{target, target_by}
use Rattle.op_code.proofs.Kept.{left_alone}
use Rattle.op_code.proofs.Rows.{row_rises}

-- ---- offsets

-- an offset of the range
abbrev pub LiesAt : Varnode → ℕ → Type 0
LiesAt v o = (v.offset ≤ o) × (o < v.offset + v.size)

abbrev pub LiesWithin : Varnode → Varnode → Type 0
LiesWithin v w = (w.offset ≤ v.offset) × (v.offset + v.size ≤ w.offset + w.size)

lies_in : (w : Varnode) (o : ℕ) → LiesAt w o → in_range w o ≡ true
lies_in w o at = let from = at.0 in let to = at.1 in grind (arith, nat_tests)

lies_out : (v w : Varnode) (o : ℕ) → LiesAt v o → meets v.offset v.size w.offset w.size ≡ false → in_range w o ≡ false
lies_out v w o at apart = let from = at.0 in let to = at.1 in grind (arith, nat_tests)

meet_at : (v w : Varnode)
    → meets v.offset v.size w.offset w.size ≡ true
    → (v.offset < w.offset + w.size) × (w.offset < v.offset + v.size)
meet_at v w h = (grind (arith, nat_tests), grind (arith, nat_tests))

or_left : (a b : Bool) → or a b ≡ false → a ≡ false
or_left true b h = absurd (cc)
or_left false b h = refl

or_right : (a b : Bool) → or a b ≡ false → b ≡ false
or_right true b h = absurd (cc)
or_right false b h = h

-- where nothing is met, no offset lies in any
meets_none : (ws : List Varnode) (v : Varnode) (o : ℕ)
    → LiesAt v o
    → meets_some ws v ≡ false
    → in_some ws o ≡ false
meets_none [] v o at h = refl
meets_none (w ∷ ws) v o at h =
    let b = meets v.offset v.size w.offset w.size in
    ap (λ c. cond c true (in_some ws o))
    (lies_out v w o at (or_left b (meets_some ws v) h))
    ∙ meets_none ws v o at (or_right b (meets_some ws v) h)

-- a range that is met
record IsMet (ws : List Varnode) (v : Varnode) : Type 0 where
  range : Varnode
  among : IsIn range ws
  met : meets v.offset v.size range.offset range.size ≡ true

met_first : (w : Varnode) (ws : List Varnode) (v : Varnode) (b : Bool)
    → meets v.offset v.size w.offset w.size ≡ b
    → or b (meets_some ws v) ≡ true
    → (meets_some ws v ≡ true → IsMet ws v)
    → IsMet (w ∷ ws) v
met_first w ws v true is h rest = record { range = w; among = inl refl; met = is }
met_first w ws v false is h rest =
    let r = rest h in record { range = r.range; among = inr r.among; met = r.met }

meets_one : (ws : List Varnode) (v : Varnode) → meets_some ws v ≡ true → IsMet ws v
meets_one [] v h = absurd (cc)
meets_one (w ∷ ws) v h =
    met_first w ws v (meets v.offset v.size w.offset w.size) refl h (λ g. meets_one ws v g)

-- An offset of a member lies in some.
pub lies_some : (ws : List Varnode) (w : Varnode) (o : ℕ) → IsIn w ws → LiesAt w o → in_some ws o ≡ true
lies_some [] w o is at = absurd is
lies_some (x ∷ ws) w o (inl e) at =
    let A : Varnode → Type 0 = λ y. LiesAt y o in
    ap (λ c. cond c true (in_some ws o)) (lies_in x o (subst A e at))
lies_some (x ∷ ws) w o (inr is) at =
    either (in_range x o) (in_some ws o) (lies_some ws w o is at)
  where
    either : (b c : Bool) → c ≡ true → cond b true c ≡ true
    either true c rest = refl
    either false c rest = rest

-- ---- ranges with a cover

module _ (l : Listing) (ranges : List Varnode) (table : IsTable l ranges) where
  -- A variable that has a byte in a row of variables is one of them.
  row_has : (space offset : ℕ) (ps : List Piece) (end n : ℕ) (v : Varnode) (o : ℕ)
      → IsRow ranges space offset ps end
      → slice_get ranges n ≡ Some v
      → v.space ≡ space
      → LiesAt v o
      → offset ≤ o
      → o < end
      → (offset ≤ v.offset) × (v.offset + v.size ≤ end)
  row_has space offset [] end n v o row e same at from to = absurd (omega (arith, row, from, to))
  row_has space offset (p ∷ ps) end n v o row e same at from to =
      let k = p.range.size in
      let rises = row_rises ranges space (offset + k) ps end row.1 in
      ⊎_elim
      (λ (within : o < offset + k). ⊎_elim
      (λ (one : n ≡ p.variable).
      let g : Some v ≡ Some p.range = sym e ∙ ap (slice_get ranges) one ∙ row.0.listed in
      let is : v ≡ p.range = cc in
      let begins : v.offset ≡ p.range.offset = ap (λ (a : Varnode). a.offset) is in
      let size : v.size ≡ p.range.size = ap (λ (a : Varnode). a.size) is in
      (omega (arith, begins, row.0.offset), omega (arith, begins, size, row.0.offset, rises)))
      (λ (ne : n ≢ p.variable). ⊎_elim
      (λ (other : v.space ≢ p.range.space). absurd (other (same ∙ sym row.0.space)))
      (λ side. ⊎_elim
      (λ (before : v.offset + v.size ≤ p.range.offset). absurd (omega (arith, before, at.1, from, row.0.offset)))
      (λ (past : p.range.offset + p.range.size ≤ v.offset).
      absurd (omega (arith, past, at.0, within, row.0.offset)))
      side)
      (table.apart n p.variable v p.range e row.0.listed ne))
      (cases_eq n p.variable))
      (λ (past : offset + k ≤ o).
      let r = row_has space (offset + k) ps end n v o row.1 e same at past to in
      (omega (arith, r.0), r.1))
      (cases_lt o (offset + k))

  -- One that meets a range with a cover lies in it.
  pub cover_has : (z : Varnode) (n : ℕ) (v : Varnode)
      → HasCover ranges z
      → 0 < z.size
      → slice_get ranges n ≡ Some v
      → 0 < v.size
      → v.space ≡ z.space
      → meets v.offset v.size z.offset z.size ≡ true
      → LiesWithin v z
  cover_has z n v has some e wide same met =
      let both = meet_at v z met in
      ⊎_elim
      (λ (before : v.offset < z.offset).
      row_has z.space z.offset (cover ranges z) (z.offset + z.size) n v z.offset has e same
      (omega (arith, before), both.1) (omega arith) (omega (arith, some)))
      (λ (behind : z.offset ≤ v.offset).
      row_has z.space z.offset (cover ranges z) (z.offset + z.size) n v v.offset has e same
      (omega arith, omega (arith, wide)) behind both.0)
      (cases_lt v.offset z.offset)

  -- ---- variables

  module _ (p : Proto) (o : Own) (call : IsCallable l o ranges p) where
    pub left_space : (v : Varnode) → is_left l p v ≡ true → v.space ≡ register_space l
    left_space v h = grind (arith, nat_tests)

    left_met : (v : Varnode) → is_left l p v ≡ true → meets_some (spared l p) v ≡ false
    left_met v h = by (v.space == register_space l) (meets_some (spared l p) v) h
      where
        by : (a b : Bool) → (a && not b) ≡ true → b ≡ false
        by a false g = refl
        by true true g = absurd (cc)
        by false true g = absurd (cc)

    -- what is left has no byte in what is spared
    pub left_out : (v : Varnode) (o : ℕ) → is_left l p v ≡ true → LiesAt v o → in_some (spared l p) o ≡ false
    left_out v o h at = meets_none (spared l p) v o at (left_met v h)

    kept_met : (v : Varnode)
        → is_left l p v ≡ false
        → v.space ≡ register_space l
        → meets_some (spared l p) v ≡ true
    kept_met v h at = by (v.space == register_space l) (meets_some (spared l p) v) (grind (arith, nat_tests)) h
      where
        by : (a b : Bool) → a ≡ true → (a && not b) ≡ false → b ≡ true
        by true true e g = refl
        by true false e g = absurd (cc)
        by false b e g = absurd (cc)

    -- of one range
    given_has : (given : Option Varnode) (n : ℕ) (v w : Varnode)
        → IfSome given (IsGiven l ranges)
        → IsIn w (one_range given)
        → slice_get ranges n ≡ Some v
        → 0 < v.size
        → v.space ≡ register_space l
        → meets v.offset v.size w.offset w.size ≡ true
        → LiesWithin v w
    given_has None n v w given is e wide at met = absurd is
    given_has (Some z) n v w given (inl same) e wide at met =
        let P : Varnode → Type 0 = λ x. LiesWithin v x in
        let Q : Varnode → Type 0 = λ x. meets v.offset v.size x.offset x.size ≡ true in
        subst P (sym same)
        (cover_has z n v given.1.1 given.1.0.0 e wide (at ∙ sym given.0) (subst Q same met))
    given_has (Some z) n v w given (inr is) e wide at met = absurd is

    -- any other lies in a range that is spared
    spared_has : (n : ℕ) (v w : Varnode)
        → slice_get ranges n ≡ Some v
        → 0 < v.size
        → v.space ≡ register_space l
        → IsIn w (spared l p)
        → meets v.offset v.size w.offset w.size ≡ true
        → LiesWithin v w
    spared_has n v w e wide at among met = ⊎_elim
        (λ (kept : IsIn w p.keep). ⊎_elim
        (λ (within : LiesWithin v w). within)
        (λ apart. absurd (cc))
        (of_member (IsSplitBy l ranges) w p.keep call.kept kept v (member_at ranges n v e) at))
        (λ others. ⊎_elim
        (λ (gives : IsIn w (one_range p.gives)). given_has p.gives n v w call.gives gives e wide at met)
        (λ (stack : IsIn w (one_range l.stack)). given_has l.stack n v w call.stack stack e wide at met)
        (in_either (one_range p.gives) (one_range l.stack) w others))
        (in_either p.keep (one_range p.gives ++ one_range l.stack) w among)

    -- so that all its bytes are
    pub spared_in : (n : ℕ) (v : Varnode) (o : ℕ)
        → slice_get ranges n ≡ Some v
        → 0 < v.size
        → is_left l p v ≡ false
        → v.space ≡ register_space l
        → LiesAt v o
        → in_some (spared l p) o ≡ true
    spared_in n v o e wide h at lies =
        let r = meets_one (spared l p) v (kept_met v h at) in
        let within = spared_has n v r.range e wide at r.among r.met in
        lies_some (spared l p) r.range o r.among (omega (arith, within.0, lies.0), omega (arith, within.1, lies.1))

    -- ---- the result

    -- a range that hasn't the offset
    some_without : (ws : List Varnode) (z : Varnode) (rest : List Varnode) (o : ℕ)
        → in_range z o ≡ false
        → in_some (ws ++ z ∷ rest) o ≡ in_some (ws ++ rest) o
    some_without [] z rest o out = ap (λ b. cond b true (in_some rest o)) out
    some_without (w ∷ ws) z rest o out = ap (λ b. cond (in_range w o) true b) (some_without ws z rest o out)

    -- Without a result there is only what a callee leaves alone.
    pub spared_alone : p.gives ≡ None → spared l p ≡ left_alone l p
    spared_alone none = ap (λ gives. p.keep ++ (one_range gives ++ one_range l.stack)) none

    spared_is : (z : Varnode) → p.gives ≡ Some z → spared l p ≡ p.keep ++ z ∷ one_range l.stack
    spared_is z gives = ap (λ g. p.keep ++ (one_range g ++ one_range l.stack)) gives

    -- and with one it is spared beside
    pub spared_off : (z : Varnode)
        → p.gives ≡ Some z
        → (o : ℕ)
        → (o < z.offset) ⊎ (z.offset + z.size ≤ o)
        → in_some (spared l p) o ≡ in_some (left_alone l p) o
    spared_off z gives o off =
        let out : in_range z o ≡ false = ⊎_elim
        (λ (before : o < z.offset). grind (arith, nat_tests))
        (λ (past : z.offset + z.size ≤ o). grind (arith, nat_tests))
        off in
        ap (λ ws. in_some ws o) (spared_is z gives) ∙ some_without p.keep z (one_range l.stack) o out

    result_spared : (z : Varnode) → p.gives ≡ Some z → IsIn z (spared l p)
    result_spared z gives =
        let P : List Varnode → Type 0 = λ ws. IsIn z ws in
        subst P (sym (spared_is z gives)) (behind p.keep (z ∷ one_range l.stack) z (inl refl))

    target_by_other : (k n : ℕ) (v z : Varnode) (ps : List Piece)
        → p.gives ≡ Some z
        → 0 < z.size
        → slice_get ranges k ≡ None
        → slice_get ranges n ≡ Some v
        → is_left l p v ≡ true
        → IsRow ranges z.space z.offset ps (z.offset + z.size)
        → n ≡ target_by k ps
        → ⊥
    target_by_other k n v z [] gives some free e h row is =
        let g : slice_get ranges n ≡ slice_get ranges k = ap (slice_get ranges) is in
        absurd (cc)
    target_by_other k n v z (q ∷ []) gives some free e h row is =
        let g : Some v ≡ Some q.range = sym e ∙ ap (slice_get ranges) is ∙ row.0.listed in
        let same : v ≡ q.range = cc in
        let begins : v.offset ≡ z.offset = ap (λ (a : Varnode). a.offset) same ∙ row.0.offset in
        let size : v.size ≡ q.range.size = ap (λ (a : Varnode). a.size) same in
        let at : LiesAt v v.offset = (omega arith, omega (arith, size, row.0.some)) in
        let there : LiesAt z v.offset = (omega (arith, begins), omega (arith, begins, some)) in
        let out : in_some (spared l p) v.offset ≡ false = left_out v v.offset h at in
        let within : in_some (spared l p) v.offset ≡ true =
        lies_some (spared l p) z v.offset (result_spared z gives) there in
        absurd (cc)
    target_by_other k n v z (q ∷ r ∷ ps) gives some free e h row is =
        let g : slice_get ranges n ≡ slice_get ranges k = ap (slice_get ranges) is in
        absurd (cc)

    -- What is assigned for the result takes nothing that a call left.
    pub target_other : (k : ℕ) (z : Varnode)
        → p.gives ≡ Some z
        → 0 < z.size
        → HasCover ranges z
        → slice_get ranges k ≡ None
        → (n : ℕ) (v : Varnode)
        → slice_get ranges n ≡ Some v
        → is_left l p v ≡ true
        → n ≢ target ranges k z
    target_other k z gives some has free n v e h is =
        target_by_other k n v z (cover ranges z) gives some free e h has is
