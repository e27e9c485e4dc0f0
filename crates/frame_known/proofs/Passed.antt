-- What the steps over a row make of it, entry by entry.
use Rattle.std.proofs.Common.{◌≡◌, ◌≢◌, ℕ, ◌+◌, ◌<◌, ◌≤◌, Bool, true, false, length, get_or, set, map, Option, Some, None, refl, sym, ap, ◌∙◌, subst, ⊎_elim, arith}
use Rattle.std.specs.Prelude.{◌==◌, ◌&&◌, cond}
use Rattle.std.specs.List.Sorted.{IsStrictlyIncreasing}
use Rattle.std.proofs.Math.ListN.{length-set}
use Rattle.std.proofs.lemmas.List.{ext_get_or, get_or-map, length-map, get_or-set_same, get_or-set_other}
use Rattle.std.proofs.lemmas.Bool.{cases_eq, eqb-true, eq-eqb, and_parts}
use Rattle.pcode_model.specs.declared.listing.Varnode.{Varnode}
use Rattle.pcode_model.specs.declared.listing.Proto.{Proto}
use Rattle.pcode_model.specs.declared.listing.Listing.{Listing}
use Rattle.pcode_model.specs.Flow.{IsIn}
use Rattle.frame_facts.specs.Facts.{shares, writes}
use Rattle.frame_known.specs.declared.slots.Slots.{Slots}
use Rattle.frame_known.specs.Slots.{IsNoSlot, IsSlot, is_wide, key, range_of}
use Rattle.frame_known.specs.Rows.{Row, after_call, is_at, left_by, offset_in, offset_of}
use Rattle.frame_known.specs.Steps.{Forgotten, IsLeft, entry}
use Rattle.frame_known.proofs.Found.{get_in, rises, stands_once}
use Rattle.frame_known.proofs.Ranges.{is_wide_from, wide_is}
use Rattle.frame_known.proofs.Entries.{offset_at, offset_none}

module _ (s : Slots) (row : Row) where
  -- the row's offset at a slot
  pub slot_offset : (v : Varnode) (n : ℕ)
      → IsStrictlyIncreasing s.keys.items
      → length row ≡ length s.keys.items
      → IsSlot s v n
      → entry row n ≡ offset_of s row v
  slot_offset v n up long x =
      sym (ap (λ b. cond b (offset_in s.keys.items row (key v)) None) (is_wide_from s.width v x.wide x.low)
      ∙ ap (offset_in s.keys.items row) (sym x.is)
      ∙ offset_at s.keys.items row (rises s.keys.items up) long n x.inside)

  pub no_offset : (v : Varnode) → IsNoSlot s v → None ≡ offset_of s row v
  no_offset v none = by (is_wide s.width v) refl where
    by : (b : Bool) → is_wide s.width v ≡ b → None ≡ cond b (offset_in s.keys.items row (key v)) None
    by true e = sym (offset_none s.keys.items row (key v) (none (wide_is s.width v e).0))
    by false e = refl

-- ---- an op that isn't a call

module _
    (s : Slots)
    (row : Row)
    (up : IsStrictlyIncreasing s.keys.items)
    (long : length row ≡ length s.keys.items)
    (m : Option ℕ)
  where
    -- the entry of a number after an op with this output that makes this offset
    abbrev given : Option Varnode → ℕ → Option ℕ
    given o n =
        cond (is_at s.width o n) m (cond (writes o (range_of s.width n)) None (offset_in s.keys.items row n))

    given_other : (out : Varnode) (row' : Row) (i : ℕ)
        → IsLeft s out row row'
        → i < length s.keys.items
        → is_at s.width (Some out) (get_or s.keys.items i 0) ≡ false
        → entry row' i ≡ given (Some out) (get_or s.keys.items i 0)
    given_other out row' i left lt not =
        let n = get_or s.keys.items i 0 in
        left.each i lt
        ∙ ap (λ r. cond (shares out (range_of s.width n)) None r)
        (sym (offset_at s.keys.items row (rises s.keys.items up) long i lt))
        ∙ sym (ap (λ b. cond b m (cond (shares out (range_of s.width n)) None (offset_in s.keys.items row n))) not)

    is_not_at : (out : Varnode) (n : ℕ) → (out.size ≡ s.width → key out ≡ n → ⊥) → is_at s.width (Some out) n ≡ false
    is_not_at out n h = by (is_at s.width (Some out) n) refl where
      by : (b : Bool) → is_at s.width (Some out) n ≡ b → b ≡ false
      by true e = let p = and_parts (is_wide s.width out) (key out == n) e in
          absurd (h (wide_is s.width out p.0).0 (eqb-true (key out) n p.1))
      by false e = refl

    -- the output's slot has the offset that was made
    pub given_slot : (o : Option Varnode) (out : Varnode) (row' : Row) (n : ℕ)
        → o ≡ Some out
        → IsLeft s out row row'
        → IsSlot s out n
        → set row' n m ≡ map (given o) s.keys.items
    given_slot o out row' n is left slot =
        let P : Option Varnode → Type 0 = λ x. set row' n m ≡ map (given x) s.keys.items in
        subst P (sym is)
        (ext_get_or None (set row' n m) (map (given (Some out)) s.keys.items)
        (length-set row' n m ∙ left.long ∙ long ∙ sym (length-map s.keys.items (given (Some out))))
        (λ i lt.
        let inside : i < length s.keys.items =
        omega (arith, lt, length-set row' n m, left.long, long) in
        each i inside ∙ sym (get_or-map (given (Some out)) s.keys.items i 0 None inside)))
      where
        each : (i : ℕ) → i < length s.keys.items → get_or (set row' n m) i None ≡ given (Some out) (get_or s.keys.items i 0)
        each i inside =
            ⊎_elim
            (λ (e : i ≡ n).
            let k : key out ≡ get_or s.keys.items i 0 = sym slot.is ∙ ap (λ j. get_or s.keys.items j 0) (sym e) in
            let t : is_at s.width (Some out) (get_or s.keys.items i 0) ≡ true =
            ap (λ b. b && (key out == get_or s.keys.items i 0)) (is_wide_from s.width out slot.wide slot.low)
            ∙ eq-eqb (key out) (get_or s.keys.items i 0) k in
            ap (λ j. get_or (set row' n m) j None) e
            ∙ get_or-set_same row' n m None (omega (arith, slot.inside, left.long, long))
            ∙ sym (ap (λ b. cond b m (cond (shares out (range_of s.width (get_or s.keys.items i 0))) None
            (offset_in s.keys.items row (get_or s.keys.items i 0)))) t))
            (λ (ne : i ≢ n). get_or-set_other row' n i m None ne
            ∙ given_other out row' i left inside
            (is_not_at out (get_or s.keys.items i 0) (λ w e.
            ne (stands_once s.keys.items up i n inside slot.inside (sym e ∙ sym slot.is)))))
            (cases_eq i n)

    pub given_none : (o : Option Varnode) (out : Varnode) (row' : Row)
        → o ≡ Some out
        → IsLeft s out row row'
        → IsNoSlot s out
        → row' ≡ map (given o) s.keys.items
    given_none o out row' is left none =
        let P : Option Varnode → Type 0 = λ x. row' ≡ map (given x) s.keys.items in
        subst P (sym is)
        (ext_get_or None row' (map (given (Some out)) s.keys.items)
        (left.long ∙ long ∙ sym (length-map s.keys.items (given (Some out))))
        (λ i lt.
        let inside : i < length s.keys.items = omega (arith, lt, left.long, long) in
        given_other out row' i left inside
        (is_not_at out (get_or s.keys.items i 0) (λ w e.
        none w (subst (λ (n : ℕ). IsIn n s.keys.items) (sym e) (get_in s.keys.items i inside))))
        ∙ sym (get_or-map (given (Some out)) s.keys.items i 0 None inside)))

    pub given_nothing : (o : Option Varnode) → o ≡ None → row ≡ map (given o) s.keys.items
    given_nothing o is =
        let P : Option Varnode → Type 0 = λ x. row ≡ map (given x) s.keys.items in
        subst P (sym is)
        (ext_get_or None row (map (given None) s.keys.items)
        (long ∙ sym (length-map s.keys.items (given None)))
        (λ i lt.
        let inside : i < length s.keys.items = omega (arith, lt, long) in
        sym (offset_at s.keys.items row (rises s.keys.items up) long i inside)
        ∙ sym (get_or-map (given None) s.keys.items i 0 None inside)))

-- ---- what a write forgets

pub forgotten_none : (low : ℕ) (row : Row) → Forgotten low low row row
forgotten_none low row = record {
  long = refl;
  gone = λ k a b. absurd (omega (arith, a, b));
  before = λ k lt. refl;
  behind = λ k a b. refl;
}

pub forgotten_more : (low n : ℕ) (row row' row'' : Row)
    → Forgotten low n row row'
    → low ≤ n
    → n < length row'
    → row'' ≡ set row' n None
    → Forgotten low (n + 1) row row''
forgotten_more low n row row' row'' x le lt is =
    let P : Row → Type 0 = λ r. Forgotten low (n + 1) row r in
    subst P (sym is)
    (record {
      long = length-set row' n None ∙ x.long;
      gone = λ k a b. ⊎_elim
          (λ (e : k ≡ n). ap (λ j. entry (set row' n None) j) e ∙ get_or-set_same row' n None None lt)
          (λ (ne : k ≢ n). get_or-set_other row' n k None None ne ∙ x.gone k a (omega (arith, b, ne)))
          (cases_eq k n);
      before = λ k less. get_or-set_other row' n k None None (λ e. omega (arith, e, less, le)) ∙ x.before k less;
      behind = λ k a b. get_or-set_other row' n k None None (λ e. omega (arith, e, b)) ∙ x.behind k a (omega (arith, b));
    })

-- ---- calls

-- the entries of the first slots are those after a call
pub record Called (l : Listing) (s : Slots) (p : Proto) (n : ℕ) (row row' : Row) : Type 0 where
  pub long : length row' ≡ length row
  pub before : (k : ℕ) → k < n → entry row' k ≡ left_by l s p (get_or s.keys.items k 0) (entry row k)
  pub behind : (k : ℕ) → n ≤ k → entry row' k ≡ entry row k

pub called_more : (l : Listing) (s : Slots) (p : Proto) (n : ℕ) (row row' : Row) (r : Option ℕ)
    → Called l s p n row row'
    → n < length row
    → r ≡ left_by l s p (get_or s.keys.items n 0) (entry row' n)
    → Called l s p (n + 1) row (set row' n r)
called_more l s p n row row' r x lt is = record {
  long = length-set row' n r ∙ x.long;
  before = λ k less. ⊎_elim
      (λ (e : k ≡ n).
      ap (λ j. entry (set row' n r) j) e
      ∙ get_or-set_same row' n r None (omega (arith, lt, x.long))
      ∙ is
      ∙ ap (left_by l s p (get_or s.keys.items n 0)) (x.behind n (omega arith))
      ∙ ap (λ j. left_by l s p (get_or s.keys.items j 0) (entry row j)) (sym e))
      (λ (ne : k ≢ n). get_or-set_other row' n k r None ne ∙ x.before k (omega (arith, less, ne)))
      (cases_eq k n);
  behind = λ k le. get_or-set_other row' n k r None (λ e. omega (arith, le, e)) ∙ x.behind k (omega (arith, le));
}

pub called_all : (l : Listing) (s : Slots) (p : Proto) (row row' : Row)
    → IsStrictlyIncreasing s.keys.items
    → length row ≡ length s.keys.items
    → Called l s p (length s.keys.items) row row'
    → row' ≡ map (after_call l s row p) s.keys.items
called_all l s p row row' up long x =
    ext_get_or None row' (map (after_call l s row p) s.keys.items)
    (x.long ∙ long ∙ sym (length-map s.keys.items (after_call l s row p)))
    (λ i lt.
    let inside : i < length s.keys.items = omega (arith, lt, x.long, long) in
    x.before i inside
    ∙ ap (left_by l s p (get_or s.keys.items i 0))
    (sym (offset_at s.keys.items row (rises s.keys.items up) long i inside))
    ∙ sym (get_or-map (after_call l s row p) s.keys.items i 0 None inside))
