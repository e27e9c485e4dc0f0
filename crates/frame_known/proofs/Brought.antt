-- What comes of rows as one is brought to blocks.
use Rattle.std.proofs.Common.{◌≡◌, ℕ, zero, suc, ◌+◌, Bool, true, false, List, [], ◌∷◌, ◌++◌, length, set, Option, Some, None, refl, sym, ap, ◌∙◌, subst, ◌⊎◌, inl, inr, ⊎_elim, arith}
use Rattle.std.proofs.Math.ListN.{length-set}
use Rattle.frame_known.specs.Rows.{Row}
use Rattle.frame_known.specs.Meeting.{count}
use Rattle.frame_known.specs.Entering.{AreLong, Brought, Entered, EnteredAll, IsLong, brought, row_at, weight}
use Rattle.frame_known.proofs.Common.{common_long, count_few}

pub brought_new : (old : Option Row) (out copy : Row) → old ≡ None → copy ≡ out → Brought old out true (Some copy)
brought_new old out copy e f =
    let new : Some copy ≡ Some (brought old out) = ap Some f ∙ sym (ap (λ o. Some (brought o out)) e) in
    let w : weight (length out) old ≡ length out + 1 = ap (weight (length out)) e in
    let c : count copy ≡ count out = ap count f in
    record {
      is = new;
      less = λ t. omega (arith, w, c, count_few out);
      same = λ t. absurd (cc);
    }

pub entered_by : (rows : List (Option Row)) (waits : List Bool) (m : ℕ) (out : Row) (fewer : Bool) (new : Option Row)
    (rows' : List (Option Row)) (waits' : List Bool)
    → Brought (row_at rows m) out fewer new
    → rows' ≡ set rows m new
    → ((fewer ≡ true) × (waits' ≡ set waits m true)) ⊎ ((fewer ≡ false) × (waits' ≡ waits))
    → Entered (length out) rows waits m out rows' waits'
entered_by rows waits m out fewer new rows' waits' b r w = record {
  rows_are = r ∙ ap (set rows m) b.is;
  less = ⊎_elim
      (λ h.
      let lt = b.less h.0 in
      let e : weight (length out) new ≡ weight (length out) (Some (brought (row_at rows m) out)) =
      ap (weight (length out)) b.is in
      inl (h.1, omega (arith, lt, e)))
      (λ h. inr (h.1, b.same h.0 ∙ b.is))
      w;
}

-- ---- lengths

brought_long : (k : ℕ) (o : Option Row) (out : Row) → IsLong k o → length out ≡ k → length (brought o out) ≡ k
brought_long k None out h e = e
brought_long k (Some row) out h e = common_long row out (h ∙ sym e) ∙ h

long_at : (k : ℕ) (rows : List (Option Row)) (m : ℕ) → AreLong k rows → IsLong k (row_at rows m)
long_at k [] m h = tt
long_at k (o ∷ rows) zero h = h.0
long_at k (o ∷ rows) (suc m) h = long_at k rows m h.1

pub long_here : (k : ℕ) (rows : List (Option Row)) (m : ℕ) → AreLong k rows → IsLong k (row_at rows m)
long_here k rows m h = long_at k rows m h

long_set : (k : ℕ) (rows : List (Option Row)) (m : ℕ) (o : Option Row)
    → AreLong k rows
    → IsLong k o
    → AreLong k (set rows m o)
long_set k [] m o h e = tt
long_set k (r ∷ rows) zero o h e = (e, h.1)
long_set k (r ∷ rows) (suc m) o h e = (h.0, long_set k rows m o h.1 e)

pub entered_long : (rows : List (Option Row)) (waits : List Bool) (m : ℕ) (out : Row) (rows' : List (Option Row))
    (waits' : List Bool)
    → Entered (length out) rows waits m out rows' waits'
    → AreLong (length out) rows
    → AreLong (length out) rows'
entered_long rows waits m out rows' waits' h long =
    subst (λ r. AreLong (length out) r) (sym h.rows_are)
    (long_set (length out) rows m (Some (brought (row_at rows m) out)) long
    (brought_long (length out) (row_at rows m) out (long_at (length out) rows m long) refl))

pub entered_lengths : (k : ℕ) (rows : List (Option Row)) (waits : List Bool) (m : ℕ) (out : Row)
    (rows' : List (Option Row)) (waits' : List Bool)
    → Entered k rows waits m out rows' waits'
    → (length rows' ≡ length rows) × (length waits' ≡ length waits)
entered_lengths k rows waits m out rows' waits' h = (
  ap length h.rows_are ∙ length-set rows m (Some (brought (row_at rows m) out)),
  ⊎_elim (λ a. ap length a.0 ∙ length-set waits m true) (λ a. ap length a.0) h.less,
)

-- ---- several blocks

-- What holds as a row is brought to blocks one after the other.
pub record Bringing (out : Row) (ms : List ℕ) (rows : List (Option Row)) (waits : List Bool) (rows' : List (Option Row))
    (waits' : List Bool) : Type 0 where
  pub entered : EnteredAll (length out) out rows waits ms rows' waits'
  pub long : AreLong (length out) rows'
  pub rows_long : length rows' ≡ length rows
  pub waits_long : length waits' ≡ length waits

pub bringing_first : (out : Row) (rows : List (Option Row)) (waits : List Bool)
    → AreLong (length out) rows
    → Bringing out [] rows waits rows waits
bringing_first out rows waits long = record {
  entered = (refl, refl);
  long = long;
  rows_long = refl;
  waits_long = refl;
}

entered_more : (k : ℕ) (out : Row) (ms : List ℕ) (rows : List (Option Row)) (waits : List Bool)
    (rows' : List (Option Row)) (waits' : List Bool) (m : ℕ) (rows'' : List (Option Row)) (waits'' : List Bool)
    → EnteredAll k out rows waits ms rows' waits'
    → Entered k rows' waits' m out rows'' waits''
    → EnteredAll k out rows waits (ms ++ m ∷ []) rows'' waits''
entered_more k out [] rows waits rows' waits' m rows'' waits'' h e = (
  rows'',
  (
    waits'',
    (
      subst (λ r. Entered k r waits m out rows'' waits'') h.0
          (subst (λ w. Entered k rows' w m out rows'' waits'') h.1 e),
      (refl, refl),
    ),
  ),
)
entered_more k out (x ∷ ms) rows waits rows' waits' m rows'' waits'' h e =
    (h.0, (h.1.0, (h.1.1.0, entered_more k out ms h.0 h.1.0 rows' waits' m rows'' waits'' h.1.1.1 e)))

pub bringing_more : (out : Row) (ms : List ℕ) (rows : List (Option Row)) (waits : List Bool) (rows' : List (Option Row))
    (waits' : List Bool) (m : ℕ) (rows'' : List (Option Row)) (waits'' : List Bool)
    → Bringing out ms rows waits rows' waits'
    → Entered (length out) rows' waits' m out rows'' waits''
    → Bringing out (ms ++ m ∷ []) rows waits rows'' waits''
bringing_more out ms rows waits rows' waits' m rows'' waits'' x e =
    let n = entered_lengths (length out) rows' waits' m out rows'' waits'' e in
    record {
      entered = entered_more (length out) out ms rows waits rows' waits' m rows'' waits'' x.entered e;
      long = entered_long rows' waits' m out rows'' waits'' e x.long;
      rows_long = n.0 ∙ x.rows_long;
      waits_long = n.1 ∙ x.waits_long;
    }
