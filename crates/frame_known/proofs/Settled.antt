-- What the passing of blocks keeps.
use Rattle.std.proofs.Common.{◌≡◌, ◌≢◌, ℕ, ◌+◌, ◌<◌, ◌≤◌, Bool, true, false, List, [], ◌∷◌, length, set, Option, Some, None, refl, sym, ap, ◌∙◌, subst, ◌⊎◌, inl, inr, ⊎_elim, arith}
use Rattle.std.specs.Prelude.{slice_get}
use Rattle.std.proofs.Math.ListN.{length-set}
use Rattle.std.proofs.lemmas.List.{get_or-set_same, get_or-set_other}
use Rattle.std.proofs.lemmas.Bool.{cases_eq}
use Rattle.pcode_model.specs.declared.listing.Place.{Place}
use Rattle.pcode_model.specs.declared.listing.Varnode.{Varnode}
use Rattle.pcode_model.specs.declared.listing.Listing.{Listing}
use Rattle.pcode_model.specs.declared.flow.Block.{Block}
use Rattle.pcode_model.specs.Step.{first_place}
use Rattle.pcode_model.specs.Flow.{IsIn, starts_of}
use Rattle.frame_facts.specs.Facts.{AreSupported, Facts}
use Rattle.frame_known.specs.declared.slots.Slots.{Slots}
use Rattle.frame_known.specs.Rows.{IsRow, Row, knows}
use Rattle.frame_known.specs.Meeting.{along, common}
use Rattle.frame_known.specs.Entering.{Entered, EnteredAll, brought, nexts, row_at, waiting, waits_at, weight, weights}
use Rattle.frame_known.specs.Settling.{IsDone, KnowsNoLess, Nothing_owed, Owes, Settling}
use Rattle.frame_known.proofs.Common.{common_both, common_fine, common_left, common_right, waiting_on, weights_set}

module _ (l : Listing) (s : Slots) (blocks : List Block) where
  no_less_over : (row' row'' : Row) (out : Row)
      → KnowsNoLess (knows s row'') (knows s row')
      → KnowsNoLess (knows s row') (knows s out)
      → KnowsNoLess (knows s row'') (knows s out)
  no_less_over row' row'' out a b v c h = b v c (a v c h)

  -- ---- what comes of a row that is brought

  module _ (o : Option Row) (out : Row) (good : IsRow s out) (fine : (row : Row) → o ≡ Some row → IsRow s row) where
    brought_by : (P : Row → Type 0)
        → P out
        → ((row : Row) → o ≡ Some row → P (common row out))
        → P (brought o out)
    brought_by P none some = by o refl where
      by : (x : Option Row) → o ≡ x → P (brought x out)
      by None e = none
      by (Some row) e = some row e

    brought_fine : IsRow s (brought o out)
    brought_fine = brought_by (λ r. IsRow s r) good (λ row e. common_fine s row out (fine row e) good)

    brought_out : KnowsNoLess (knows s (brought o out)) (knows s out)
    brought_out =
        brought_by (λ r. KnowsNoLess (knows s r) (knows s out)) (λ v c h. h)
        (λ row e. common_right s row out (fine row e) good)

    brought_old : (old : Row) → o ≡ Some old → KnowsNoLess (knows s (brought o out)) (knows s old)
    brought_old old e =
        subst (λ x. KnowsNoLess (knows s (brought x out)) (knows s old)) (sym e)
        (common_left s old out (fine old e) good)

    brought_all : (k : Varnode → ℕ → Bool)
        → KnowsNoLess k (knows s out)
        → ((row : Row) → o ≡ Some row → KnowsNoLess k (knows s row))
        → KnowsNoLess k (knows s (brought o out))
    brought_all k a b =
        brought_by (λ r. KnowsNoLess k (knows s r)) a
        (λ row e v c h. common_both s row out (fine row e) good v c (b row e v c h) (a v c h))

  -- ---- one block that a row is brought to

  module _
      (owed : ℕ → ℕ → Type 0)
      (k : ℕ)
      (rows : List (Option Row))
      (waits : List Bool)
      (m : ℕ)
      (out : Row)
      (rows' : List (Option Row))
      (waits' : List Bool)
      (x : Settling l s blocks owed rows waits)
      (inside : m < length blocks)
      (good : IsRow s out)
      (whole : (f : Facts) (p : Place)
      → AreSupported l [] f
      → slice_get (starts_of blocks) m ≡ Some p
      → KnowsNoLess (f p) (knows s out))
      (entered : Entered k rows waits m out rows' waits')
    where
      abbrev new : Row
      new = brought (row_at rows m) out

      old_fine : (row : Row) → row_at rows m ≡ Some row → IsRow s row
      old_fine row e = x.fine m row e

      at_it : row_at rows' m ≡ Some new
      at_it =
          ap (λ r. row_at r m) entered.rows_are
          ∙ get_or-set_same rows m (Some new) None (omega (arith, inside, x.long))

      elsewhere : (n : ℕ) → n ≢ m → row_at rows' n ≡ row_at rows n
      elsewhere n ne = ap (λ r. row_at r n) entered.rows_are ∙ get_or-set_other rows m n (Some new) None ne

      -- what holds of the new row here and of old rows elsewhere holds of all
      by_number : (P : ℕ → Row → Type 0)
          → P m new
          → ((n : ℕ) (row : Row) → row_at rows n ≡ Some row → P n row)
          → (n : ℕ) (row : Row)
          → row_at rows' n ≡ Some row
          → P n row
      by_number P here other n row e =
          ⊎_elim
          (λ (same : n ≡ m).
          let is : new ≡ row = let f : Some new ≡ Some row = sym at_it ∙ ap (row_at rows') (sym same) ∙ e in cc in
          subst (λ j. P j row) (sym same) (subst (λ r. P m r) is here))
          (λ (ne : n ≢ m). other n row (sym (elsewhere n ne) ∙ e))
          (cases_eq n m)

      still : (n : ℕ) (row : Row) → row_at rows n ≡ Some row → (row' : Row) × (row_at rows' n ≡ Some row')
      still n row e =
          ⊎_elim
          (λ (same : n ≡ m). (new, ap (row_at rows') same ∙ at_it))
          (λ (ne : n ≢ m). (row, elsewhere n ne ∙ e))
          (cases_eq n m)

      -- what was known at the end of a block in front still is
      still_done : (row : Row) (b : Block) (j : ℕ) → IsDone l s blocks rows row b j → IsDone l s blocks rows' row b j
      still_done row b j h =
          ⊎_elim
          (λ (same : j ≡ m).
          let was : row_at rows m ≡ Some h.0 = ap (row_at rows) (sym same) ∙ h.1.0 in (
            new,
            (
              ap (row_at rows') same ∙ at_it,
              no_less_over h.0 new (along l s row b.places) (brought_old (row_at rows m) out good old_fine h.0 was) h.1.1,
            ),
          ))
          (λ (ne : j ≢ m). (h.0, (elsewhere j ne ∙ h.1.0, h.1.1)))
          (cases_eq j m)

      -- a block that doesn't wait now didn't wait before, and has the row that it had
      unmoved : (n : ℕ) → waits_at waits' n ≡ false → (waits_at waits n ≡ false) × (row_at rows' n ≡ row_at rows n)
      unmoved n h =
          ⊎_elim
          (λ a. ⊎_elim
          (λ (same : n ≡ m).
          let t : waits_at waits' n ≡ true =
          ap (λ w. waits_at w n) a.0 ∙ ap (waits_at (set waits m true)) same
          ∙ get_or-set_same waits m true false (omega (arith, inside, x.long_waits)) in
          absurd (let bad : true ≡ false = sym t ∙ h in cc))
          (λ (ne : n ≢ m).
          (sym (get_or-set_other waits m n true false ne) ∙ sym (ap (λ w. waits_at w n) a.0) ∙ h, elsewhere n ne))
          (cases_eq n m))
          (λ a. (
            ap (λ w. waits_at w n) (sym a.0) ∙ h,
            ⊎_elim
                (λ (same : n ≡ m). ap (row_at rows') same ∙ at_it ∙ sym a.1 ∙ ap (row_at rows) (sym same))
                (λ (ne : n ≢ m). elsewhere n ne)
                (cases_eq n m),
          ))
          entered.less

      long_waits' : length waits' ≡ length waits
      long_waits' = ⊎_elim (λ a. ap length a.0 ∙ length-set waits m true) (λ a. ap length a.0) entered.less

      waits_by : (n : ℕ) → waits_at waits' n ≡ true → (n ≡ m) ⊎ (waits_at waits n ≡ true)
      waits_by n h =
          ⊎_elim
          (λ a. ⊎_elim (λ (same : n ≡ m). inl same)
          (λ (ne : n ≢ m). inr (sym (get_or-set_other waits m n true false ne) ∙ sym (ap (λ w. waits_at w n) a.0) ∙ h))
          (cases_eq n m))
          (λ a. inr (ap (λ w. waits_at w n) (sym a.0) ∙ h))
          entered.less

      pub settling_on : Settling l s blocks owed rows' waits'
      settling_on = record {
        long = ap length entered.rows_are ∙ length-set rows m (Some new) ∙ x.long;
        long_waits = long_waits' ∙ x.long_waits;
        fine = by_number (λ n row. IsRow s row) (brought_fine (row_at rows m) out good old_fine) x.fine;
        start = λ n row v c is e h.
            by_number (λ n row. slice_get (starts_of blocks) n ≡ Some (first_place l) → knows s row v c ≡ true
            → (l.stack ≡ Some v) × (c ≡ 0))
            (λ is h.
            let old = x.begun m is in
            x.start m old.0 v c is old.1 (brought_old (row_at rows m) out good old_fine old.0 old.1 v c h))
            (λ n row e is h. x.start n row v c is e h)
            n row e is h;
        begun = λ n is. let old = x.begun n is in still n old.0 old.1;
        all = λ f n p row sup is e.
            by_number (λ n row. (p : Place) → slice_get (starts_of blocks) n ≡ Some p → KnowsNoLess (f p) (knows s row))
            (λ p is. brought_all (row_at rows m) out good old_fine (f p) (whole f p sup is)
            (λ row e. x.all f m p row sup is e))
            (λ n row e p is. x.all f n p row sup is e)
            n row e p is;
        done = λ n b row j is e h next.
            let u = unmoved n h in
            ⊎_elim (λ a. inl (still_done row b j a)) (λ o. inr o) (x.done n b row j is (sym u.1 ∙ e) u.0 next);
        waited = λ n h.
            ⊎_elim
            (λ (same : n ≡ m). (new, ap (row_at rows') same ∙ at_it))
            (λ w. let old = x.waited n w in still n old.0 old.1)
            (waits_by n h);
      }

      -- the row that it has now knows no more than what was brought
      pub brought_to : (row' : Row) × ((row_at rows' m ≡ Some row') × KnowsNoLess (knows s row') (knows s out))
      brought_to = (new, (at_it, brought_out (row_at rows m) out good old_fine))

      pub own_row : (n : ℕ) (row : Row)
          → (waits_at waits n ≡ false → row_at rows n ≡ Some row)
          → waits_at waits' n ≡ false
          → row_at rows' n ≡ Some row
      own_row n row own h = let u = unmoved n h in u.1 ∙ own u.0

      pub less_on : weights k rows' + waiting waits' ≤ weights k rows + waiting waits
      less_on =
          let w = weights_set k rows m (Some new) (omega (arith, inside, x.long)) in
          let is : weights k rows' ≡ weights k (set rows m (Some new)) = ap (weights k) entered.rows_are in
          ⊎_elim
          (λ a.
          let v : waiting waits' ≡ waiting (set waits m true) = ap waiting a.0 in
          omega (arith, w, is, v, a.1, waiting_on waits m))
          (λ a.
          let v : waiting waits' ≡ waiting waits = ap waiting a.0 in
          let same : weight k (row_at rows m) ≡ weight k (Some new) = ap (weight k) a.1 in
          omega (arith, w, is, v, same))
          entered.less

  -- ---- a block that is passed

  module _
      (k n : ℕ)
      (b : Block)
      (row out : Row)
      (is : slice_get blocks n ≡ Some b)
      (out_is : out ≡ along l s row b.places)
      (good : IsRow s out)
    where
      abbrev Whole : ℕ → Type 0
      Whole m = (f : Facts) (p : Place)
          → AreSupported l [] f
          → slice_get (starts_of blocks) m ≡ Some p
          → KnowsNoLess (f p) (knows s out)

      less_owed : (ms : List ℕ) (m : ℕ) (rows : List (Option Row)) (waits : List Bool)
          → Settling l s blocks (Owes n (m ∷ ms)) rows waits
          → (waits_at waits n ≡ false → row_at rows n ≡ Some row)
          → (row' : Row) × ((row_at rows m ≡ Some row') × KnowsNoLess (knows s row') (knows s out))
          → Settling l s blocks (Owes n ms) rows waits
      less_owed ms m rows waits x own got = record {
        long = x.long;
        long_waits = x.long_waits;
        fine = x.fine;
        start = x.start;
        begun = x.begun;
        all = x.all;
        done = λ j d r q is_d e h next.
            ⊎_elim (λ a. inl a)
            (λ o. ⊎_elim
            (λ (same : q ≡ m).
            let here : d ≡ b = let f : Some d ≡ Some b = sym is_d ∙ ap (slice_get blocks) o.0 ∙ is in cc in
            let mine : row_at rows n ≡ Some row = own (ap (waits_at waits) (sym o.0) ∙ h) in
            let this : r ≡ row = let f : Some r ≡ Some row = sym e ∙ ap (row_at rows) o.0 ∙ mine in cc in
            let end : out ≡ along l s r d.places =
            out_is ∙ ap (λ z. along l s z b.places) (sym this) ∙ ap (λ z. along l s r z.places) (sym here) in
            inl (
              got.0,
              (
                ap (row_at rows) same ∙ got.1.0,
                subst (λ z. KnowsNoLess (knows s got.0) (knows s z)) end got.1.1,
              ),
            ))
            (λ later. inr (o.0, later))
            o.1)
            (x.done j d r q is_d e h next);
        waited = x.waited;
      }

      pub settling_all : (ms : List ℕ) (rows : List (Option Row)) (waits : List Bool) (rows' : List (Option Row))
          (waits' : List Bool)
          → Settling l s blocks (Owes n ms) rows waits
          → (waits_at waits n ≡ false → row_at rows n ≡ Some row)
          → ((m : ℕ) → IsIn m ms → m < length blocks)
          → ((m : ℕ) → IsIn m ms → Whole m)
          → EnteredAll k out rows waits ms rows' waits'
          → Settling l s blocks Nothing_owed rows' waits' × (weights k rows' + waiting waits' ≤ weights k rows + waiting waits)
      settling_all [] rows waits rows' waits' x own inside whole h =
          let y : Settling l s blocks Nothing_owed rows waits = record {
            long = x.long;
            long_waits = x.long_waits;
            fine = x.fine;
            start = x.start;
            begun = x.begun;
            all = x.all;
            done = λ j d r q is_d e h next. ⊎_elim (λ a. inl a) (λ o. absurd o.1) (x.done j d r q is_d e h next);
            waited = x.waited;
          } in
          let p : weights k rows' ≡ weights k rows = ap (weights k) h.0 in
          let q : waiting waits' ≡ waiting waits = ap waiting h.1 in (
            subst (λ r. Settling l s blocks Nothing_owed r waits') (sym h.0)
                (subst (λ w. Settling l s blocks Nothing_owed rows w) (sym h.1) y),
            omega (arith, p, q),
          )
      settling_all (m ∷ ms) rows waits rows' waits' x own inside whole h =
          let r = h.0 in
          let w = h.1.0 in
          let e = h.1.1.0 in
          let here = inside m (inl refl) in
          let all = whole m (inl refl) in
          let next = settling_on (Owes n (m ∷ ms)) k rows waits m out r w x here good all e in
          let mine = own_row (Owes n (m ∷ ms)) k rows waits m out r w x here good all e n row own in
          let got = brought_to (Owes n (m ∷ ms)) k rows waits m out r w x here good all e in
          let less = less_on (Owes n (m ∷ ms)) k rows waits m out r w x here good all e in
          let rest =
          settling_all ms r w rows' waits' (less_owed ms m r w next mine got) mine (λ j i. inside j (inr i))
          (λ j i. whole j (inr i)) h.1.1.1 in
          (rest.0, omega (arith, rest.1, less))

  -- as a block is taken from those that wait, what its end knows is owed
  pub taken : (n : ℕ) (b : Block) (rows : List (Option Row)) (waits : List Bool)
      → Settling l s blocks Nothing_owed rows waits
      → slice_get blocks n ≡ Some b
      → n < length blocks
      → Settling l s blocks (Owes n (nexts b.exit)) rows (set waits n false)
  taken n b rows waits x is inside = record {
    long = x.long;
    long_waits = length-set waits n false ∙ x.long_waits;
    fine = x.fine;
    start = x.start;
    begun = x.begun;
    all = x.all;
    done = λ j d r q is_d e h next.
        ⊎_elim
        (λ (same : j ≡ n).
        let here : d ≡ b = let f : Some d ≡ Some b = sym is_d ∙ ap (slice_get blocks) same ∙ is in cc in
        inr (same, subst (λ z. IsIn q (nexts z.exit)) here next))
        (λ (ne : j ≢ n).
        ⊎_elim (λ a. inl a) (λ o. absurd o)
        (x.done j d r q is_d e (sym (get_or-set_other waits n j false false ne) ∙ h) next))
        (cases_eq j n);
    waited = λ j h.
        ⊎_elim
        (λ (same : j ≡ n).
        let t : waits_at (set waits n false) j ≡ false =
        ap (waits_at (set waits n false)) same
        ∙ get_or-set_same waits n false false (omega (arith, inside, x.long_waits)) in
        absurd (let bad : true ≡ false = sym h ∙ t in cc))
        (λ (ne : j ≢ n). x.waited j (sym (get_or-set_other waits n j false false ne) ∙ h))
        (cases_eq j n);
  }
