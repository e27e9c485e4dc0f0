-- A row loses what another one doesn't know, entry by entry.
use Rattle.std.proofs.Common.{◌≡◌, ◌≢◌, ℕ, zero, suc, ◌+◌, ◌<◌, ◌≤◌, Bool, true, false, [], ◌∷◌, length, set, Option, Some, None, refl, sym, ap, ◌∙◌, subst, ⊎_elim, arith}
use Rattle.std.specs.Prelude.{cond, ◌==◌, not}
use Rattle.std.proofs.Math.ListN.{length-set}
use Rattle.std.proofs.lemmas.Bool.{cases_Bool, cases_eq}
use Rattle.std.proofs.lemmas.List.{ext_get_or, get_or-set_same, get_or-set_other}
use Rattle.frame_known.specs.Rows.{Row}
use Rattle.frame_known.specs.Steps.{entry}
use Rattle.frame_known.specs.Meeting.{KeepsCommon, both, common, count, is_lost, one_known}
use Rattle.frame_known.proofs.Common.{common_long}

-- so many entries are those that both know
pub record Joining (row other : Row) (n : ℕ) (less : Bool) (row' : Row) : Type 0 where
  pub long : length row' ≡ length row
  pub before : (k : ℕ) → k < n → entry row' k ≡ both (entry row k) (entry other k)
  pub behind : (k : ℕ) → n ≤ k → entry row' k ≡ entry row k
  pub fewer : less ≡ true → count row' < count row
  pub same : less ≡ false → row' ≡ row

both_kept : (r t : Option ℕ) → is_lost r t ≡ false → both r t ≡ r
both_kept None t h = refl
both_kept (Some c) None h = absurd (cc)
both_kept (Some c) (Some d) h = by (c == d) h where
  by : (b : Bool) → not b ≡ false → cond b (Some c) None ≡ Some c
  by true h = refl
  by false h = absurd (cc)

both_lost : (r t : Option ℕ) → is_lost r t ≡ true → (both r t ≡ None) × (one_known r ≡ 1)
both_lost None t h = absurd (cc)
both_lost (Some c) None h = (refl, refl)
both_lost (Some c) (Some d) h = by (c == d) h where
  by : (b : Bool) → not b ≡ true → (cond b (Some c) None ≡ None) × (one_known (Some c) ≡ 1)
  by true h = absurd (cc)
  by false h = (refl, refl)

count_set : (row : Row) (n : ℕ) (r : Option ℕ)
    → n < length row
    → count (set row n r) + one_known (entry row n) ≡ count row + one_known r
count_set [] n r lt = absurd (omega (arith, lt))
count_set (t ∷ row) zero r lt = omega arith
count_set (t ∷ row) (suc n) r lt = omega (arith, count_set row n r (omega (arith, lt)))

pub joining_first : (row other : Row) → Joining row other 0 false row
joining_first row other = record {
  long = refl;
  before = λ k lt. absurd (omega (arith, lt));
  behind = λ k le. refl;
  fewer = λ h. absurd (cc);
  same = λ h. refl;
}

module _ (row other : Row) (n : ℕ) (less : Bool) (row' : Row) (x : Joining row other n less row') where
  pub joining_kept : is_lost (entry row' n) (entry other n) ≡ false → Joining row other (n + 1) less row'
  joining_kept h = record {
    long = x.long;
    before = λ k lt. ⊎_elim
        (λ (e : k ≡ n).
        let here : entry row' n ≡ entry row n = x.behind n (omega arith) in
        let is : entry row' n ≡ both (entry row n) (entry other n) =
        sym (both_kept (entry row' n) (entry other n) h) ∙ ap (λ r. both r (entry other n)) here in
        subst (λ j. entry row' j ≡ both (entry row j) (entry other j)) (sym e) is)
        (λ (ne : k ≢ n). x.before k (omega (arith, lt, ne)))
        (cases_eq k n);
    behind = λ k le. x.behind k (omega (arith, le));
    fewer = x.fewer;
    same = x.same;
  }

  pub joining_lost : n < length row
      → is_lost (entry row' n) (entry other n) ≡ true
      → Joining row other (n + 1) true (set row' n None)
  joining_lost lt h =
      let lost = both_lost (entry row' n) (entry other n) h in
      let here : entry row' n ≡ entry row n = x.behind n (omega arith) in
      let inside : n < length row' = omega (arith, lt, x.long) in
      let counts = count_set row' n None inside in
      let most : count row' ≤ count row =
      ⊎_elim (λ (t : less ≡ true). let f = x.fewer t in omega (arith, f))
      (λ (t : less ≡ false). let f : count row' ≡ count row = ap count (x.same t) in omega (arith, f))
      (cases_Bool less) in
      record {
        long = length-set row' n None ∙ x.long;
        before = λ k lt. ⊎_elim
            (λ (e : k ≡ n).
            let is : entry (set row' n None) n ≡ both (entry row n) (entry other n) =
            get_or-set_same row' n None None inside ∙ sym lost.0 ∙ ap (λ r. both r (entry other n)) here in
            subst (λ j. entry (set row' n None) j ≡ both (entry row j) (entry other j)) (sym e) is)
            (λ (ne : k ≢ n). get_or-set_other row' n k None None ne ∙ x.before k (omega (arith, lt, ne)))
            (cases_eq k n);
        behind = λ k le. get_or-set_other row' n k None None (λ e. omega (arith, e, le)) ∙ x.behind k (omega (arith, le));
        fewer = λ t. omega (arith, counts, lost.1, most);
        same = λ t. absurd (cc);
      }

entry_common : (row other : Row) (k : ℕ) → length row ≡ length other → k < length row
    → entry (common row other) k ≡ both (entry row k) (entry other k)
entry_common [] other k e lt = absurd (omega (arith, lt))
entry_common (r ∷ row) [] k e lt = absurd (omega (arith, e))
entry_common (r ∷ row) (t ∷ other) zero e lt = refl
entry_common (r ∷ row) (t ∷ other) (suc k) e lt = entry_common row other k (omega (arith, e)) (omega (arith, lt))

pub joining_all : (row other : Row) (less : Bool) (row' : Row)
    → length row ≡ length other
    → Joining row other (length other) less row'
    → KeepsCommon row other less row'
joining_all row other less row' e x = record {
  is =
      ext_get_or None row' (common row other) (x.long ∙ sym (common_long row other e))
      (λ k lt. x.before k (omega (arith, lt, x.long, e))
      ∙ sym (entry_common row other k e (omega (arith, lt, x.long))));
  fewer = x.fewer;
  same = x.same;
}
