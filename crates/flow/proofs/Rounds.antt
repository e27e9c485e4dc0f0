-- What a round of the work keeps.
use Rattle.std.proofs.Common.{◌≡◌, ℕ, zero, suc, ◌+◌, ◌<◌, Bool, true, false, List, [], ◌∷◌, ◌++◌, length, set, get_or, refl, sym, ap, ◌∙◌, subst, ◌⊎◌, inl, inr, ⊎_elim, arith, length-append}
use Rattle.std.proofs.Math.ListN.{length-set}
use Rattle.std.proofs.lemmas.List.{get_or-set_same, get_or-set_other}
use Rattle.std.proofs.lemmas.Bool.{cases_eq}
use Rattle.flow.specs.Slots.{Marked}
use Rattle.flow.specs.Steps.{unmarked, Noted, Expanded}
use Rattle.pcode_model.proofs.Members.{behind, in_either, in_front}

pub unmarked_set : (seen : List Bool) (m : ℕ)
    → m < length seen
    → get_or seen m false ≡ false
    → unmarked (set seen m true) + 1 ≡ unmarked seen
unmarked_set [] m lt e = absurd (omega arith)
unmarked_set (true ∷ seen) zero lt e = cc
unmarked_set (false ∷ seen) zero lt e = refl
unmarked_set (true ∷ seen) (suc m) lt e = unmarked_set seen m (omega arith) e
unmarked_set (false ∷ seen) (suc m) lt e = ap (λ k. k + 1) (unmarked_set seen m (omega arith) e)

pub marked_set : (seen : List Bool) (m n : ℕ) → m < length seen → Marked seen n → Marked (set seen m true) n
marked_set seen m n lt h =
    ⊎_elim
    (λ e.
    let P : ℕ → Type 0 = λ k. Marked (set seen m true) k in
    subst P (sym e) (get_or-set_same seen m true false lt))
    (λ ne. get_or-set_other seen m n true false ne ∙ h)
    (cases_eq n m)

pub marked_back : (seen : List Bool) (m n : ℕ) → Marked (set seen m true) n → (n ≡ m) ⊎ Marked seen n
marked_back seen m n h =
    ⊎_elim (λ e. inl e) (λ ne. inr (sym (get_or-set_other seen m n true false ne) ∙ h)) (cases_eq n m)

pub expanded_none : (seen : List Bool) (work : List ℕ) → Expanded seen work [] seen work
expanded_none seen work = record {
  long = refl;
  keeps = λ n h. h;
  waits = λ n h. h;
  all = λ n h. absurd h;
  fresh = λ n h. inl h;
  only = λ n h. inl h;
  less = refl;
}

module _ (seen : List Bool) (work xs : List ℕ) (seen' : List Bool) (work' : List ℕ) (m : ℕ) where
  -- one more of them was marked already
  more_old : Expanded seen work xs seen' work'
      → Marked seen' m
      → Expanded seen work (xs ++ m ∷ []) seen' work'
  more_old x old = record {
    long = x.long;
    keeps = x.keeps;
    waits = x.waits;
    all = λ n h. ⊎_elim
        (λ a. x.all n a)
        (λ b. ⊎_elim (λ e. let P : ℕ → Type 0 = λ k. Marked seen' k in subst P (sym e) old) (λ bad. absurd bad) b)
        (in_either xs (m ∷ []) n h);
    fresh = λ n h. ⊎_elim (λ a. inl a) (λ b. inr (in_front xs (m ∷ []) n b.0, b.1)) (x.fresh n h);
    only = x.only;
    less = x.less;
  }

  -- one more of them is marked now
  more_new : Expanded seen work xs seen' work'
      → m < length seen'
      → get_or seen' m false ≡ false
      → Expanded seen work (xs ++ m ∷ []) (set seen' m true) (work' ++ m ∷ [])
  more_new x lt new = record {
    long = length-set seen' m true ∙ x.long;
    keeps = λ n h. marked_set seen' m n lt (x.keeps n h);
    waits = λ n h. in_front work' (m ∷ []) n (x.waits n h);
    all = λ n h. ⊎_elim
        (λ a. marked_set seen' m n lt (x.all n a))
        (λ b. ⊎_elim
        (λ e.
        let P : ℕ → Type 0 = λ k. Marked (set seen' m true) k in
        subst P (sym e) (get_or-set_same seen' m true false lt))
        (λ bad. absurd bad)
        b)
        (in_either xs (m ∷ []) n h);
    fresh = λ n h. ⊎_elim
        (λ e. inr (behind xs (m ∷ []) n (inl e), behind work' (m ∷ []) n (inl e)))
        (λ old.
        ⊎_elim (λ a. inl a) (λ b. inr (in_front xs (m ∷ []) n b.0, in_front work' (m ∷ []) n b.1)) (x.fresh n old))
        (marked_back seen' m n h);
    only = λ n h. ⊎_elim
        (λ a. ⊎_elim (λ w. inl w) (λ k. inr (marked_set seen' m n lt k)) (x.only n a))
        (λ b. ⊎_elim
        (λ e. inr (let P : ℕ → Type 0 = λ k. Marked (set seen' m true) k in
        subst P (sym e) (get_or-set_same seen' m true false lt)))
        (λ bad. absurd bad)
        b)
        (in_either work' (m ∷ []) n h);
    less = omega (arith, unmarked_set seen' m lt new, length-append work' (m ∷ []), x.less);
  }

  pub expanded_more : (seen'' : List Bool) (work'' : List ℕ)
      → Expanded seen work xs seen' work'
      → m < length seen'
      → Noted seen' work' m seen'' work''
      → Expanded seen work (xs ++ m ∷ []) seen'' work''
  expanded_more seen'' work'' x lt noted =
      let P : List Bool → Type 0 = λ s. Expanded seen work (xs ++ m ∷ []) s work'' in
      ⊎_elim
      (λ a.
      let Q : List ℕ → Type 0 = λ w. Expanded seen work (xs ++ m ∷ []) seen' w in
      subst P (sym a.1.0) (subst Q (sym a.1.1) (more_old x a.0)))
      (λ b.
      let Q : List ℕ → Type 0 = λ w. Expanded seen work (xs ++ m ∷ []) (set seen' m true) w in
      subst P (sym b.1.0) (subst Q (sym b.1.1) (more_new x lt b.0)))
      noted

pub expanded_one : (seen : List Bool) (work : List ℕ) (m : ℕ) (seen' : List Bool) (work' : List ℕ)
    → m < length seen
    → Noted seen work m seen' work'
    → Expanded seen work (m ∷ []) seen' work'
expanded_one seen work m seen' work' lt noted =
    expanded_more seen work [] seen work m seen' work' (expanded_none seen work) lt noted

pub expanded_both : (seen : List Bool) (work xs : List ℕ) (seen' : List Bool) (work' ys : List ℕ)
    (seen'' : List Bool) (work'' : List ℕ)
    → Expanded seen work xs seen' work'
    → Expanded seen' work' ys seen'' work''
    → Expanded seen work (xs ++ ys) seen'' work''
expanded_both seen work xs seen' work' ys seen'' work'' x y = record {
  long = y.long ∙ x.long;
  keeps = λ n h. y.keeps n (x.keeps n h);
  waits = λ n h. y.waits n (x.waits n h);
  all = λ n h. ⊎_elim (λ a. y.keeps n (x.all n a)) (λ b. y.all n b) (in_either xs ys n h);
  fresh = λ n h. ⊎_elim
      (λ old. ⊎_elim (λ a. inl a) (λ b. inr (in_front xs ys n b.0, y.waits n b.1)) (x.fresh n old))
      (λ new. inr (behind xs ys n new.0, new.1))
      (y.fresh n h);
  only = λ n h. ⊎_elim (λ old. ⊎_elim (λ a. inl a) (λ k. inr (y.keeps n k)) (x.only n old)) (λ k. inr k) (y.only n h);
  less = y.less ∙ x.less;
}
