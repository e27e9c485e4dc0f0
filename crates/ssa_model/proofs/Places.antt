-- An op that is put in before another one, and an op that is taken out.
use Rattle.std.proofs.Common.{◌≡◌, ℕ, List, ◌⊎◌, inl, inr, Option, Some, None, refl, sym, ap, ◌∙◌, subst}
use Rattle.heap_nodes.proofs.Places.{none_some, some_same}
use Rattle.node_lists.specs.Chains.{IsIn, removed, put_at}
use Rattle.node_lists.specs.Families.{inserted}
use Rattle.node_lists.proofs.Chains.{cases_key, put_here, put_away}
use Rattle.opgraph.specs.Graph.{OpRow}
use Rattle.opgraph.proofs.Whole.{in_at}
use Rattle.ssa_model.specs.Roles.{role_of}
use Rattle.ssa_model.specs.Outline.{OpForm, Form, form_in, outline}
use Rattle.ssa_model.specs.Paths.{IsPassed, IsJoin, UsedAt, Read, Joined, Available, Strict, before_op}
use Rattle.ssa_model.specs.Formed.{Formed}
use Rattle.ssa_model.specs.Edits.{IsSsa, with_op, without_op, AreAvailable}
use Rattle.ssa_model.proofs.Rows.{home, passed_by}
use Rattle.ssa_model.proofs.Lists.{before_new, in_inserted, before_inserted, in_removed, before_removed}

-- what is passed before a place is passed before a later one
pub passed_more : (o : Option OpForm) (v : ℕ) (passed before more : List ℕ)
    → (IsIn v before → IsIn v more)
    → IsPassed o v passed before
    → IsPassed o v passed more
passed_more None v passed before more k h = absurd h
passed_more (Some g) v passed before more k (inl m) = inl m
passed_more (Some g) v passed before more k (inr m) = inr (k m)

-- a list of ops by its block, where that of one block is another one
module _ (b : ℕ) (ps : List ℕ) (lists : ℕ → List ℕ) where
  kept_in : (v c : ℕ) (cut : List ℕ → List ℕ)
      → (IsIn v (cut (lists b)) → IsIn v (cut ps))
      → IsIn v (cut (lists c))
      → IsIn v (cut (put_at (Some b) ps lists c))
  kept_in v c cut h m = by_case (cases_key (Some b) (Some c))
    where
      by_case : (Some b ≡ Some c) ⊎ (Some b ≡ Some c → ⊥) → IsIn v (cut (put_at (Some b) ps lists c))
      by_case (inl e) =
          subst (λ qs. IsIn v (cut qs)) (sym (put_here ps (Some b) lists c e))
          (h (subst (λ d. IsIn v (cut (lists d))) (sym (some_same e)) m))
      by_case (inr n) = subst (λ qs. IsIn v (cut qs)) (sym (put_away ps (Some b) lists c n)) m

module _ (x at : ℕ) (s : OpRow) (f : Form) (fresh : f.rows x ≡ None) (apart : IsIn x (f.lists s.block) → ⊥) where
  abbrev new : Form
  new = with_op x at s f

  new_passed : (v : ℕ) (passed before : List ℕ)
      → IsPassed (form_in f.rows (f.rows v)) v passed before
      → IsPassed (form_in new.rows (new.rows v)) v passed before
  new_passed v passed before h = by_case (cases_key (Some x) (Some v))
    where
      by_case : (Some x ≡ Some v) ⊎ (Some x ≡ Some v → ⊥) → IsPassed (form_in new.rows (new.rows v)) v passed before
      by_case (inl e) =
          absurd
          (subst (λ (o : Option OpRow). IsPassed (form_in f.rows o) v passed before)
          (ap f.rows (sym (some_same e)) ∙ fresh) h)
      by_case (inr n) =
          passed_by f.rows new.rows (f.rows v) (new.rows v) v passed before
          (ap home (sym (put_away (Some s) (Some x) f.rows v n))) h

  new_row : (y : ℕ) (t : OpRow)
      → new.rows y ≡ Some t
      → ((x ≡ y) × (s ≡ t)) ⊎ ((x ≡ y → ⊥) × (f.rows y ≡ Some t))
  new_row y t e = by_case (cases_key (Some x) (Some y))
    where
      by_case : (Some x ≡ Some y) ⊎ (Some x ≡ Some y → ⊥)
          → ((x ≡ y) × (s ≡ t)) ⊎ ((x ≡ y → ⊥) × (f.rows y ≡ Some t))
      by_case (inl h) = inl (some_same h, some_same (sym (put_here (Some s) (Some x) f.rows y h) ∙ e))
      by_case (inr n) = inr ((λ h. n (ap Some h)), sym (put_away (Some s) (Some x) f.rows y n) ∙ e)

  own_list : new.lists s.block ≡ inserted x at (f.lists s.block)
  own_list = put_here (inserted x at (f.lists s.block)) (Some s.block) f.lists s.block refl

  module _ (strict : Strict f) (plain : IsJoin (role_of s.code) → ⊥) (available : AreAvailable f at s s.inputs) where
    new_passes : (v b : ℕ) (before : List ℕ) → UsedAt new v b before → Available (outline new) v b before
    new_passes v b before (Read y t e n m eb eo) = by_case (new_row y t e)
      where
        by_case : ((x ≡ y) × (s ≡ t)) ⊎ ((x ≡ y → ⊥) × (f.rows y ≡ Some t)) → Available (outline new) v b before
        by_case (inl h) =
            let eb' : s.block ≡ b = ap (λ (z : OpRow). z.block) h.1 ∙ sym eb in
            let eo' : before_op at (f.lists s.block) ≡ before =
            sym (before_new x at (f.lists s.block) apart)
            ∙ ap (before_op x) (sym own_list)
            ∙ (λ i. before_op (h.0 i) (new.lists ((h.1 i).block)))
            ∙ sym eo in
            subst (λ c. Available (outline new) v c before) eb'
            (subst (Available (outline new) v s.block) eo'
            (λ passed p.
            new_passed v passed (before_op at (f.lists s.block))
            (available.at v (subst (λ (z : OpRow). IsIn v z.inputs) (sym h.1) m) passed p)))
        by_case (inr h) =
            let old = strict.passes v b (before_op y (f.lists t.block)) (Read y t h.1 n m eb refl) in
            subst (Available (outline new) v b) (sym eo)
            (λ passed p.
            new_passed v passed (before_op y (new.lists t.block))
            (passed_more (form_in f.rows (f.rows v)) v passed (before_op y (f.lists t.block))
            (before_op y (new.lists t.block))
            (kept_in s.block (inserted x at (f.lists s.block)) f.lists v t.block (before_op y)
            (before_inserted x at y v (f.lists s.block) h.0)) (old passed p)))
    new_passes v b before (Joined y k t e j ep ev eo) = by_case (new_row y t e)
      where
        by_case : ((x ≡ y) × (s ≡ t)) ⊎ ((x ≡ y → ⊥) × (f.rows y ≡ Some t)) → Available (outline new) v b before
        by_case (inl h) = absurd (plain (subst (λ (z : OpRow). IsJoin (role_of z.code)) (sym h.1) j))
        by_case (inr h) =
            let old = strict.passes v b (f.lists b) (Joined y k t h.1 j ep ev refl) in
            subst (Available (outline new) v b) (sym eo)
            (λ passed p.
            new_passed v passed (new.lists b)
            (passed_more (form_in f.rows (f.rows v)) v passed (f.lists b) (new.lists b)
            (kept_in s.block (inserted x at (f.lists s.block)) f.lists v b (λ qs. qs)
            (in_inserted x at v (f.lists s.block))) (old passed p)))

    -- a function is strict and formed with one op more, where it is formed then
    pub ssa_added : Formed (outline new) → IsSsa new
    ssa_added h = record { strict = record { passes = new_passes }; formed = h }

module _ (x : ℕ) (r : OpRow) (f : Form) (unread : (y : ℕ) (t : OpRow) → f.rows y ≡ Some t → IsIn x t.inputs → ⊥) where
  abbrev rest : Form
  rest = without_op x r f

  rest_passed : (v : ℕ) (passed before : List ℕ)
      → (v ≡ x → ⊥)
      → IsPassed (form_in f.rows (f.rows v)) v passed before
      → IsPassed (form_in rest.rows (rest.rows v)) v passed before
  rest_passed v passed before far h =
      passed_by f.rows rest.rows (f.rows v) (rest.rows v) v passed before
      (ap home
      (sym (put_away None (Some x) f.rows v (λ e. far (sym (some_same e)))))) h

  rest_row : (y : ℕ) (t : OpRow) → rest.rows y ≡ Some t → f.rows y ≡ Some t
  rest_row y t e = by_case (cases_key (Some x) (Some y))
    where
      by_case : (Some x ≡ Some y) ⊎ (Some x ≡ Some y → ⊥) → f.rows y ≡ Some t
      by_case (inl h) = none_some (sym (put_here None (Some x) f.rows y h) ∙ e)
      by_case (inr n) = sym (put_away None (Some x) f.rows y n) ∙ e

  module _ (strict : Strict f) where
    rest_passes : (v b : ℕ) (before : List ℕ) → UsedAt rest v b before → Available (outline rest) v b before
    rest_passes v b before (Read y t e n m eb eo) =
        let h = rest_row y t e in
        let far : v ≡ x → ⊥ = λ q. unread y t h (subst (λ w. IsIn w t.inputs) q m) in
        let old = strict.passes v b (before_op y (f.lists t.block)) (Read y t h n m eb refl) in
        subst (Available (outline rest) v b) (sym eo)
        (λ passed p.
        rest_passed v passed (before_op y (rest.lists t.block)) far
        (passed_more (form_in f.rows (f.rows v)) v passed (before_op y (f.lists t.block))
        (before_op y (rest.lists t.block))
        (kept_in r.block (removed x (f.lists r.block)) f.lists v t.block (before_op y)
        (before_removed x y v (f.lists r.block) far)) (old passed p)))
    rest_passes v b before (Joined y k t e j ep ev eo) =
        let h = rest_row y t e in
        let far : v ≡ x → ⊥ = λ q. unread y t h (subst (λ w. IsIn w t.inputs) q (in_at t.inputs k v ev)) in
        let old = strict.passes v b (f.lists b) (Joined y k t h j ep ev refl) in
        subst (Available (outline rest) v b) (sym eo)
        (λ passed p.
        rest_passed v passed (rest.lists b) far
        (passed_more (form_in f.rows (f.rows v)) v passed (f.lists b) (rest.lists b)
        (kept_in r.block (removed x (f.lists r.block)) f.lists v b (λ qs. qs)
        (in_removed x v (f.lists r.block) far)) (old passed p)))

    -- a function is strict and formed without an op that nothing reads, where it is formed then
    pub ssa_dropped : Formed (outline rest) → IsSsa rest
    ssa_dropped h = record { strict = record { passes = rest_passes }; formed = h }
