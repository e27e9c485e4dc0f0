-- An op that does something else: what is available stays so, since each op stands in its block.
use Rattle.std.proofs.Common.{◌≡◌, ℕ, List, ◌⊎◌, inl, inr, Option, Some, None, sym, ap, ◌∙◌, subst}
use Rattle.heap_nodes.proofs.Places.{none_some, some_same}
use Rattle.node_lists.specs.Chains.{IsIn, put_at}
use Rattle.node_lists.proofs.Chains.{cases_key, put_here, put_away}
use Rattle.opgraph.specs.Graph.{OpRow}
use Rattle.ssa_model.specs.Roles.{role_of}
use Rattle.ssa_model.specs.Outline.{Rows, Form, form_in, outline}
use Rattle.ssa_model.specs.Paths.{IsPassed, IsJoin, UsedAt, Read, Joined, Available, Strict, before_op}
use Rattle.ssa_model.specs.Formed.{Formed}
use Rattle.ssa_model.specs.Edits.{IsSsa, with_row, AreAvailable}

abbrev pub home : Option OpRow → Option ℕ
home None = None
home (Some r) = Some r.block

-- an op is passed where it stands, whatever it does
pub passed_by : (rows new : Rows) (o n : Option OpRow) (v : ℕ) (passed before : List ℕ)
    → home o ≡ home n
    → IsPassed (form_in rows o) v passed before
    → IsPassed (form_in new n) v passed before
passed_by rows new None n v passed before e h = absurd h
passed_by rows new (Some r) None v passed before e h = none_some (sym e)
passed_by rows new (Some r) (Some s) v passed before e (inl m) = inl (subst (λ b. IsIn b passed) (some_same e) m)
passed_by rows new (Some r) (Some s) v passed before e (inr m) = inr m

module _ (x : ℕ) (r s : OpRow) (f : Form) (at : f.rows x ≡ Some r) (block : s.block ≡ r.block) where
  home_kept : (v : ℕ) → home (f.rows v) ≡ home (put_at (Some x) (Some s) f.rows v)
  home_kept v = by_case (cases_key (Some x) (Some v))
    where
      by_case : (Some x ≡ Some v) ⊎ (Some x ≡ Some v → ⊥) → home (f.rows v) ≡ home (put_at (Some x) (Some s) f.rows v)
      by_case (inl e) =
          ap (λ w. home (f.rows w)) (sym (some_same e))
          ∙ ap home at
          ∙ ap Some (sym block)
          ∙ ap home (sym (put_here (Some s) (Some x) f.rows v e))
      by_case (inr n) = ap home (sym (put_away (Some s) (Some x) f.rows v n))

  available_kept : (v b : ℕ) (before : List ℕ)
      → Available (outline f) v b before
      → Available (outline (with_row x s f)) v b before
  available_kept v b before h passed p =
      passed_by f.rows (with_row x s f).rows (f.rows v) ((with_row x s f).rows v) v passed before (home_kept v)
      (h passed p)

  -- the row of an op, by whether it is x
  row_is : (y : ℕ) (t : OpRow)
      → (with_row x s f).rows y ≡ Some t
      → ((x ≡ y) × (s ≡ t)) ⊎ (f.rows y ≡ Some t)
  row_is y t e = by_case (cases_key (Some x) (Some y))
    where
      by_case : (Some x ≡ Some y) ⊎ (Some x ≡ Some y → ⊥) → ((x ≡ y) × (s ≡ t)) ⊎ (f.rows y ≡ Some t)
      by_case (inl h) = inl (some_same h, some_same (sym (put_here (Some s) (Some x) f.rows y h) ∙ e))
      by_case (inr n) = inr (sym (put_away (Some s) (Some x) f.rows y n) ∙ e)

  module _ (strict : Strict f) (plain : IsJoin (role_of s.code) → ⊥) (available : AreAvailable f x r s.inputs) where
    passes : (v b : ℕ) (before : List ℕ) → UsedAt (with_row x s f) v b before → Available (outline f) v b before
    passes v b before (Read y t e n m eb eo) = by_case (row_is y t e)
      where
        by_case : ((x ≡ y) × (s ≡ t)) ⊎ (f.rows y ≡ Some t) → Available (outline f) v b before
        by_case (inl h) =
            let eb' : r.block ≡ b = sym block ∙ ap (λ (z : OpRow). z.block) h.1 ∙ sym eb in
            let eo' : before_op x (f.lists r.block) ≡ before =
            (λ i. before_op (h.0 i) (f.lists ((sym block ∙ ap (λ (z : OpRow). z.block) h.1) i))) ∙ sym eo in
            subst (λ c. Available (outline f) v c before) eb'
            (subst (Available (outline f) v r.block) eo'
            (available.at v (subst (λ (z : OpRow). IsIn v z.inputs) (sym h.1) m)))
        by_case (inr h) = strict.passes v b before (Read y t h n m eb eo)
    passes v b before (Joined y k t e j ep ev eo) = by_case (row_is y t e)
      where
        by_case : ((x ≡ y) × (s ≡ t)) ⊎ (f.rows y ≡ Some t) → Available (outline f) v b before
        by_case (inl h) = absurd (plain (subst (λ (z : OpRow). IsJoin (role_of z.code)) (sym h.1) j))
        by_case (inr h) = strict.passes v b before (Joined y k t h j ep ev eo)

    -- a function is strict and formed with an op that does something else, where it is formed then
    pub ssa_retargeted : Formed (outline (with_row x s f)) → IsSsa (with_row x s f)
    ssa_retargeted h = record {
      strict = record { passes = λ v b before used. available_kept v b before (passes v b before used) };
      formed = h;
    }
