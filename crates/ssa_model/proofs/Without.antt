-- A function without a set of ops that nothing else reads.
use Rattle.std.proofs.Common.{◌≡◌, ℕ, cond, List, [], ◌∷◌, ◌+◌, length, ◌⊎◌, inl, inr, Option, Some, None, IsSome, refl, sym, ap, ◌∙◌, subst, arith}
use Rattle.std.proofs.Math.Path.{fun_ext}
use Rattle.heap_nodes.proofs.Places.{none_some, some_same}
use Rattle.node_lists.specs.Chains.{IsIn}
use Rattle.opgraph.specs.declared.ids.BlockId.{BlockId}
use Rattle.opgraph.specs.Graph.{OpRow, Graph, op_at, block_at, inputs_in}
use Rattle.opgraph.proofs.Whole.{in_at}
use Rattle.ssa_model.specs.declared.form.SsaBlock.{SsaBlock}
use Rattle.ssa_model.specs.Outline.{Form, form, form_in, outline}
use Rattle.ssa_model.specs.Paths.{IsPassed, UsedAt, Read, Joined, Available, Strict, before_op}
use Rattle.ssa_model.specs.Formed.{Formed}
use Rattle.ssa_model.specs.Edits.{IsSsa}
use Rattle.ssa_model.specs.Drops.{is_in, without_all, AreOps, AreUnread, AreReadByNone, without_ops, blank, Blanked, Cleared, slots_of}
use Rattle.ssa_model.proofs.Dropping.{cases_in, in_is, is_not, in_kept, before_kept, blank_is}
use Rattle.ssa_model.proofs.Forms.{parts_of}
use Rattle.ssa_model.proofs.Places.{passed_more}
use Rattle.ssa_model.proofs.Rows.{home, passed_by}

module _ (xs : List ℕ) (f : Form) where
  abbrev rest : Form
  rest = without_ops xs f

  stays : (y : ℕ) → (IsIn y xs → ⊥) → rest.rows y ≡ f.rows y
  stays y n = ap (λ t. cond t None (f.rows y)) (is_not y xs n)

  gone : (y : ℕ) → IsIn y xs → rest.rows y ≡ None
  gone y m = ap (λ t. cond t None (f.rows y)) (in_is y xs m)

  row : (y : ℕ) (t : OpRow) → rest.rows y ≡ Some t → (IsIn y xs → ⊥) × (f.rows y ≡ Some t)
  row y t e = by_case (cases_in y xs)
    where
      by_case : IsIn y xs ⊎ (IsIn y xs → ⊥) → (IsIn y xs → ⊥) × (f.rows y ≡ Some t)
      by_case (inl m) = none_some (sym (gone y m) ∙ e)
      by_case (inr n) = (n, sym (stays y n) ∙ e)

  module _ (strict : Strict f) (unread : AreUnread f.rows xs) where
    passed_still : (v : ℕ) (passed before : List ℕ)
        → (IsIn v xs → ⊥)
        → IsPassed (form_in f.rows (f.rows v)) v passed before
        → IsPassed (form_in rest.rows (rest.rows v)) v passed before
    passed_still v passed before n h =
        passed_by f.rows rest.rows (f.rows v) (rest.rows v) v passed before (ap home (sym (stays v n))) h

    passes : (v b : ℕ) (before : List ℕ) → UsedAt rest v b before → Available (outline rest) v b before
    passes v b before (Read y t e n m eb eo) =
        let h = row y t e in
        let far : IsIn v xs → ⊥ = λ k. h.0 (unread.at y v t h.1 m k) in
        let old = strict.passes v b (before_op y (f.lists t.block)) (Read y t h.1 n m eb refl) in
        subst (Available (outline rest) v b) (sym eo)
        (λ passed p.
        passed_still v passed (before_op y (rest.lists t.block)) far
        (passed_more (form_in f.rows (f.rows v)) v passed (before_op y (f.lists t.block))
        (before_op y (rest.lists t.block))
        (before_kept xs (f.lists t.block) y v far) (old passed p)))
    passes v b before (Joined y k t e j ep ev eo) =
        let h = row y t e in
        let far : IsIn v xs → ⊥ = λ q. h.0 (unread.at y v t h.1 (in_at t.inputs k v ev) q) in
        let old = strict.passes v b (f.lists b) (Joined y k t h.1 j ep ev refl) in
        subst (Available (outline rest) v b) (sym eo)
        (λ passed p.
        passed_still v passed (rest.lists b) far
        (passed_more (form_in f.rows (f.rows v)) v passed (f.lists b) (rest.lists b) (in_kept xs (f.lists b) v far)
        (old passed p)))

    -- a function is strict and formed without ops that only they read, where it is formed then
    pub ssa_without : Formed (outline rest) → IsSsa rest
    ssa_without h = record { strict = record { passes = passes }; formed = h }

-- ---- graphs

module _ (xs : List ℕ) (g h : Graph) (b : Blanked xs g h) where
  pub ops_still : (ys : List ℕ) → ((y : ℕ) → IsIn y ys → IsIn y xs) → AreOps g ys → AreOps h ys
  ops_still [] within a = tt
  ops_still (y ∷ ys) within a = (
    subst IsSome (sym (b.changed y (within y (inl refl)))) (blank_is (op_at g y) a.0),
    ops_still ys (λ z m. within z (inr m)) a.1,
  )

  pub read_by_none : AreUnread (op_at g) xs → AreReadByNone (op_at h) xs
  read_by_none u = record { at = λ y v r e m k. by_case y v r e m k (cases_in y xs) }
    where
      by_blank : (o : Option OpRow) (r : OpRow) (v : ℕ) → blank o ≡ Some r → IsIn v r.inputs → ⊥
      by_blank None r v e m = none_some e
      by_blank (Some s) r v e m = subst (λ (z : OpRow). IsIn v z.inputs) (sym (some_same e)) m

      by_case : (y v : ℕ) (r : OpRow)
          → op_at h y ≡ Some r
          → IsIn v r.inputs
          → IsIn v xs
          → IsIn y xs ⊎ (IsIn y xs → ⊥)
          → ⊥
      by_case y v r e m k (inl c) = by_blank (op_at g y) r v (sym (b.changed y c) ∙ e) m
      by_case y v r e m k (inr n) = n (u.at y v r (sym (b.stays y n) ∙ e) m k)

  pub no_slots : (ys : List ℕ) → ((y : ℕ) → IsIn y ys → IsIn y xs) → slots_of h ys ≡ 0
  no_slots [] within = refl
  no_slots (y ∷ ys) within =
      ap (λ (o : Option OpRow). length (inputs_in o) + slots_of h ys) (b.changed y (within y (inl refl)))
      ∙ ap (λ n. n + slots_of h ys) (none (op_at g y))
      ∙ (let rest = no_slots ys (λ z m. within z (inr m)) in omega (arith, rest))
    where
      none : (o : Option OpRow) → length (inputs_in (blank o)) ≡ 0
      none None = refl
      none (Some r) = refl

  module _ (blocks : List SsaBlock) (entry : BlockId) (k : Graph) (c : Cleared xs h k) where
    rows_are : (y : ℕ) → op_at k y ≡ cond (is_in y xs) None (op_at g y)
    rows_are y = by_case (cases_in y xs)
      where
        by_case : IsIn y xs ⊎ (IsIn y xs → ⊥) → op_at k y ≡ cond (is_in y xs) None (op_at g y)
        by_case (inl m) = c.gone y m ∙ sym (ap (λ t. cond t None (op_at g y)) (in_is y xs m))
        by_case (inr n) = c.stays y n ∙ b.stays y n ∙ sym (ap (λ t. cond t None (op_at g y)) (is_not y xs n))

    lists_are : (d : ℕ) → block_at k d ≡ without_all xs (block_at g d)
    lists_are d = c.blocks d ∙ ap (λ (l : ℕ → List ℕ). without_all xs (l d)) b.blocks

    pub dropped_form : form (parts_of blocks entry g h k) ≡ without_ops xs (form (parts_of blocks entry g h g))
    dropped_form = λ i. record {
      rows = fun_ext rows_are i;
      lists = fun_ext lists_are i;
      count = (c.count ∙ b.count) i;
      blocks = blocks;
      entry = entry.0;
    }
