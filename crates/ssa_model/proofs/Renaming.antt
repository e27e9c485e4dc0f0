-- A value in the place of another one of its width: the outline stays, and so do strictness and form.
use Rattle.std.proofs.Common.{◌≡◌, ℕ, Bool, true, false, eqb, List, [], ◌∷◌, map, ◌⊎◌, inl, inr, Option, Some, None, refl, sym, ap, ◌∙◌, subst, cond, slice_get}
use Rattle.std.proofs.Math.Path.{fun_ext}
use Rattle.heap_nodes.proofs.Places.{none_some, some_same}
use Rattle.node_lists.specs.Chains.{IsIn}
use Rattle.node_lists.proofs.Chains.{eqb_is}
use Rattle.opgraph.specs.Graph.{OpRow, renamed, renamed_row}
use Rattle.opgraph.proofs.Tables.{of_map}
use Rattle.ssa_model.specs.Roles.{role_of}
use Rattle.ssa_model.specs.Outline.{OpForm, Form, Outline, bytes_of, width_in, width_at, form_in, outline, predecessors_at}
use Rattle.ssa_model.specs.Paths.{UsedAt, Read, Joined, Available, Strict}
use Rattle.ssa_model.specs.Formed.{Formed}
use Rattle.ssa_model.specs.Edits.{IsSsa, renaming, IsAvailableFor}

in_map : (g : ℕ → ℕ) (vs : List ℕ) (v : ℕ) → IsIn v (map g vs) → (u : ℕ) × (IsIn u vs × (v ≡ g u))
in_map g [] v m = absurd m
in_map g (w ∷ vs) v (inl e) = (w, (inl refl, e))
in_map g (w ∷ vs) v (inr m) = let r = in_map g vs v m in (r.0, (inr r.1.0, r.1.1))

module _ (a b : ℕ) where
  pub width_kept : (o : Option OpRow) → width_in (renamed_row a b o) ≡ width_in o
  width_kept None = refl
  width_kept (Some r) = refl

  -- an op that is renamed was one before
  row_from : (o : Option OpRow) (s : OpRow)
      → renamed_row a b o ≡ Some s
      → (r : OpRow) × ((o ≡ Some r) × (record r { inputs = map (renamed a b) r.inputs } ≡ s))
  row_from None s e = none_some e
  row_from (Some r) s e = (r, (refl, some_same e))

  -- the value is another one where it was a
  pub either : (u v : ℕ) → v ≡ renamed a b u → ((u ≡ a) × (v ≡ b)) ⊎ (v ≡ u)
  either u v e = by_test (eqb u a) refl
    where
      by_test : (t : Bool) → eqb u a ≡ t → ((u ≡ a) × (v ≡ b)) ⊎ (v ≡ u)
      by_test true h = inl (eqb_is u a h, e ∙ ap (λ t. cond t b u) h)
      by_test false h = inr (e ∙ ap (λ t. cond t b u) h)

  module _ (f : Form) (same : width_at f.rows a ≡ width_at f.rows b) where
    widths_kept : width_at (renaming a b f).rows ≡ width_at f.rows
    widths_kept = fun_ext (λ v. width_kept (f.rows v))

    pub value_kept : (v : ℕ) → width_at f.rows (renamed a b v) ≡ width_at f.rows v
    value_kept v = by_case (either v (renamed a b v) refl)
      where
        by_case : ((v ≡ a) × (renamed a b v ≡ b)) ⊎ (renamed a b v ≡ v)
            → width_at f.rows (renamed a b v) ≡ width_at f.rows v
        by_case (inl h) = ap (width_at f.rows) h.1 ∙ sym same ∙ ap (width_at f.rows) (sym h.0)
        by_case (inr h) = ap (width_at f.rows) h

    values_kept : (vs : List ℕ) → map (width_at f.rows) (map (renamed a b) vs) ≡ map (width_at f.rows) vs
    values_kept [] = refl
    values_kept (v ∷ vs) = λ i. value_kept v i ∷ values_kept vs i

    form_kept : (o : Option OpRow) → form_in (renaming a b f).rows (renamed_row a b o) ≡ form_in f.rows o
    form_kept None = refl
    form_kept (Some r) =
        ap
        (λ (ws : List ℕ).
        Some (record { block = r.block; role = role_of r.code; width = bytes_of r.width; inputs = ws }))
        (ap (λ (g : ℕ → ℕ). map g (map (renamed a b) r.inputs)) widths_kept ∙ values_kept r.inputs)

    pub outline_kept : outline (renaming a b f) ≡ outline f
    outline_kept =
        ap
        (λ (forms : ℕ → Option OpForm).
        record { forms = forms; lists = f.lists; count = f.count; blocks = f.blocks; entry = f.entry })
        (fun_ext (λ x. form_kept (f.rows x)))

    -- what is read is what was read there, or stands for it
    used_before : (v block : ℕ) (before : List ℕ)
        → UsedAt (renaming a b f) v block before
        → (u : ℕ) × (UsedAt f u block before × (v ≡ renamed a b u))
    used_before v block before (Read x s e n m eb eo) =
        let r = row_from (f.rows x) s e in
        let u = in_map (renamed a b) r.0.inputs v (subst (λ (z : OpRow). IsIn v z.inputs) (sym r.1.1) m) in (
          u.0,
          (
            Read x r.0 r.1.0
                (subst (λ (z : OpRow). Rattle.ssa_model.specs.Paths.IsJoin (role_of z.code) → ⊥) (sym r.1.1) n)
                u.1.0 (eb ∙ ap (λ (z : OpRow). z.block) (sym r.1.1))
                (eo ∙ ap (λ (z : OpRow). Rattle.ssa_model.specs.Paths.before_op x (f.lists z.block)) (sym r.1.1)),
            u.1.1,
          ),
        )
    used_before v block before (Joined x k s e j ep ev eo) =
        let r = row_from (f.rows x) s e in
        let u = of_map (renamed a b) r.0.inputs k v (ap (λ (z : OpRow). slice_get z.inputs k) r.1.1 ∙ ev) in (
          u.0,
          (
            Joined x k r.0 r.1.0
                (subst (λ (z : OpRow). Rattle.ssa_model.specs.Paths.IsJoin (role_of z.code)) (sym r.1.1) j)
                (ap (λ (z : OpRow). slice_get (predecessors_at f.blocks z.block) k) r.1.1 ∙ ep) u.1 eo,
            sym u.2,
          ),
        )

    module _ (strict : Strict f) (available : IsAvailableFor f a b) where
      passes : (v block : ℕ) (before : List ℕ)
          → UsedAt (renaming a b f) v block before
          → Available (outline f) v block before
      passes v block before used =
          let u = used_before v block before used in by_case u.0 u.1.0 (either u.0 v u.1.1)
        where
          by_case : (u : ℕ)
              → UsedAt f u block before
              → ((u ≡ a) × (v ≡ b)) ⊎ (v ≡ u)
              → Available (outline f) v block before
          by_case u h (inl e) =
              subst (λ w. Available (outline f) w block before) (sym e.1)
              (available.at block before (subst (λ w. UsedAt f w block before) e.0 h))
          by_case u h (inr e) =
              subst (λ w. Available (outline f) w block before) (sym e) (strict.passes u block before h)

      pub strict_renamed : Strict (renaming a b f)
      strict_renamed = record {
        passes =
            λ v block before used.
            subst (λ (o : Outline). Available o v block before) (sym outline_kept) (passes v block before used);
      }

    -- a function that is strict and formed is so with a value in the place of another one
    pub ssa_renamed : IsSsa f → IsAvailableFor f a b → IsSsa (renaming a b f)
    ssa_renamed s h = record {
      strict = strict_renamed s.strict h;
      formed = subst Formed (sym outline_kept) s.formed;
    }
