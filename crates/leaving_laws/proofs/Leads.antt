-- Each block that an exit names is one that it leads to: by a word of the exit's argument.
use Rattle.std.proofs.Common.{◌≡◌, ℕ, true, cond, List, [], ◌∷◌, inl, inr, map, Option, Some, None, refl, sym, ap, ◌∙◌, subst, true≢false}
use Rattle.std.proofs.lemmas.Bool.{eq-eqb}
use Rattle.pcode_model.specs.declared.listing.Listing.{Listing}
use Rattle.edges.specs.Exits.{Onto, by_arms, LeadsTo}
use Rattle.edges.specs.Run.{exit_of, exit_at}
use Rattle.node_lists.specs.Chains.{IsIn, Apart, last_or}
use Rattle.node_lists.proofs.Chains.{eqb_not, last_none}
use Rattle.opgraph.specs.Graph.{op_at, block_at, in_block, IsWhole}
use Rattle.ssa_model.specs.declared.form.Arm.{Arm}
use Rattle.ssa_model.specs.declared.form.SsaExit.{SsaExit}
use Rattle.ssa_model.specs.declared.form.SsaExit.TheVariants as X
use Rattle.ssa_model.specs.declared.form.Parts.{Parts}
use Rattle.ssa_model.specs.Roles.{Switches}
use Rattle.ssa_model.specs.Outline.{OpForm, form, outline, form_of, form_in, targets, targets_in, block_with, exit_in}
use Rattle.ssa_model.specs.Formed.{fits, Closes}
use Rattle.ssa_model.specs.Edits.{IsSsa}
use Rattle.ssa_model.specs.Lines.{exit_over, last_inputs, block_by}
use Rattle.ssa_model.specs.Run.{blocks_of}
use Rattle.leaving_laws.proofs.Inputs.{Closing, closing}

abbrev arms_of : List Arm → List Rattle.blockcode.specs.declared.code.Arm.Arm
arms_of = map (λ (a : Arm). record { value = a.value; to = a.to.0 })

-- an arm to the block, and its value
record ArmTo (c : ℕ) (arms : List Arm) : Type 0 where
  value : ℕ
  among : IsIn value (map (λ (a : Arm). a.value) arms)
  leading : by_arms (arms_of arms) value ≡ Onto c

arm_to : (c : ℕ) (arms : List Arm)
    → Apart (map (λ (a : Arm). a.value) arms)
    → IsIn c (map (λ (a : Arm). a.to.0) arms)
    → ArmTo c arms
arm_to c [] once m = absurd m
arm_to c (a ∷ arms) once (inl e) = record {
  value = a.value;
  among = inl refl;
  leading =
      ap (λ t. cond t (Onto a.to.0) (by_arms (arms_of arms) a.value)) (eq-eqb a.value a.value refl) ∙ ap Onto (sym e);
}
arm_to c (a ∷ arms) once (inr m) =
    let h = arm_to c arms once.1 m in
    let other : a.value ≡ h.value → ⊥ =
    λ e. once.0 (subst (λ z. IsIn z (map (λ (b : Arm). b.value) arms)) (sym e) h.among) in
    record {
      value = h.value;
      among = inr h.among;
      leading =
          ap (λ t. cond t (Onto a.to.0) (by_arms (arms_of arms) h.value)) (eqb_not a.value h.value other) ∙ h.leading;
    }

-- a Switch's arms have distinct values
abbrev DistinctArms : SsaExit → Type 0
DistinctArms (X.Switch arms) = Apart (map (λ (a : Arm). a.value) arms)
DistinctArms x = Unit {0}

leads_back : (x : SsaExit) (vs : List ℕ) (c : ℕ) → DistinctArms x → IsIn c (targets x) → LeadsTo (exit_over x vs) c
leads_back X.Return vs c once m = absurd m
leads_back (X.Jump to) vs c once (inl e) = ([], ap Onto (sym e))
leads_back (X.Jump to) vs c once (inr m) = absurd m
leads_back (X.Test taken other) vs c once (inl e) = (1 ∷ [], ap Onto (sym e))
leads_back (X.Test taken other) vs c once (inr (inl e)) = (0 ∷ [], ap Onto (sym e))
leads_back (X.Test taken other) vs c once (inr (inr m)) = absurd m
leads_back (X.Switch arms) vs c once m = let h = arm_to c arms once m in (h.value ∷ [], h.leading)
leads_back X.Stop vs c once m = absurd m

one_input : (w : ℕ) (vs : List ℕ) → fits Switches w vs ≡ true → (v : ℕ) × (vs ≡ v ∷ [])
one_input w [] h = absurd (true≢false (sym h))
one_input w (v ∷ []) h = (v, refl)
one_input w (v ∷ u ∷ vs) h = absurd (true≢false (sym h))

module _ (l : Listing) (p : Parts) (whole : IsWhole p.graph) (ssa : IsSsa (form p)) where
  switch_once : (b : ℕ) (arms : List Arm)
      → exit_in (block_with b p.blocks) ≡ Some (X.Switch arms)
      → Apart (map (λ (a : Arm). a.value) arms)
  switch_once b arms at =
      (ssa.formed.cases c.op one.0 f arms (ap (form_in (op_at p.graph)) c.is) closes one.1).0
    where
      c : Closing l p whole ssa b Switches
      c = closing l p whole ssa b (X.Switch arms) Switches at refl

      f : OpForm
      f = form_of (op_at p.graph) c.row

      block : c.row.block ≡ b
      block = subst (in_block b) c.is ((whole.ops b c.op).0 (last_none (block_at p.graph b) c.op c.last))

      closes : Closes (outline (form p)) c.op f (X.Switch arms)
      closes = (
        subst (λ z. last_or None (block_at p.graph z) ≡ Some c.op) (sym block) c.last,
        subst (λ z. exit_in (block_with z p.blocks) ≡ Some (X.Switch arms)) (sym block) at,
      )

      one : (v : ℕ) × (f.inputs ≡ v ∷ [])
      one = one_input f.width f.inputs c.fitting

  distinct_arms : (b : ℕ) (x : SsaExit) → exit_in (block_with b p.blocks) ≡ Some x → DistinctArms x
  distinct_arms b X.Return at = tt
  distinct_arms b (X.Jump to) at = tt
  distinct_arms b (X.Test taken other) at = tt
  distinct_arms b (X.Switch arms) at = switch_once b arms at
  distinct_arms b X.Stop at = tt

  -- An exit leads to each block that it names.
  pub leads_named : (b c : ℕ) → IsIn c (targets_in (block_with b p.blocks)) → LeadsTo (exit_at (blocks_of l p) b) c
  leads_named b c m = by_block (block_with b p.blocks) refl m
    where
      by_block : (o : Option Rattle.ssa_model.specs.declared.form.SsaBlock.SsaBlock)
          → block_with b p.blocks ≡ o
          → IsIn c (targets_in o)
          → LeadsTo (exit_of (block_by l p.graph b (exit_in o))) c
      by_block None at k = absurd k
      by_block (Some z) at k =
          leads_back z.exit (last_inputs p.graph (last_or None (block_at p.graph b))) c
          (distinct_arms b z.exit (ap exit_in at)) k
