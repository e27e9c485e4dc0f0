-- The form of a function after an edit of its graph.
use Rattle.std.proofs.Common.{◌≡◌, ℕ, List, [], Option, Some, None, Result, Ok, Err, IfOk, IfErr, ap, ◌∙◌, subst, slice_get}
use Rattle.node_lists.specs.Chains.{IsIn}
use Rattle.node_lists.specs.Families.{inserted}
use Rattle.opgraph.specs.declared.ids.BlockId.{BlockId}
use Rattle.opgraph.specs.declared.ids.Slot.{Slot}
use Rattle.opgraph.specs.Graph.{OpRow, Graph, op_at, block_at, uses_at, inputs_in, in_block, IsAmong, IsWhole, Same, Renamed, Rewritten, Added, Removed}
use Rattle.opgraph.proofs.Whole.{place_of}
use Rattle.ssa_model.specs.declared.form.SsaBlock.{SsaBlock}
use Rattle.ssa_model.specs.declared.form.Parts.{Parts}
use Rattle.ssa_model.specs.Outline.{form}
use Rattle.ssa_model.specs.Edits.{renaming, with_row, with_op, without_op}

module _ (blocks : List SsaBlock) (entry : BlockId) (g h : Graph) where
  -- the parts with a graph
  abbrev pub parts_of : Graph → Parts
  parts_of z = record { graph = z; blocks = blocks; entry = entry }

  pub same_form : Same g h → form (parts_of h) ≡ form (parts_of g)
  same_form s = λ i. record {
    rows = s.ops i;
    lists = s.blocks i;
    count = s.count i;
    blocks = blocks;
    entry = entry.0;
  }

  pub renamed_form : (a b : ℕ) → Renamed a b g h → form (parts_of h) ≡ renaming a b (form (parts_of g))
  renamed_form a b s = λ i. record {
    rows = s.ops i;
    lists = s.blocks i;
    count = s.count i;
    blocks = blocks;
    entry = entry.0;
  }

  pub rewritten_form : (x : ℕ) (r : OpRow) → Rewritten x r g h → form (parts_of h) ≡ with_row x r (form (parts_of g))
  rewritten_form x r s = λ i. record {
    rows = s.ops i;
    lists = s.blocks i;
    count = s.count i;
    blocks = blocks;
    entry = entry.0;
  }

  pub added_form : (x at : ℕ) (r : OpRow)
      → Added x r (inserted x at (block_at g r.block)) g h
      → form (parts_of h) ≡ with_op x at r (form (parts_of g))
  added_form x at r s = λ i. record {
    rows = s.ops i;
    lists = s.blocks i;
    count = s.count i;
    blocks = blocks;
    entry = entry.0;
  }

  pub removed_form : (x : ℕ) (r : OpRow) → Removed x r g h → form (parts_of h) ≡ without_op x r (form (parts_of g))
  removed_form x r s = λ i. record {
    rows = s.ops i;
    lists = s.blocks i;
    count = s.count i;
    blocks = blocks;
    entry = entry.0;
  }

module _ (g : Graph) (whole : IsWhole g) (x : ℕ) where
  -- what is no op stands in no block
  pub apart : op_at g x ≡ None → (b : ℕ) → IsIn x (block_at g b) → ⊥
  apart fresh b m = subst (in_block b) fresh ((whole.ops b x).0 m)

  -- what has no use is read by no op
  pub unread : uses_at g x ≡ [] → (y : ℕ) (t : OpRow) → op_at g y ≡ Some t → IsIn x t.inputs → ⊥
  unread none y t e m =
      let k = place_of x t.inputs m in
      let slot : Slot = record { op = record { 0 = y }; slot = k.0 } in
      subst (IsAmong slot) none
      ((whole.uses x slot).1 (ap (λ (o : Option OpRow). slice_get (inputs_in o) k.0) e ∙ k.1))

-- by what a call answers
pub by_result : {A E R : Type 0} (result : Result A E) {P : A → Type 0} {Q : E → Type 0}
    → IfOk result P
    → IfErr result Q
    → ((a : A) → P a → R)
    → ((e : E) → Q e → R)
    → R
by_result (Ok a) p q f g = f a p
by_result (Err e) p q f g = g e q
