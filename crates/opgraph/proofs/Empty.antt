-- The graph with nothing in it.
use Rattle.std.proofs.Common.{ℕ, Option, Some, None, arith, refl}
use Rattle.node_lists.specs.Chains.{IsIn, Apart}
use Rattle.node_lists.specs.Families.{list_at, IsFull, nothing}
use Rattle.opgraph.specs.declared.code.Body.{Body}
use Rattle.opgraph.specs.Parts.{Good}
use Rattle.heap_nodes.proofs.Places.{none_some}
use Rattle.opgraph.proofs.SlotEdits.{none_not}

module _ (T : Type 0) where
  none_in : (k : Option ℕ) (i : ℕ) → IsIn i (list_at (nothing {T = T}) k) → ⊥
  none_in None i m = m
  none_in (Some k) i m = m

  all_apart : (k : Option ℕ) → Apart (list_at (nothing {T = T}) k)
  all_apart None = tt
  all_apart (Some k) = tt

  pub empty_full : IsFull (nothing {T = T})
  empty_full = record {
    members = λ k i m. absurd (none_in k i m);
    everyone = λ i h. absurd (omega arith);
    apart = all_apart;
    low = λ i k e. none_some e;
  }

pub empty_good : Good nothing nothing nothing
empty_good = record {
  full_ops = empty_full Body;
  full_inputs = empty_full ℕ;
  full_uses = empty_full (Unit {0});
  ops_inputs = omega arith;
  ops_uses = omega arith;
  slots_uses = omega arith;
  reads = λ s h. none_not refl h;
  spare = λ s h. none_not refl h;
  places = λ x k s e. none_some e;
  owners = λ s x e. none_some e;
  values = λ s v e. none_some e;
}
