use Rattle.std.proofs.Common.{◌<◌, ◌^◌, length, sym, subst, lit<}
use Rattle.heap_nodes.specs.Owners.{places, IsApart}
use Rattle.heap_nodes.proofs.Places.{empty_apart}
use Rattle.heap_nodes.proofs.arena.Arena.new.Goals as goal

pub invariant_of-result : goal.invariant_of-result
invariant_of-result g c =
    subst (λ os. IsApart (places os) × (length os < 2 ^ 32)) (sym c.new.ensures.items) (empty_apart, lit< tt)
