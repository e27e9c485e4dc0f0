use Rattle.std.proofs.Common.{◌<◌, ◌^◌, subst}
use Rattle.opgraph.specs.Graph.{IsCounted}
use Rattle.opgraph.proofs.Counts.{counted_graph}
use Rattle.opgraph.proofs.graph.OpGraph.counted.Goals as goal

pub returns : goal.returns
returns c =
    subst IsCounted c.self.view_is
    (counted_graph c.self.inside.ops c.self.inside.inputs c.self.inside.uses c.self.invariant
    (subst (λ n. n < 2 ^ 32) c.lists-blocks.ensures c.lists-blocks.type_inv)
    (subst (λ n. n < 2 ^ 32) c.size-ops.ensures c.size-ops.type_inv)
    (subst (λ n. n < 2 ^ 32) c.size-slots.ensures c.size-slots.type_inv))
