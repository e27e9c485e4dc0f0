use Rattle.std.proofs.Common.{None, sym, ap, ◌∙◌}
use Rattle.node_lists.specs.Chains.{last_or}
use Rattle.opgraph.specs.Graph.{Graph, block_at}
use Rattle.node_lists.proofs.Chains.{last_none}
use Rattle.opgraph.proofs.Members.{op_in_block}
use Rattle.opgraph.proofs.graph.OpGraph.last_op.Goals as goal

pub returns-in-Some-clause-known : goal.returns-in-Some-clause-known
returns-in-Some-clause-known c =
    let b = c.args.b.0 in
    op_in_block c.args.self.now c.known.ensures b c.in-Some.op
    (last_none (block_at c.args.self.now b) c.in-Some.op
    (ap (λ (z : Graph). last_or None (block_at z b)) (sym c.self.view_is) ∙ sym c.last.ensures ∙ c.in-Some.is))
