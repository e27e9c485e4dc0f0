use Rattle.std.proofs.Common.{subst}
use Rattle.opgraph.specs.Graph.{IsWhole}
use Rattle.opgraph.proofs.Whole.{whole}
use Rattle.opgraph.proofs.graph.OpGraph.known.Goals as goal

pub returns : goal.returns
returns c =
    subst IsWhole c.self.view_is (whole c.self.inside.ops c.self.inside.inputs c.self.inside.uses c.self.invariant)
