use Rattle.std.proofs.Common.{sym, subst}
use Rattle.node_lists.specs.Families.{nothing}
use Rattle.opgraph.specs.Parts.{Good}
use Rattle.opgraph.proofs.Empty.{empty_good}
use Rattle.opgraph.proofs.graph.OpGraph.new.Goals as goal

pub invariant_of-result : goal.invariant_of-result
invariant_of-result c =
    subst (λ o. Good o c.new-2.result c.new-3.result) (sym c.new.ensures)
    (subst (λ i. Good nothing i c.new-3.result) (sym c.new-2.ensures)
    (subst (λ u. Good nothing nothing u) (sym c.new-3.ensures) empty_good))
