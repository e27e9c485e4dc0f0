use Rattle.std.proofs.Common.{refl}
use Rattle.rule_views.specs.declared.tree.Tree.{Tree}
use Rattle.rule_views.proofs.Trees.{single_here}
use Rattle.rule_views.proofs.tree.TreeView.single.Goals as goal

pub returns : goal.returns
returns c = single_here (λ (t : Tree). t.at.now) (λ (t : Tree). t.widths.now) c.args.self
    (record { at = c.in_ok-node.at; widths = c.args.self.widths }) refl c.in_ok-node.node c.in_ok-node.ensures
