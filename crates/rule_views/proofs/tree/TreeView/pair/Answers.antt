use Rattle.std.proofs.Common.{refl}
use Rattle.rule_views.specs.declared.tree.Tree.{Tree}
use Rattle.rule_views.proofs.Trees.{pair_here}
use Rattle.rule_views.proofs.tree.TreeView.pair.Goals as goal

pub returns : goal.returns
returns c = pair_here (λ (t : Tree). t.at.now) (λ (t : Tree). t.widths.now) c.args.self
    (record { at = c.in_ok-node.left; widths = c.args.self.widths }) refl
    (record { at = c.in_ok-node.right; widths = c.args.self.widths }) refl c.in_ok-node.node c.in_ok-node.ensures
