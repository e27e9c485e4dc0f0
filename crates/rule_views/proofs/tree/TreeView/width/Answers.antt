use Rattle.rule_views.specs.declared.tree.Tree.{Tree}
use Rattle.rule_views.proofs.Trees.{wide_here}
use Rattle.rule_views.proofs.tree.TreeView.width.Goals as goal

pub returns : goal.returns
returns c = wide_here (λ (t : Tree). t.at.now) (λ (t : Tree). t.widths.now) c.args.self c.bytes_of.result
    c.width_by.result.bytes c.bytes_of.ensures c.width_by.ensures
