use Rattle.cmeaning.specs.declared.tree.Expr.TheVariants as E
use Rattle.rules.specs.Letters.{Var, Const}
use Rattle.rule_views.specs.declared.tree.Tree.{Tree}
use Rattle.rule_views.proofs.Trees.{atom_same}
use Rattle.rule_views.proofs.tree.TreeView.same.Goals as goal

pub returns-in-Var-clause-yes : goal.returns-in-Var-clause-yes
returns-in-Var-clause-yes c h = atom_same (λ (t : Tree). t.at.now) (λ (t : Tree). t.widths.now) c.args.self c.args.other
    (E.Var c.in-Var.v) (Var c.in-Var.v) c.in-Var.is (c.is_var.ensures.0 h)

pub returns-in-Const-clause-yes : goal.returns-in-Const-clause-yes
returns-in-Const-clause-yes c h = atom_same (λ (t : Tree). t.at.now) (λ (t : Tree). t.widths.now) c.args.self
    c.args.other (E.Const c.in-Const.c) (Const c.in-Const.c) c.in-Const.is (c.is_const.ensures.0 h)
