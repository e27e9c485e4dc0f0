use Rattle.exact_c.proofs.Judged.{not_tree, tree_when}
use Rattle.exact_c.proofs.stands_for.Goals as goal

pub returns-then-not-right : goal.returns-then-not-right
returns-then-not-right c =
    not_tree c.args.f.now c.args.bytes.now c.in_ok-right.right (c.in_ok-right.ensures {u = tt}) c.if-not-right.true

pub returns : goal.returns
returns c =
    tree_when c.args.f.now c.args.bytes.now c.in_ok-right.right c.in_ok-same.same (c.in_ok-right.ensures {u = tt})
    c.if-not-right.false (c.in_ok-same.ensures {u = tt})
