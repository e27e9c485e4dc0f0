use Rattle.std.proofs.Common.{IsTrue, sym, subst, true≢false}
use Rattle.opgraph.specs.Graph.{op_at}
use Rattle.opgraph.proofs.Members.{width_there, has_op}
use Rattle.opgraph.proofs.graph.OpGraph.contains_value.Goals as goal

pub returns-then-contains_op : goal.returns-then-contains_op
returns-then-contains_op c =
    let there =
    width_there (op_at c.args.self.now c.args.v.0) c.width.result (c.contains_op.ensures.0 c.if-contains_op.true)
    c.width.ensures in
    (λ h. there.0 (subst IsTrue c.is_some.ensures h), λ h. subst IsTrue (sym c.is_some.ensures) (there.1 h))

pub returns-else-contains_op : goal.returns-else-contains_op
returns-else-contains_op c = (
  λ h.
      absurd (true≢false (sym h)),
  λ h.
      absurd
      (true≢false
      (sym
      (subst IsTrue c.if-contains_op.false
      (c.contains_op.ensures.1 (has_op (op_at c.args.self.now c.args.v.0) h))))),
)
