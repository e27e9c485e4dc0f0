use Rattle.std.proofs.Common.{Option, IsTrue, sym, ap, ◌∙◌, subst, arith}
use Rattle.opgraph.specs.Graph.{Graph, IsOp}
use Rattle.opgraph.proofs.SlotEdits.{op_low}
use Rattle.opgraph.proofs.Members.{op_there}
use Rattle.opgraph.proofs.graph.OpGraph.contains_op.Goals as goal

pub returns-then-op-size : goal.returns-then-op-size
returns-then-op-size c =
    let there = op_there c.self.inside.ops c.self.inside.inputs c.self.inside.uses c.self.invariant c.args.op.0 in
    let listed = c.is_some.ensures ∙ ap Rattle.core.specs.Option.is_some c.list.ensures in (
      λ h.
          subst (λ (g : Graph). IsOp g c.args.op.0) c.self.view_is (there.0 (subst IsTrue listed h)),
      λ h. subst IsTrue (sym listed) (there.1 (subst (λ (g : Graph). IsOp g c.args.op.0) (sym c.self.view_is) h)),
    )

pub returns-else-op-size : goal.returns-else-op-size
returns-else-op-size c = (
  λ h. absurd (Rattle.std.proofs.Common.true≢false (sym h)),
  λ h.
      let low =
      op_low c.self.inside.ops c.self.inside.inputs c.self.inside.uses c.self.invariant c.args.op.0
      (subst (λ (g : Graph). IsOp g c.args.op.0) (sym c.self.view_is) h) in
      let size = c.size.ensures in let past = c.if-op-size.false in absurd (omega arith),
)
