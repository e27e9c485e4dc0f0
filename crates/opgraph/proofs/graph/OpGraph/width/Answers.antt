use Rattle.std.proofs.Common.{◌≡◌, ℕ, Option, IfSome, sym, ap, ◌∙◌, subst}
use Rattle.opgraph.specs.declared.code.Body.{Body}
use Rattle.opgraph.specs.Graph.{OpRow, Graph, op_at, IsOp}
use Rattle.heap_nodes.proofs.Places.{some_same}
use Rattle.opgraph.proofs.Tables.{op_at_is}
use Rattle.opgraph.proofs.Whole.{row_is}
use Rattle.opgraph.proofs.SlotEdits.{op_low, op_key}
use Rattle.opgraph.proofs.graph.OpGraph.width.Goals as goal

pub held-requires : goal.held-requires
held-requires c =
    op_low c.self.inside.ops c.self.inside.inputs c.self.inside.uses c.self.invariant c.args.op.0
    (subst (λ (z : Graph). IsOp z c.args.op.0) (sym c.self.view_is) c.requires)

pub returns : goal.returns
returns c =
    let o = c.self.inside.ops in let i = c.self.inside.inputs in let u = c.self.inside.uses in let x = c.args.op.0 in
    let k = op_key o i u c.self.invariant x (subst (λ (z : Graph). IsOp z x) (sym c.self.view_is) c.requires) in
    let r = row_is o i u c.self.invariant x k.0 k.1 in
    let row =
    ap (λ (z : Graph). op_at z x) (sym c.self.view_is)
    ∙ ap (λ (h : ℕ → Option OpRow). h x) (op_at_is o i u)
    ∙ r.2 in
    subst (λ v. IfSome v (λ z. c.held.result.width ≡ z.width)) (sym row)
    (ap (λ (b : Body). b.width) (some_same (sym c.held.ensures ∙ r.1)))
