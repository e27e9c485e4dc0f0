use Rattle.std.proofs.Common.{sym, ap, ◌∙◌, subst}
use Rattle.opgraph.specs.Graph.{Graph, op_at, IsOp, Rewritten}
use Rattle.opgraph.specs.Parts.{graph_of}
use Rattle.opgraph.proofs.SlotEdits.{op_low, op_key}
use Rattle.opgraph.proofs.More.{coded_good, coded_row}
use Rattle.opgraph.proofs.graph.OpGraph.set_code.Goals as goal

pub held-body-requires : goal.held-body-requires
held-body-requires c =
    op_low c.self.inside.ops c.self.inside.inputs c.self.inside.uses c.self.invariant c.args.op
    (subst (λ (z : Graph). IsOp z c.args.op) (sym c.self.view_is) c.requires)

pub set_held-requires : goal.set_held-requires
set_held-requires c =
    op_low c.self.inside.ops c.self.inside.inputs c.self.inside.uses c.self.invariant c.args.op
    (subst (λ (z : Graph). IsOp z c.args.op) (sym c.self.view_is) c.requires)

pub invariant_of-self : goal.invariant_of-self
invariant_of-self c =
    let o = c.self.inside.ops in let i = c.self.inside.inputs in let u = c.self.inside.uses in
    let k =
    op_key o i u c.self.invariant c.args.op
    (subst (λ (z : Graph). IsOp z c.args.op) (sym c.self.view_is) c.requires) in
    coded_good o i i u u c.self.invariant c.args.op k.0 c.args.code c.held-body.result k.1 c.held-body.ensures
    c.set_held.new.self c.set_held.ensures

pub returns-clause-row : goal.returns-clause-row
returns-clause-row c r e =
    let o = c.self.inside.ops in let i = c.self.inside.inputs in let u = c.self.inside.uses in
    let k =
    op_key o i u c.self.invariant c.args.op
    (subst (λ (z : Graph). IsOp z c.args.op) (sym c.self.view_is) c.requires) in
    subst (λ (z : Graph). Rewritten c.args.op (record r { code = c.args.code }) z (graph_of c.set_held.new.self i u))
    c.self.view_is
    (coded_row o i i u u c.self.invariant c.args.op k.0 c.args.code c.held-body.result k.1 c.held-body.ensures
    c.set_held.new.self c.set_held.ensures r (ap (λ (z : Graph). op_at z c.args.op) c.self.view_is ∙ e))
