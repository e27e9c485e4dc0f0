use Rattle.std.proofs.Common.{ℕ, length, map, Option, Some, sym, ap, ◌∙◌, subst}
use Rattle.opgraph.specs.Graph.{OpRow, Graph, op_at, IsOp, inputs_in, value_ids}
use Rattle.opgraph.specs.Parts.{value_read, AreLow}
use Rattle.node_lists.specs.Families.{list_at}
use Rattle.opgraph.proofs.Tables.{op_at_is}
use Rattle.opgraph.proofs.Whole.{row_is}
use Rattle.opgraph.proofs.SlotEdits.{op_list, op_key}
use Rattle.opgraph.proofs.LowSlots.{low_inputs, read_by_number}
use Rattle.opgraph.proofs.graph.OpGraph.inputs.Goals as goal

pub walk-requires : goal.walk-requires
walk-requires c =
    op_list c.self.inside.ops c.self.inside.inputs c.self.inside.uses c.self.invariant c.args.op.0
    (subst (λ (z : Graph). IsOp z c.args.op.0) (sym c.self.view_is) c.requires)

pub invariant_of-result : goal.invariant_of-result
invariant_of-result c =
    subst (λ ps. AreLow ps (length c.self.inside.uses.held)) (sym c.walk.ensures)
    (low_inputs c.self.inside.ops c.self.inside.inputs c.self.inside.uses c.self.invariant c.args.op.0)

pub returns-clause-items : goal.returns-clause-items
returns-clause-items c =
    let o = c.self.inside.ops in let i = c.self.inside.inputs in let u = c.self.inside.uses in let x = c.args.op.0 in
    let k = op_key o i u c.self.invariant x (subst (λ (z : Graph). IsOp z x) (sym c.self.view_is) c.requires) in
    let r = row_is o i u c.self.invariant x k.0 k.1 in
    let row =
    ap (λ (z : Graph). op_at z x) (sym c.self.view_is)
    ∙ ap (λ (h : ℕ → Option OpRow). h x) (op_at_is o i u)
    ∙ r.2 in
    ap (map (value_read u)) c.walk.ensures
    ∙ read_by_number u (list_at i (Some x))
    ∙ ap (λ z. value_ids (inputs_in z)) (sym row)
