use Rattle.std.proofs.Common.{ℕ, length, Option, Some, sym, ap, ◌∙◌, subst}
use Rattle.std.proofs.lemmas.List.{length-map}
use Rattle.node_lists.specs.Families.{list_at, key_at}
use Rattle.opgraph.specs.Graph.{OpRow, Graph, op_at, IsOp, inputs_in}
use Rattle.opgraph.specs.Parts.{or_zero}
use Rattle.opgraph.proofs.Tables.{op_at_is}
use Rattle.opgraph.proofs.Whole.{row_is}
use Rattle.opgraph.proofs.SlotEdits.{op_list, op_key}
use Rattle.opgraph.proofs.graph.OpGraph.input_count.Goals as goal

pub len-requires : goal.len-requires
len-requires c =
    op_list c.self.inside.ops c.self.inside.inputs c.self.inside.uses c.self.invariant c.args.op.0
    (subst (λ (z : Graph). IsOp z c.args.op.0) (sym c.self.view_is) c.requires)

pub returns : goal.returns
returns c =
    let o = c.self.inside.ops in let i = c.self.inside.inputs in let u = c.self.inside.uses in let x = c.args.op.0 in
    let k = op_key o i u c.self.invariant x (subst (λ (z : Graph). IsOp z x) (sym c.self.view_is) c.requires) in
    let r = row_is o i u c.self.invariant x k.0 k.1 in
    let row =
    ap (λ (z : Graph). op_at z x) (sym c.self.view_is)
    ∙ ap (λ (h : ℕ → Option OpRow). h x) (op_at_is o i u)
    ∙ r.2 in
    c.len.ensures
    ∙ sym (length-map (list_at i (Some x)) (λ s. or_zero (key_at u s)))
    ∙ ap (λ z. length (inputs_in z)) (sym row)
