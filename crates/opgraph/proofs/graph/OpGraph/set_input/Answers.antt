use Rattle.std.proofs.Common.{◌<◌, ℕ, set, length, Option, Some, sym, ap, ◌∙◌, subst}
use Rattle.node_lists.specs.Families.{list_at, key_at}
use Rattle.opgraph.specs.Graph.{OpRow, Graph, op_at, IsOp, IsValue, Rewritten, inputs_in}
use Rattle.opgraph.specs.Parts.{graph_of, or_zero}
use Rattle.heap_nodes.proofs.Places.{none_some, get_in, some_of}
use Rattle.opgraph.proofs.Tables.{op_at_is, value_of}
use Rattle.opgraph.proofs.Whole.{row_ins, in_at}
use Rattle.opgraph.proofs.SlotEdits.{op_list, value_list}
use Rattle.opgraph.proofs.Relinks.{relinked_good, relinked_row}
use Rattle.opgraph.proofs.graph.OpGraph.set_input.Goals as goal

pub nth-requires : goal.nth-requires
nth-requires c =
    op_list c.self.inside.ops c.self.inside.inputs c.self.inside.uses c.self.invariant c.args.op.0
    (subst (λ (z : Graph). IsOp z c.args.op.0) (sym c.self.view_is) c.requires.op)

pub move_first-requires-clause-node : goal.move_first-requires-clause-node
move_first-requires-clause-node c =
    let i = c.self.inside.inputs in
    let u = c.self.inside.uses in let g = c.self.invariant in let s = c.in-Some.slot in let x = c.args.op.0 in
    let k =
    (g.full_inputs.members (Some x) s
    (in_at (list_at i (Some x)) c.args.slot s (sym c.nth.ensures ∙ c.in-Some.is))).1 in
    let w = value_of (key_at u s) (g.reads s (some_of k)) in g.full_uses.low s w.0 w.1

pub move_first-requires-clause-list : goal.move_first-requires-clause-list
move_first-requires-clause-list c =
    value_list c.self.inside.ops c.self.inside.inputs c.self.inside.uses c.self.invariant c.args.v.0
    (subst (λ (z : Graph). IsValue z c.args.v.0) (sym c.self.view_is) c.requires.value)

pub invariant_of-self : goal.invariant_of-self
invariant_of-self c =
    relinked_good c.self.inside.ops c.self.inside.inputs c.self.inside.uses c.self.invariant c.in-Some.slot c.args.op.0
    c.args.slot c.args.v.0 (sym c.nth.ensures ∙ c.in-Some.is)
    (subst (λ (z : Graph). IsValue z c.args.v.0) (sym c.self.view_is) c.requires.value) c.move_first.new.self
    c.move_first.ensures

pub returns-in-Some-clause-row : goal.returns-in-Some-clause-row
returns-in-Some-clause-row c r e =
    let o = c.self.inside.ops in let i = c.self.inside.inputs in let u = c.self.inside.uses in
    subst
    (λ (z : Graph).
    Rewritten c.args.op.0 (record r { inputs = set r.inputs c.args.slot c.args.v.0 }) z
    (graph_of o i c.move_first.new.self)) c.self.view_is
    (relinked_row o i u c.self.invariant c.in-Some.slot c.args.op.0 c.args.slot c.args.v.0
    (sym c.nth.ensures ∙ c.in-Some.is)
    (subst (λ (z : Graph). IsValue z c.args.v.0) (sym c.self.view_is) c.requires.value) c.move_first.new.self
    c.move_first.ensures r
    (ap (λ (z : Graph). op_at z c.args.op.0) c.self.view_is ∙ e))

pub returns-in_default-clause-row : goal.returns-in_default-clause-row
returns-in_default-clause-row c r e =
    let o = c.self.inside.ops in let i = c.self.inside.inputs in let u = c.self.inside.uses in let x = c.args.op.0 in
    let er = ap (λ (z : Graph). op_at z x) c.self.view_is ∙ e in
    let row = sym (ap (λ (h : ℕ → Option OpRow). h x) (op_at_is o i u)) ∙ er in
    let low : c.args.slot < length r.inputs = subst (λ z. c.args.slot < length (inputs_in z)) e c.requires.slot in
    let short =
    subst (λ n. c.args.slot < n)
    (ap length (row_ins o i u c.self.invariant x r row)
    ∙ Rattle.std.proofs.lemmas.List.length-map (list_at i (Some x)) (λ s. or_zero (key_at u s)))
    low in
    let got = get_in (list_at i (Some x)) c.args.slot short in
    none_some (sym c.in_default.is ∙ c.nth.ensures ∙ got.1)
