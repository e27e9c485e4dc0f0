use Rattle.std.proofs.Common.{[], ◌<◌, ◌+◌, ◌∷◌, length, Some, sym, ap, ◌∙◌, subst}
use Rattle.node_lists.specs.Families.{list_at, key_at}
use Rattle.opgraph.specs.Graph.{Graph, op_at, IsOp, Rewritten, inputs_in, front}
use Rattle.opgraph.specs.Parts.{graph_of}
use Rattle.opgraph.proofs.Tables.{value_of}
use Rattle.opgraph.proofs.SlotEdits.{op_list}
use Rattle.opgraph.proofs.Relinks.{last_split, detached_good, detached_row, detached_spares, last_some}
use Rattle.opgraph.proofs.graph.OpGraph.detach.Goals as goal

pub last-requires : goal.last-requires
last-requires c =
    op_list c.self.inside.ops c.self.inside.inputs c.self.inside.uses c.self.invariant c.args.op
    (subst (λ (z : Graph). IsOp z c.args.op) (sym c.self.view_is) c.requires.op)

pub move_first-requires-clause-node : goal.move_first-requires-clause-node
move_first-requires-clause-node c =
    let l =
    last_split (list_at c.self.inside.inputs (Some c.args.op)) c.in-Some.slot (sym c.last.ensures ∙ c.in-Some.is) in
    (c.self.invariant.full_inputs.members (Some c.args.op) c.in-Some.slot
    (subst (Rattle.node_lists.specs.Chains.IsIn c.in-Some.slot) (sym l.1)
    (Rattle.node_lists.proofs.Chains.in_right c.in-Some.slot l.0 (c.in-Some.slot ∷ [])
    (Rattle.std.proofs.Common.inl Rattle.std.proofs.Common.refl)))).0

pub move_first-requires-in-Some-clause-node : goal.move_first-requires-in-Some-clause-node
move_first-requires-in-Some-clause-node c =
    let l =
    last_split (list_at c.self.inside.inputs (Some c.args.op)) c.in-Some.slot (sym c.last.ensures ∙ c.in-Some.is) in
    let k =
    (c.self.invariant.full_inputs.members (Some c.args.op) c.in-Some.slot
    (subst (Rattle.node_lists.specs.Chains.IsIn c.in-Some.slot) (sym l.1)
    (Rattle.node_lists.proofs.Chains.in_right c.in-Some.slot l.0 (c.in-Some.slot ∷ [])
    (Rattle.std.proofs.Common.inl Rattle.std.proofs.Common.refl)))).1 in
    let w =
    value_of (key_at c.self.inside.uses c.in-Some.slot)
    (c.self.invariant.reads c.in-Some.slot (Rattle.heap_nodes.proofs.Places.some_of k)) in
    c.self.invariant.full_uses.low c.in-Some.slot w.0 w.1

pub invariant_of-self : goal.invariant_of-self
invariant_of-self c =
    let l =
    last_split (list_at c.self.inside.inputs (Some c.args.op)) c.in-Some.slot (sym c.last.ensures ∙ c.in-Some.is) in
    detached_good c.self.inside.ops c.self.inside.inputs c.self.inside.uses c.self.invariant c.in-Some.slot c.args.op
    l.0 l.1 c.move_first.new.self c.move_first-in-Some.new.self c.move_first.ensures c.move_first-in-Some.ensures

pub returns-in-Some-clause-row : goal.returns-in-Some-clause-row
returns-in-Some-clause-row c r e =
    let l =
    last_split (list_at c.self.inside.inputs (Some c.args.op)) c.in-Some.slot (sym c.last.ensures ∙ c.in-Some.is) in
    subst
    (λ (z : Graph).
    Rewritten c.args.op (record r { inputs = front r.inputs }) z
    (graph_of c.self.inside.ops c.move_first.new.self c.move_first-in-Some.new.self)) c.self.view_is
    (detached_row c.self.inside.ops c.self.inside.inputs c.self.inside.uses c.self.invariant c.in-Some.slot
    c.args.op l.0 l.1 c.move_first.new.self c.move_first-in-Some.new.self c.move_first.ensures
    c.move_first-in-Some.ensures r
    (ap (λ (z : Graph). op_at z c.args.op) c.self.view_is ∙ e))

pub returns-in-Some-clause-spare_slots : goal.returns-in-Some-clause-spare_slots
returns-in-Some-clause-spare_slots c =
    let l =
    last_split (list_at c.self.inside.inputs (Some c.args.op)) c.in-Some.slot (sym c.last.ensures ∙ c.in-Some.is) in
    detached_spares c.self.inside.ops c.self.inside.inputs c.self.inside.uses c.self.invariant c.in-Some.slot c.args.op
    l.0 l.1 c.move_first.new.self c.move_first-in-Some.new.self c.move_first.ensures c.move_first-in-Some.ensures
    ∙ ap (λ (z : Graph). z.spare_slots + 1) c.self.view_is

pub returns-in_default-clause-row : goal.returns-in_default-clause-row
returns-in_default-clause-row c r e =
    absurd
    (last_some c.self.inside.ops c.self.inside.inputs c.self.inside.uses c.self.invariant c.args.op
    (subst (λ (z : Graph). IsOp z c.args.op) (sym c.self.view_is) c.requires.op)
    (subst (λ (z : Graph). 0 < length (inputs_in (op_at z c.args.op))) (sym c.self.view_is) c.requires.some)
    (sym c.last.ensures ∙ c.in_default.is))

pub returns-in_default-clause-spare_slots : goal.returns-in_default-clause-spare_slots
returns-in_default-clause-spare_slots c =
    absurd
    (last_some c.self.inside.ops c.self.inside.inputs c.self.inside.uses c.self.invariant c.args.op
    (subst (λ (z : Graph). IsOp z c.args.op) (sym c.self.view_is) c.requires.op)
    (subst (λ (z : Graph). 0 < length (inputs_in (op_at z c.args.op))) (sym c.self.view_is) c.requires.some)
    (sym c.last.ensures ∙ c.in_default.is))
