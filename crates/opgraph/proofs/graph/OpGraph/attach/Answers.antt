use Rattle.std.proofs.Common.{[], ◌∷◌, ◌++◌, ◌<◌, length, sym, ap, ◌∙◌, subst}
use Rattle.opgraph.specs.Graph.{Graph, op_at, IsOp, IsValue, Rewritten}
use Rattle.opgraph.specs.Parts.{graph_of}
use Rattle.opgraph.proofs.SlotEdits.{op_list, value_list, free_first, free_use_low, attached_good, attached_row, attached_spares}
use Rattle.opgraph.proofs.graph.OpGraph.attach.Goals as goal

pub len-place-requires : goal.len-place-requires
len-place-requires c =
    op_list c.self.inside.ops c.self.inside.inputs c.self.inside.uses c.self.invariant c.args.op
    (subst (λ (z : Graph). IsOp z c.args.op) (sym c.self.view_is) c.requires.op)

pub set_held-requires : goal.set_held-requires
set_held-requires c =
    (free_first c.self.inside.ops c.self.inside.inputs c.self.inside.uses c.self.invariant c.in-Some.slot
    (sym c.first.ensures ∙ c.in-Some.is)).low

pub move_last-requires-clause-node : goal.move_last-requires-clause-node
move_last-requires-clause-node c =
    let low =
    (free_first c.self.inside.ops c.self.inside.inputs c.self.inside.uses c.self.invariant c.in-Some.slot
    (sym c.first.ensures ∙ c.in-Some.is)).low in
    subst (λ n. c.in-Some.slot < n)
    (sym
    (ap (λ f. length f.held) c.set_held.ensures
    ∙ Rattle.std.proofs.lemmas.List.length-set c.self.inside.inputs.held c.in-Some.slot c.len-place.result)) low

pub move_last-requires-clause-list : goal.move_last-requires-clause-list
move_last-requires-clause-list c =
    subst (λ n. c.args.op < n) (sym (ap (λ f. length f.lists) c.set_held.ensures))
    (op_list c.self.inside.ops c.self.inside.inputs c.self.inside.uses c.self.invariant c.args.op
    (subst (λ (z : Graph). IsOp z c.args.op) (sym c.self.view_is) c.requires.op))

pub move_first-requires-clause-node : goal.move_first-requires-clause-node
move_first-requires-clause-node c =
    free_use_low c.self.inside.ops c.self.inside.inputs c.self.inside.uses c.self.invariant c.in-Some.slot
    (free_first c.self.inside.ops c.self.inside.inputs c.self.inside.uses c.self.invariant c.in-Some.slot
    (sym c.first.ensures ∙ c.in-Some.is))

pub move_first-requires-clause-list : goal.move_first-requires-clause-list
move_first-requires-clause-list c =
    value_list c.self.inside.ops c.self.inside.inputs c.self.inside.uses c.self.invariant c.args.v
    (subst (λ (z : Graph). IsValue z c.args.v) (sym c.self.view_is) c.requires.value)

pub invariant_of-self : goal.invariant_of-self
invariant_of-self c =
    let o = c.self.inside.ops in
    let i = c.self.inside.inputs in let u = c.self.inside.uses in let g = c.self.invariant in
    attached_good o i u g c.in-Some.slot c.args.op c.args.v
    (free_first o i u g c.in-Some.slot (sym c.first.ensures ∙ c.in-Some.is))
    (subst (λ (z : Graph). IsOp z c.args.op) (sym c.self.view_is) c.requires.op)
    (subst (λ (z : Graph). IsValue z c.args.v) (sym c.self.view_is) c.requires.value)
    c.set_held.new.self c.move_last.new.self c.move_first.new.self c.len-place.result c.set_held.ensures
    c.move_last.ensures c.move_first.ensures c.len-place.ensures

pub returns-in-Some-clause-row : goal.returns-in-Some-clause-row
returns-in-Some-clause-row c r e =
    let o = c.self.inside.ops in
    let i = c.self.inside.inputs in let u = c.self.inside.uses in let g = c.self.invariant in
    subst
    (λ (z : Graph).
    Rewritten c.args.op (record r { inputs = r.inputs ++ c.args.v ∷ [] }) z
    (graph_of o c.move_last.new.self c.move_first.new.self)) c.self.view_is
    (attached_row o i u g c.in-Some.slot c.args.op c.args.v
    (free_first o i u g c.in-Some.slot (sym c.first.ensures ∙ c.in-Some.is))
    (subst (λ (z : Graph). IsOp z c.args.op) (sym c.self.view_is) c.requires.op)
    (subst (λ (z : Graph). IsValue z c.args.v) (sym c.self.view_is) c.requires.value)
    c.set_held.new.self c.move_last.new.self c.move_first.new.self c.len-place.result c.set_held.ensures
    c.move_last.ensures c.move_first.ensures c.len-place.ensures r
    (ap (λ (z : Graph). op_at z c.args.op) c.self.view_is ∙ e))

pub returns-in-Some-clause-spare_slots : goal.returns-in-Some-clause-spare_slots
returns-in-Some-clause-spare_slots c =
    let o = c.self.inside.ops in
    let i = c.self.inside.inputs in let u = c.self.inside.uses in let g = c.self.invariant in
    attached_spares o i u g c.in-Some.slot c.args.op c.args.v
    (free_first o i u g c.in-Some.slot (sym c.first.ensures ∙ c.in-Some.is))
    (subst (λ (z : Graph). IsOp z c.args.op) (sym c.self.view_is) c.requires.op)
    (subst (λ (z : Graph). IsValue z c.args.v) (sym c.self.view_is) c.requires.value)
    c.set_held.new.self c.move_last.new.self c.move_first.new.self c.len-place.result c.set_held.ensures
    c.move_last.ensures c.move_first.ensures c.len-place.ensures
    ∙ ap (λ (z : Graph). z.spare_slots) c.self.view_is
