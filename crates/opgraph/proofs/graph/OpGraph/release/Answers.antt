use Rattle.std.proofs.Common.{◌+◌, ℕ, List, Option, sym, ap, ◌∙◌, subst}
use Rattle.opgraph.specs.declared.ids.Slot.{Slot}
use Rattle.opgraph.specs.Graph.{OpRow, Graph, op_at, uses_at, inputs_in, IsOp, Removed}
use Rattle.opgraph.specs.Parts.{graph_of, row_of}
use Rattle.opgraph.proofs.Tables.{value_of, op_at_is, uses_at_is}
use Rattle.opgraph.proofs.Whole.{row_ins}
use Rattle.opgraph.proofs.SlotEdits.{op_low}
use Rattle.opgraph.proofs.OpEdits.{released_good, released, released_spares}
use Rattle.opgraph.proofs.graph.OpGraph.release.Goals as goal

pub move_first-requires-clause-node : goal.move_first-requires-clause-node
move_first-requires-clause-node c =
    op_low c.self.inside.ops c.self.inside.inputs c.self.inside.uses c.self.invariant c.args.op
    (subst (λ (z : Graph). IsOp z c.args.op) (sym c.self.view_is) c.requires.op)

pub invariant_of-self : goal.invariant_of-self
invariant_of-self c =
    let o = c.self.inside.ops in
    let i = c.self.inside.inputs in let u = c.self.inside.uses in let g = c.self.invariant in let x = c.args.op in
    let at = ap (λ (h : ℕ → Option OpRow). h x) (op_at_is o i u) in
    let r =
    value_of (row_of o i u x) (subst Rattle.std.proofs.Common.IsSome at
    (subst (λ (z : Graph). IsOp z x) (sym c.self.view_is) c.requires.op)) in
    let none =
    sym (row_ins o i u g x r.0 r.1)
    ∙ ap inputs_in (sym r.1 ∙ sym at)
    ∙ ap (λ (z : Graph). inputs_in (op_at z x)) c.self.view_is
    ∙ c.requires.inputs in
    let unused =
    ap (λ (h : ℕ → List Slot). h x) (sym (uses_at_is o i u))
    ∙ ap (λ (z : Graph). uses_at z x) c.self.view_is
    ∙ c.requires.uses in
    released_good o i u g x r.0 r.1 none unused c.move_first.new.self c.move_first.ensures

pub returns-clause-removed : goal.returns-clause-removed
returns-clause-removed c r er =
    let o = c.self.inside.ops in
    let i = c.self.inside.inputs in let u = c.self.inside.uses in let g = c.self.invariant in let x = c.args.op in
    let at = ap (λ (h : ℕ → Option OpRow). h x) (op_at_is o i u) in
    let row = sym at ∙ ap (λ (z : Graph). op_at z x) c.self.view_is ∙ er in
    let none = sym (row_ins o i u g x r row) ∙ ap inputs_in (sym er) ∙ c.requires.inputs in
    let unused =
    ap (λ (h : ℕ → List Slot). h x) (sym (uses_at_is o i u))
    ∙ ap (λ (z : Graph). uses_at z x) c.self.view_is
    ∙ c.requires.uses in
    subst (λ (z : Graph). Removed x r z (graph_of c.move_first.new.self i u)) c.self.view_is
    (released o i u g x r row none unused c.move_first.new.self c.move_first.ensures)

pub returns-clause-spare_ops : goal.returns-clause-spare_ops
returns-clause-spare_ops c =
    let o = c.self.inside.ops in
    let i = c.self.inside.inputs in let u = c.self.inside.uses in let g = c.self.invariant in let x = c.args.op in
    let at = ap (λ (h : ℕ → Option OpRow). h x) (op_at_is o i u) in
    let r =
    value_of (row_of o i u x) (subst Rattle.std.proofs.Common.IsSome at
    (subst (λ (z : Graph). IsOp z x) (sym c.self.view_is) c.requires.op)) in
    let none =
    sym (row_ins o i u g x r.0 r.1)
    ∙ ap inputs_in (sym r.1 ∙ sym at)
    ∙ ap (λ (z : Graph). inputs_in (op_at z x)) c.self.view_is
    ∙ c.requires.inputs in
    let unused =
    ap (λ (h : ℕ → List Slot). h x) (sym (uses_at_is o i u))
    ∙ ap (λ (z : Graph). uses_at z x) c.self.view_is
    ∙ c.requires.uses in
    released_spares o i u g x r.0 r.1 none unused c.move_first.new.self c.move_first.ensures
    ∙ ap (λ (z : Graph). z.spare_ops + 1) c.self.view_is
