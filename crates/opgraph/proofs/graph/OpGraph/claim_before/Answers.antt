use Rattle.std.proofs.Common.{[], ◌≡◌, ◌<◌, ℕ, length, Option, Some, sym, ap, ◌∙◌, subst}
use Rattle.std.proofs.lemmas.List.{length-set}
use Rattle.opgraph.specs.declared.code.Body.{Body}
use Rattle.node_lists.specs.Chains.{removed}
use Rattle.node_lists.specs.Families.{Family, list_at, key_at, inserted}
use Rattle.opgraph.specs.Graph.{OpRow, Graph, op_at, block_at, IsOp, Added}
use Rattle.opgraph.specs.Parts.{graph_of}
use Rattle.heap_nodes.proofs.Places.{none_some}
use Rattle.opgraph.proofs.Tables.{op_at_is}
use Rattle.opgraph.proofs.Whole.{row_back}
use Rattle.opgraph.proofs.SlotEdits.{op_low, op_key}
use Rattle.opgraph.proofs.OpEdits.{free_op, op_other, claimed_good, claimed, claimed_spares, absent}
use Rattle.opgraph.proofs.graph.OpGraph.claim_before.Goals as goal

pub set_held-requires : goal.set_held-requires
set_held-requires c =
    (free_op c.self.inside.ops c.self.inside.inputs c.self.inside.uses c.self.invariant c.in-Some.op
    (sym c.first.ensures ∙ c.in-Some.is)).low

pub move_before-requires-clause-node : goal.move_before-requires-clause-node
move_before-requires-clause-node c =
    let f =
    free_op c.self.inside.ops c.self.inside.inputs c.self.inside.uses c.self.invariant c.in-Some.op
    (sym c.first.ensures ∙ c.in-Some.is) in
    subst (λ n. c.in-Some.op < n)
    (sym
    (ap (λ (z : Family Body). length z.held) c.set_held.ensures
    ∙ length-set c.self.inside.ops.held c.in-Some.op (record { code = c.args.code; width = c.args.width }))) f.low

pub move_before-requires-clause-at : goal.move_before-requires-clause-at
move_before-requires-clause-at c =
    subst (λ n. c.args.at < n)
    (sym
    (ap (λ (z : Family Body). length z.held) c.set_held.ensures
    ∙ length-set c.self.inside.ops.held c.in-Some.op (record { code = c.args.code; width = c.args.width })))
    (op_low c.self.inside.ops c.self.inside.inputs c.self.inside.uses c.self.invariant c.args.at
    (subst (λ (z : Graph). IsOp z c.args.at) (sym c.self.view_is) c.requires.at))

pub move_before-requires-clause-other : goal.move_before-requires-clause-other
move_before-requires-clause-other c =
    let f =
    free_op c.self.inside.ops c.self.inside.inputs c.self.inside.uses c.self.invariant c.in-Some.op
    (sym c.first.ensures ∙ c.in-Some.is) in
    op_other c.self.inside.ops c.self.inside.inputs c.self.inside.uses c.self.invariant c.in-Some.op c.args.at f
    (subst (λ (z : Graph). IsOp z c.args.at) (sym c.self.view_is) c.requires.at)

pub invariant_of-self : goal.invariant_of-self
invariant_of-self c =
    let o = c.self.inside.ops in
    let i = c.self.inside.inputs in let u = c.self.inside.uses in let g = c.self.invariant in
    let f = free_op o i u g c.in-Some.op (sym c.first.ensures ∙ c.in-Some.is) in
    let k = op_key o i u g c.args.at (subst (λ (z : Graph). IsOp z c.args.at) (sym c.self.view_is) c.requires.at) in
    let key : key_at c.set_held.new.self c.args.at ≡ Some k.0 =
    ap (λ (z : Family Body). key_at z c.args.at) c.set_held.ensures ∙ k.1 in
    let m =
    subst
    (λ j. Rattle.node_lists.specs.Families.Moved c.in-Some.op j
    (inserted c.in-Some.op c.args.at (removed c.in-Some.op (list_at c.set_held.new.self j)))
    c.set_held.new.self c.move_before.new.self)
    key c.move_before.ensures in
    claimed_good o i u g c.in-Some.op k.0 (record { code = c.args.code; width = c.args.width })
    (inserted c.in-Some.op c.args.at (removed c.in-Some.op (list_at c.set_held.new.self (Some k.0)))) f
    c.set_held.new.self c.move_before.new.self c.set_held.ensures m

pub returns-in-Some-clause-added : goal.returns-in-Some-clause-added
returns-in-Some-clause-added c r er =
    let o = c.self.inside.ops in
    let i = c.self.inside.inputs in let u = c.self.inside.uses in let g = c.self.invariant in
    let f = free_op o i u g c.in-Some.op (sym c.first.ensures ∙ c.in-Some.is) in
    let row =
    sym (ap (λ (h : ℕ → Option OpRow). h c.args.at) (op_at_is o i u))
    ∙ ap (λ (z : Graph). op_at z c.args.at) c.self.view_is
    ∙ er in
    let key : key_at c.set_held.new.self c.args.at ≡ Some r.block =
    ap (λ (z : Family Body). key_at z c.args.at) c.set_held.ensures ∙ row_back o i u g c.args.at r row in
    let ps = inserted c.in-Some.op c.args.at (removed c.in-Some.op (list_at c.set_held.new.self (Some r.block))) in
    let m =
    subst
    (λ j. Rattle.node_lists.specs.Families.Moved c.in-Some.op j
    (inserted c.in-Some.op c.args.at (removed c.in-Some.op (list_at c.set_held.new.self j)))
    c.set_held.new.self c.move_before.new.self)
    key c.move_before.ensures in
    let same =
    ap (λ (z : Family Body). removed c.in-Some.op (list_at z (Some r.block))) c.set_held.ensures
    ∙ absent o i u g c.in-Some.op r.block (record { code = c.args.code; width = c.args.width }) ps f
    c.set_held.new.self c.move_before.new.self c.set_held.ensures m (Some r.block) (λ d. none_some d) in
    let blocks = same ∙ ap (λ (z : Graph). block_at z r.block) c.self.view_is in
    subst
    (λ (z : Graph).
    Added c.in-Some.op (record { block = r.block; code = c.args.code; inputs = []; width = c.args.width })
    (inserted c.in-Some.op c.args.at (block_at c.args.self.now r.block)) z (graph_of c.move_before.new.self i u))
    c.self.view_is
    (claimed o i u g c.in-Some.op r.block (record { code = c.args.code; width = c.args.width }) ps f c.set_held.new.self
    c.move_before.new.self c.set_held.ensures m (inserted c.in-Some.op c.args.at (block_at c.args.self.now r.block))
    (ap (inserted c.in-Some.op c.args.at) blocks))

pub returns-in-Some-clause-spare_ops : goal.returns-in-Some-clause-spare_ops
returns-in-Some-clause-spare_ops c =
    let o = c.self.inside.ops in
    let i = c.self.inside.inputs in let u = c.self.inside.uses in let g = c.self.invariant in
    let f = free_op o i u g c.in-Some.op (sym c.first.ensures ∙ c.in-Some.is) in
    let k = op_key o i u g c.args.at (subst (λ (z : Graph). IsOp z c.args.at) (sym c.self.view_is) c.requires.at) in
    let key : key_at c.set_held.new.self c.args.at ≡ Some k.0 =
    ap (λ (z : Family Body). key_at z c.args.at) c.set_held.ensures ∙ k.1 in
    let m =
    subst
    (λ j. Rattle.node_lists.specs.Families.Moved c.in-Some.op j
    (inserted c.in-Some.op c.args.at (removed c.in-Some.op (list_at c.set_held.new.self j)))
    c.set_held.new.self c.move_before.new.self)
    key c.move_before.ensures in
    claimed_spares o i u g c.in-Some.op k.0 (record { code = c.args.code; width = c.args.width })
    (inserted c.in-Some.op c.args.at (removed c.in-Some.op (list_at c.set_held.new.self (Some k.0)))) f
    c.set_held.new.self c.move_before.new.self c.set_held.ensures m
    ∙ ap (λ (z : Graph). z.spare_ops) c.self.view_is
