use Rattle.std.proofs.Common.{[], ◌∷◌, ◌++◌, ◌<◌, length, Some, sym, ap, ◌∙◌, subst}
use Rattle.std.proofs.lemmas.List.{length-set}
use Rattle.opgraph.specs.declared.code.Body.{Body}
use Rattle.node_lists.specs.Chains.{removed}
use Rattle.node_lists.specs.Families.{Family, list_at}
use Rattle.opgraph.specs.Graph.{Graph, block_at, Added}
use Rattle.opgraph.specs.Parts.{graph_of}
use Rattle.heap_nodes.proofs.Places.{none_some}
use Rattle.opgraph.proofs.OpEdits.{free_op, claimed_good, claimed, claimed_spares, absent}
use Rattle.opgraph.proofs.graph.OpGraph.claim_last.Goals as goal

pub set_held-requires : goal.set_held-requires
set_held-requires c =
    (free_op c.self.inside.ops c.self.inside.inputs c.self.inside.uses c.self.invariant c.in-Some.op
    (sym c.first.ensures ∙ c.in-Some.is)).low

pub move_last-requires-clause-node : goal.move_last-requires-clause-node
move_last-requires-clause-node c =
    let f =
    free_op c.self.inside.ops c.self.inside.inputs c.self.inside.uses c.self.invariant c.in-Some.op
    (sym c.first.ensures ∙ c.in-Some.is) in
    subst (λ n. c.in-Some.op < n)
    (sym
    (ap (λ (z : Family Body). length z.held) c.set_held.ensures
    ∙ length-set c.self.inside.ops.held c.in-Some.op (record { code = c.args.code; width = c.args.width }))) f.low

pub invariant_of-self : goal.invariant_of-self
invariant_of-self c =
    let o = c.self.inside.ops in
    let i = c.self.inside.inputs in let u = c.self.inside.uses in let g = c.self.invariant in
    let f = free_op o i u g c.in-Some.op (sym c.first.ensures ∙ c.in-Some.is) in
    claimed_good o i u g c.in-Some.op c.args.block (record { code = c.args.code; width = c.args.width })
    (removed c.in-Some.op (list_at c.set_held.new.self (Some c.args.block)) ++ c.in-Some.op ∷ []) f
    c.set_held.new.self c.move_last.new.self c.set_held.ensures c.move_last.ensures

pub returns-in-Some-clause-added : goal.returns-in-Some-clause-added
returns-in-Some-clause-added c =
    let o = c.self.inside.ops in
    let i = c.self.inside.inputs in let u = c.self.inside.uses in let g = c.self.invariant in
    let f = free_op o i u g c.in-Some.op (sym c.first.ensures ∙ c.in-Some.is) in
    let same =
    ap (λ (z : Family Body). removed c.in-Some.op (list_at z (Some c.args.block))) c.set_held.ensures
    ∙ absent o i u g c.in-Some.op c.args.block (record { code = c.args.code; width = c.args.width })
    (removed c.in-Some.op (list_at c.set_held.new.self (Some c.args.block)) ++ c.in-Some.op ∷ []) f
    c.set_held.new.self c.move_last.new.self c.set_held.ensures c.move_last.ensures (Some c.args.block)
    (λ d. none_some d) in
    let blocks = same ∙ ap (λ (z : Graph). block_at z c.args.block) c.self.view_is in
    subst
    (λ (z : Graph).
    Added c.in-Some.op (record { block = c.args.block; code = c.args.code; inputs = []; width = c.args.width })
    (block_at c.args.self.now c.args.block ++ c.in-Some.op ∷ []) z (graph_of c.move_last.new.self i u))
    c.self.view_is
    (claimed o i u g c.in-Some.op c.args.block (record { code = c.args.code; width = c.args.width })
    (removed c.in-Some.op (list_at c.set_held.new.self (Some c.args.block)) ++ c.in-Some.op ∷ []) f
    c.set_held.new.self c.move_last.new.self c.set_held.ensures c.move_last.ensures
    (block_at c.args.self.now c.args.block ++ c.in-Some.op ∷ []) (ap (λ l. l ++ c.in-Some.op ∷ []) blocks))

pub returns-in-Some-clause-spare_ops : goal.returns-in-Some-clause-spare_ops
returns-in-Some-clause-spare_ops c =
    let o = c.self.inside.ops in
    let i = c.self.inside.inputs in let u = c.self.inside.uses in let g = c.self.invariant in
    let f = free_op o i u g c.in-Some.op (sym c.first.ensures ∙ c.in-Some.is) in
    claimed_spares o i u g c.in-Some.op c.args.block (record { code = c.args.code; width = c.args.width })
    (removed c.in-Some.op (list_at c.set_held.new.self (Some c.args.block)) ++ c.in-Some.op ∷ []) f
    c.set_held.new.self c.move_last.new.self c.set_held.ensures c.move_last.ensures
    ∙ ap (λ (z : Graph). z.spare_ops) c.self.view_is
