use Rattle.std.proofs.Common.{◌<◌, ◌+◌, length, sym, ap, ◌∙◌, subst}
use Rattle.opgraph.specs.Graph.{Graph, Same}
use Rattle.opgraph.specs.Parts.{graph_of, Good}
use Rattle.opgraph.proofs.Sames.{same_trans}
use Rattle.opgraph.proofs.More.{more_nodes_good, more_nodes_same, more_slots_good, more_slots_same, more_slots_spares}
use Rattle.opgraph.proofs.graph.OpGraph.grow_slots.Goals as goal

pub invariant_of-self : goal.invariant_of-self
invariant_of-self c =
    more_nodes_good c.self.inside.ops c.self.inside.inputs c.self.inside.inputs c.self.inside.uses c.ensure_use.new.uses
    c.self.invariant c.ensure_use.ensures.kept

pub returns-in_err-ensure_use-clause-same : goal.returns-in_err-ensure_use-clause-same
returns-in_err-ensure_use-clause-same c =
    subst (λ (z : Graph). Same z (graph_of c.self.inside.ops c.self.inside.inputs c.ensure_use.new.uses)) c.self.view_is
    (more_nodes_same c.self.inside.ops c.self.inside.inputs c.self.inside.inputs c.self.inside.uses
    c.ensure_use.new.uses c.self.invariant c.ensure_use.ensures.kept)

pub invariant_of-self-in_err-add_spare : goal.invariant_of-self-in_err-add_spare
invariant_of-self-in_err-add_spare c =
    subst (λ i. Good c.self.inside.ops i c.ensure_use.new.uses) (sym c.in_err-add_spare.ensures.failed)
    (more_nodes_good c.self.inside.ops c.self.inside.inputs c.self.inside.inputs c.self.inside.uses
    c.ensure_use.new.uses c.self.invariant c.ensure_use.ensures.kept)

pub returns-in_err-add_spare-clause-same : goal.returns-in_err-add_spare-clause-same
returns-in_err-add_spare-clause-same c =
    subst (λ (z : Graph). Same z (graph_of c.self.inside.ops c.add_spare.new.self c.ensure_use.new.uses)) c.self.view_is
    (subst
    (λ i.
    Same (graph_of c.self.inside.ops c.self.inside.inputs c.self.inside.uses)
    (graph_of c.self.inside.ops i c.ensure_use.new.uses)) (sym c.in_err-add_spare.ensures.failed)
    (more_nodes_same c.self.inside.ops c.self.inside.inputs c.self.inside.inputs c.self.inside.uses
    c.ensure_use.new.uses c.self.invariant c.ensure_use.ensures.kept))

pub invariant_of-self-2 : goal.invariant_of-self-2
invariant_of-self-2 c =
    let o = c.self.inside.ops in let i = c.self.inside.inputs in let u = c.ensure_use.new.uses in
    let g = more_nodes_good o i i c.self.inside.uses u c.self.invariant c.ensure_use.ensures.kept in
    more_slots_good o i c.add_spare.new.self u u g 0 c.in_ok-add_spare.ensures.ok
    (subst (λ n. n < length u.held) c.size-number.ensures c.in_ok-ensure_use.ensures.ok)

pub returns-clause-same : goal.returns-clause-same
returns-clause-same c =
    let o = c.self.inside.ops in let i = c.self.inside.inputs in let u = c.ensure_use.new.uses in
    let g = more_nodes_good o i i c.self.inside.uses u c.self.invariant c.ensure_use.ensures.kept in
    subst (λ (z : Graph). Same z (graph_of o c.add_spare.new.self u)) c.self.view_is
    (same_trans (graph_of o i c.self.inside.uses) (graph_of o i u) (graph_of o c.add_spare.new.self u)
    (more_nodes_same o i i c.self.inside.uses u c.self.invariant c.ensure_use.ensures.kept)
    (more_slots_same o i c.add_spare.new.self u u g 0 c.in_ok-add_spare.ensures.ok))

pub returns-clause-ok : goal.returns-clause-ok
returns-clause-ok c =
    let o = c.self.inside.ops in let i = c.self.inside.inputs in let u = c.ensure_use.new.uses in
    let g = more_nodes_good o i i c.self.inside.uses u c.self.invariant c.ensure_use.ensures.kept in
    more_slots_spares o i c.add_spare.new.self u u g 0 c.in_ok-add_spare.ensures.ok
    ∙ ap (λ (z : Graph). z.spare_slots + 1) c.self.view_is
