use Rattle.std.proofs.Common.{◌<◌, ◌+◌, ℕ, List, Option, None, length, sym, ap, ◌∙◌, subst}
use Rattle.opgraph.specs.declared.code.Code.TheVariants as code
use Rattle.opgraph.specs.Graph.{Graph, Same}
use Rattle.opgraph.specs.Parts.{graph_of, Good}
use Rattle.opgraph.proofs.Sames.{same_trans}
use Rattle.opgraph.proofs.More.{kept_refl, more_lists_good, more_lists_same, more_ops_good, more_ops_same, more_ops_spares}
use Rattle.opgraph.proofs.graph.OpGraph.grow_ops.Goals as goal

pub invariant_of-self : goal.invariant_of-self
invariant_of-self c =
    more_lists_good c.self.inside.ops c.self.inside.inputs c.ensure_list.new.lists c.self.inside.uses c.self.inside.uses
    c.self.invariant c.ensure_list.ensures.kept (kept_refl c.self.inside.uses)

pub returns-in_err-ensure_list-clause-same : goal.returns-in_err-ensure_list-clause-same
returns-in_err-ensure_list-clause-same c =
    subst (λ (z : Graph). Same z (graph_of c.self.inside.ops c.ensure_list.new.lists c.self.inside.uses)) c.self.view_is
    (more_lists_same c.self.inside.ops c.self.inside.inputs c.ensure_list.new.lists c.self.inside.uses
    c.self.inside.uses c.self.invariant c.ensure_list.ensures.kept (kept_refl c.self.inside.uses))

pub returns-in_err-ensure_list-clause-slots : goal.returns-in_err-ensure_list-clause-slots
returns-in_err-ensure_list-clause-slots c =
    ap (λ (f : Option ℕ → List ℕ). length (f None)) c.ensure_list.ensures.kept.lists
    ∙ ap (λ (z : Graph). z.spare_slots) c.self.view_is

pub invariant_of-self-in_err-ensure_list-2 : goal.invariant_of-self-in_err-ensure_list-2
invariant_of-self-in_err-ensure_list-2 c =
    more_lists_good c.self.inside.ops c.self.inside.inputs c.ensure_list.new.lists c.self.inside.uses
    c.ensure_list-2.new.lists c.self.invariant c.ensure_list.ensures.kept c.ensure_list-2.ensures.kept

pub returns-in_err-ensure_list-2-clause-same : goal.returns-in_err-ensure_list-2-clause-same
returns-in_err-ensure_list-2-clause-same c =
    subst (λ (z : Graph). Same z (graph_of c.self.inside.ops c.ensure_list.new.lists c.ensure_list-2.new.lists))
    c.self.view_is
    (more_lists_same c.self.inside.ops c.self.inside.inputs c.ensure_list.new.lists c.self.inside.uses
    c.ensure_list-2.new.lists c.self.invariant c.ensure_list.ensures.kept c.ensure_list-2.ensures.kept)

pub returns-in_err-ensure_list-2-clause-slots : goal.returns-in_err-ensure_list-2-clause-slots
returns-in_err-ensure_list-2-clause-slots c =
    ap (λ (f : Option ℕ → List ℕ). length (f None)) c.ensure_list.ensures.kept.lists
    ∙ ap (λ (z : Graph). z.spare_slots) c.self.view_is

pub invariant_of-self-in_err-add_spare : goal.invariant_of-self-in_err-add_spare
invariant_of-self-in_err-add_spare c =
    subst (λ o. Good o c.ensure_list.new.lists c.ensure_list-2.new.lists) (sym c.in_err-add_spare.ensures.failed)
    (more_lists_good c.self.inside.ops c.self.inside.inputs c.ensure_list.new.lists c.self.inside.uses
    c.ensure_list-2.new.lists c.self.invariant c.ensure_list.ensures.kept c.ensure_list-2.ensures.kept)

pub returns-in_err-add_spare-clause-same : goal.returns-in_err-add_spare-clause-same
returns-in_err-add_spare-clause-same c =
    subst (λ (z : Graph). Same z (graph_of c.add_spare.new.self c.ensure_list.new.lists c.ensure_list-2.new.lists))
    c.self.view_is
    (subst
    (λ o.
    Same (graph_of c.self.inside.ops c.self.inside.inputs c.self.inside.uses)
    (graph_of o c.ensure_list.new.lists c.ensure_list-2.new.lists)) (sym c.in_err-add_spare.ensures.failed)
    (more_lists_same c.self.inside.ops c.self.inside.inputs c.ensure_list.new.lists c.self.inside.uses
    c.ensure_list-2.new.lists c.self.invariant c.ensure_list.ensures.kept c.ensure_list-2.ensures.kept))

pub returns-in_err-add_spare-clause-slots : goal.returns-in_err-add_spare-clause-slots
returns-in_err-add_spare-clause-slots c =
    ap (λ (f : Option ℕ → List ℕ). length (f None)) c.ensure_list.ensures.kept.lists
    ∙ ap (λ (z : Graph). z.spare_slots) c.self.view_is

pub invariant_of-self-2 : goal.invariant_of-self-2
invariant_of-self-2 c =
    more_ops_good c.self.inside.ops c.ensure_list.new.lists c.ensure_list.new.lists c.ensure_list-2.new.lists
    c.ensure_list-2.new.lists
    (more_lists_good c.self.inside.ops c.self.inside.inputs c.ensure_list.new.lists c.self.inside.uses
    c.ensure_list-2.new.lists c.self.invariant c.ensure_list.ensures.kept c.ensure_list-2.ensures.kept)
    (record { code = code.Copy; width = None }) c.add_spare.new.self c.in_ok-add_spare.ensures.ok
    (subst (λ n. n < length c.ensure_list.new.lists.lists) c.size-number.ensures c.in_ok-ensure_list.ensures.ok)
    (subst (λ n. n < length c.ensure_list-2.new.lists.lists) c.size-number.ensures c.in_ok-ensure_list-2.ensures.ok)

pub returns-clause-same : goal.returns-clause-same
returns-clause-same c =
    subst (λ (z : Graph). Same z (graph_of c.add_spare.new.self c.ensure_list.new.lists c.ensure_list-2.new.lists))
    c.self.view_is
    (same_trans (graph_of c.self.inside.ops c.self.inside.inputs c.self.inside.uses)
    (graph_of c.self.inside.ops c.ensure_list.new.lists c.ensure_list-2.new.lists)
    (graph_of c.add_spare.new.self c.ensure_list.new.lists c.ensure_list-2.new.lists)
    (more_lists_same c.self.inside.ops c.self.inside.inputs c.ensure_list.new.lists c.self.inside.uses
    c.ensure_list-2.new.lists c.self.invariant c.ensure_list.ensures.kept c.ensure_list-2.ensures.kept)
    (more_ops_same c.self.inside.ops c.ensure_list.new.lists c.ensure_list.new.lists c.ensure_list-2.new.lists
    c.ensure_list-2.new.lists
    (more_lists_good c.self.inside.ops c.self.inside.inputs c.ensure_list.new.lists c.self.inside.uses
    c.ensure_list-2.new.lists c.self.invariant c.ensure_list.ensures.kept c.ensure_list-2.ensures.kept)
    (record { code = code.Copy; width = None }) c.add_spare.new.self c.in_ok-add_spare.ensures.ok))

pub returns-clause-slots : goal.returns-clause-slots
returns-clause-slots c =
    ap (λ (f : Option ℕ → List ℕ). length (f None)) c.ensure_list.ensures.kept.lists
    ∙ ap (λ (z : Graph). z.spare_slots) c.self.view_is

pub returns-clause-ok : goal.returns-clause-ok
returns-clause-ok c =
    more_ops_spares c.self.inside.ops c.ensure_list.new.lists c.ensure_list.new.lists c.ensure_list-2.new.lists
    c.ensure_list-2.new.lists
    (more_lists_good c.self.inside.ops c.self.inside.inputs c.ensure_list.new.lists c.self.inside.uses
    c.ensure_list-2.new.lists c.self.invariant c.ensure_list.ensures.kept c.ensure_list-2.ensures.kept)
    (record { code = code.Copy; width = None }) c.add_spare.new.self c.in_ok-add_spare.ensures.ok
    ∙ ap (λ (z : Graph). z.spare_ops + 1) c.self.view_is
