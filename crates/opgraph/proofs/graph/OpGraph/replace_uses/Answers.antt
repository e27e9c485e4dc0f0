use Rattle.std.proofs.Common.{sym, subst}
use Rattle.opgraph.specs.Graph.{Graph, IsValue, Renamed}
use Rattle.opgraph.specs.Parts.{graph_of}
use Rattle.opgraph.proofs.SlotEdits.{value_list}
use Rattle.opgraph.proofs.Relinks.{renamed_good, renamed_graph, renamed_none}
use Rattle.opgraph.proofs.graph.OpGraph.replace_uses.Goals as goal

pub move_all-requires-clause-before : goal.move_all-requires-clause-before
move_all-requires-clause-before c =
    value_list c.self.inside.ops c.self.inside.inputs c.self.inside.uses c.self.invariant c.args.old_value.0
    (subst (λ (z : Graph). IsValue z c.args.old_value.0) (sym c.self.view_is) c.requires.old)

pub move_all-requires-clause-after : goal.move_all-requires-clause-after
move_all-requires-clause-after c =
    value_list c.self.inside.ops c.self.inside.inputs c.self.inside.uses c.self.invariant c.args.new_value.0
    (subst (λ (z : Graph). IsValue z c.args.new_value.0) (sym c.self.view_is) c.requires.new)

pub invariant_of-self : goal.invariant_of-self
invariant_of-self c =
    renamed_good c.self.inside.ops c.self.inside.inputs c.self.inside.uses c.self.invariant c.args.old_value.0
    c.args.new_value.0 (subst (λ (z : Graph). IsValue z c.args.new_value.0) (sym c.self.view_is) c.requires.new)
    c.move_all.new.uses c.move_all.ensures

pub returns-clause-renamed : goal.returns-clause-renamed
returns-clause-renamed c =
    subst
    (λ (z : Graph).
    Renamed c.args.old_value.0 c.args.new_value.0 z
    (graph_of c.self.inside.ops c.self.inside.inputs c.move_all.new.uses)) c.self.view_is
    (renamed_graph c.self.inside.ops c.self.inside.inputs c.self.inside.uses c.self.invariant c.args.old_value.0
    c.args.new_value.0 (subst (λ (z : Graph). IsValue z c.args.new_value.0) (sym c.self.view_is) c.requires.new)
    c.move_all.new.uses c.move_all.ensures)

pub returns-clause-none : goal.returns-clause-none
returns-clause-none c =
    renamed_none c.self.inside.ops c.self.inside.inputs c.self.inside.uses c.self.invariant c.args.old_value.0
    c.args.new_value.0 (subst (λ (z : Graph). IsValue z c.args.new_value.0) (sym c.self.view_is) c.requires.new)
    c.move_all.new.uses c.move_all.ensures
