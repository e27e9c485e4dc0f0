use Rattle.std.proofs.Common.{ℕ, List, length, map, sym, ap, ◌∙◌, subst}
use Rattle.opgraph.specs.declared.ids.Slot.{Slot}
use Rattle.opgraph.specs.Graph.{Graph, IsValue, uses_at}
use Rattle.opgraph.specs.Parts.{slot_of, AreLow}
use Rattle.opgraph.proofs.Tables.{uses_at_is}
use Rattle.opgraph.proofs.SlotEdits.{value_list}
use Rattle.opgraph.proofs.LowSlots.{low_uses}
use Rattle.opgraph.proofs.graph.OpGraph.uses.Goals as goal

pub walk-requires : goal.walk-requires
walk-requires c =
    value_list c.self.inside.ops c.self.inside.inputs c.self.inside.uses c.self.invariant c.args.v.0
    (subst (λ (z : Graph). IsValue z c.args.v.0) (sym c.self.view_is) c.requires)

pub invariant_of-result : goal.invariant_of-result
invariant_of-result c =
    subst (λ ps. AreLow ps (length c.self.inside.inputs.held)) (sym c.walk.ensures)
    (low_uses c.self.inside.ops c.self.inside.inputs c.self.inside.uses c.self.invariant c.args.v.0)

pub returns-clause-items : goal.returns-clause-items
returns-clause-items c =
    ap (map (slot_of c.self.inside.inputs)) c.walk.ensures
    ∙ ap (λ (f : ℕ → List Slot). f c.args.v.0)
    (sym (uses_at_is c.self.inside.ops c.self.inside.inputs c.self.inside.uses))
    ∙ ap (λ (z : Graph). uses_at z c.args.v.0) c.self.view_is
