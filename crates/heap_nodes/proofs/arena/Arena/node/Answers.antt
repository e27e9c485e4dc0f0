use Rattle.std.proofs.Common.{◌≡◌, ◌∙◌, sym, subst, Some, IsSome, slice_get}
use Rattle.heap_nodes.specs.Owners.{value_at}
use Rattle.heap_nodes.proofs.Places.{value_there, found_there}
use Rattle.heap_nodes.proofs.arena.Arena.node.Goals as goal

pub node-requires : goal.node-requires
node-requires g c =
    let os = c.self.inside.owners.items in let at = c.args.at in
    subst (λ xs. IsSome (value_at at.place.ptr xs)) (sym c.deref.ensures.value)
    (found_there at.place.ptr at.number os c.self.invariant.0
    (subst (λ r. slice_get r.places at.number ≡ Some at.place.ptr) (sym c.self.view_is) c.requires))

pub returns : goal.returns
returns g c =
    let os = c.self.inside.owners.items in let at = c.args.at in
    let there = value_there at.place.ptr at.number os c.self.invariant.0 (subst (λ r. slice_get r.places at.number ≡ Some at.place.ptr) (sym c.self.view_is) c.requires) in
    subst (λ r. slice_get r.values at.number ≡ Some c.node.result.now) c.self.view_is
    (sym there ∙ subst (λ xs. value_at at.place.ptr xs ≡ Some c.node.result.now) c.deref.ensures.value c.node.ensures)
