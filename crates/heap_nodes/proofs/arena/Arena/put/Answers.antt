use Rattle.std.proofs.Common.{◌≡◌, ◌<◌, ◌^◌, ◌∙◌, length, set, sym, ap, subst, Some, slice_get}
use Rattle.heap_nodes.specs.Owners.{places, IsApart}
use Rattle.heap_nodes.specs.Rows.{values_of}
use Rattle.heap_nodes.proofs.Places.{found_there, set_there, places_set, length_places, length_values}
use Rattle.heap_nodes.proofs.arena.Arena.put.Goals as goal

pub replace_in-old-requires : goal.replace_in-old-requires
replace_in-old-requires g c =
    let at = c.args.at in
    found_there at.place.ptr at.number c.self.inside.owners.items c.self.invariant.0
    (subst (λ r. slice_get r.places at.number ≡ Some at.place.ptr) (sym c.self.view_is) c.requires)

pub invariant_of-self : goal.invariant_of-self
invariant_of-self g c =
    let os = c.self.inside.owners.items in let at = c.args.at in
    let same = ap places c.replace_in-old.ensures ∙ places_set at.place.ptr c.args.value os in (
      subst IsApart (sym same) c.self.invariant.0,
      subst (λ n. n < 2 ^ 32)
          (sym (length_places os) ∙ ap length (sym same) ∙ length_places c.replace_in-old.new.owners.items)
          c.self.invariant.1,
    )

pub returns-clause-places : goal.returns-clause-places
returns-clause-places g c =
    ap places c.replace_in-old.ensures
    ∙ places_set c.args.at.place.ptr c.args.value c.self.inside.owners.items
    ∙ ap (λ r. r.places) c.self.view_is

pub returns-clause-values : goal.returns-clause-values
returns-clause-values g c =
    let at = c.args.at in
    ap values_of c.replace_in-old.ensures
    ∙ set_there at.place.ptr c.args.value at.number c.self.inside.owners.items c.self.invariant.0
    (subst (λ r. slice_get r.places at.number ≡ Some at.place.ptr) (sym c.self.view_is) c.requires)
    ∙ ap (λ r. set r.values at.number c.args.value) c.self.view_is

pub returns-clause-small : goal.returns-clause-small
returns-clause-small g c =
    let os = c.self.inside.owners.items in let at = c.args.at in
    let same = ap places c.replace_in-old.ensures ∙ places_set at.place.ptr c.args.value os in
    subst (λ n. n < 2 ^ 32)
    (sym (length_places os)
    ∙ ap length (sym same)
    ∙ length_places c.replace_in-old.new.owners.items
    ∙ sym (length_values c.replace_in-old.new.owners.items)) c.self.invariant.1
