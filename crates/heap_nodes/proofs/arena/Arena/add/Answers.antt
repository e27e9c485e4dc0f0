use Rattle.std.proofs.Common.{◌≡◌, ◌∷◌, [], ◌++◌, List, length, ◌∙◌, sym, ap, arith, slice_get}
use denote.RawPtr.{Ptr}
use Rattle.heap_nodes.specs.Owners.{places}
use Rattle.heap_nodes.specs.Rows.{values_of}
use Rattle.heap_nodes.proofs.Places.{last_there, places_more, values_more, length_values, length_places}
use Rattle.heap_nodes.proofs.arena.Arena.add.Goals as goal

pub returns-clause-ok : goal.returns-clause-ok
returns-clause-ok g c =
    let os = c.self.inside.owners.items in let o = c.in_ok-owner.owner in
    let items = c.apart_in.ensures.same ∙ (c.in_default.ensures {u = tt}).items ∙ ap (λ xs. xs ++ o ∷ []) c.reserve.ensures.items in
    let at : places c.apart_in.new.owners.items ≡ c.args.self.now.places ++ c.place-place.result.ptr ∷ [] =
    ap places items ∙ places_more os o ∙ (λ i. (c.self.view_is i).places ++ sym c.place-place.ensures i ∷ []) in
    let values : values_of c.apart_in.new.owners.items ≡ c.args.self.now.values ++ c.args.value ∷ [] =
    ap values_of items ∙ values_more os o ∙ (λ i. (c.self.view_is i).values ++ c.in_ok-owner.ensures i ∷ []) in
    let number : c.len-number.result ≡ length os = omega (arith, c.len-number.ensures, c.self.inside.owners.ok) in (
      at,
      values,
      number ∙ sym (length_values os) ∙ ap (λ r. length r.values) c.self.view_is,
      ap (λ (ps : List Ptr). slice_get ps c.len-number.result) at
          ∙ last_there c.args.self.now.places c.place-place.result.ptr c.len-number.result
          (number ∙ sym (length_places os) ∙ ap (λ r. length r.places) c.self.view_is),
    )
