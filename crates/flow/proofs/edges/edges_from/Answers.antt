use Rattle.std.proofs.Common.{◌≡◌, ap, sym, ◌∙◌, refl, Some, None, ⊎_elim}
use Rattle.std.specs.Option.{option_copied}
use Rattle.pcode_model.specs.declared.listing.Listing.{Listing}
use Rattle.pcode_model.specs.declared.flow.Turn.TheVariants.{GoesOn, Returns, Stops, Branches, Tests, Switches}
use Rattle.pcode_model.specs.Places.{instruction_at, next_place}
use Rattle.pcode_model.specs.declared.flow.FlowWhy.TheVariants.{FallsOff, NoTable}
use Rattle.pcode_model.specs.Flow.{Fails, way_to, branch_way}
use Rattle.flow.proofs.Meaning.{ways_by, none_stands}
use Rattle.flow.proofs.edges.edges_from.Goals as goal

pub returns-in_default : goal.returns-in_default
returns-in_default c =
    let l : Listing = c.args.listing.now in
    let found : instruction_at l c.args.place.address ≡ None =
    ap (λ a. instruction_at l a) (sym c.from.ensures)
    ∙ (sym c.instruction.ensures ∙ ap option_copied c.in_default.is) in
    absurd (none_stands l c.args.place found c.requires.here)

pub returns-in-GoesOn : goal.returns-in-GoesOn
returns-in-GoesOn c =
    let l : Listing = c.args.listing.now in
    let i = c.in-Some.instruction.now in
    let found : instruction_at l c.args.place.address ≡ Some i =
    ap (λ a. instruction_at l a) (sym c.from.ensures) ∙ sym (c.in-Some.ensures {u = tt}) in
    let w = ways_by l c.args.place i GoesOn found c.requires.here (sym c.turn.ensures ∙ c.in-GoesOn.is) in
    (way_to l FallsOff (next_place i c.args.place.index), (c.to_next-next.ensures l c.requires.places, w))

pub returns-in-Returns : goal.returns-in-Returns
returns-in-Returns c =
    let l : Listing = c.args.listing.now in
    let i = c.in-Some.instruction.now in
    let found : instruction_at l c.args.place.address ≡ Some i =
    ap (λ a. instruction_at l a) (sym c.from.ensures) ∙ sym (c.in-Some.ensures {u = tt}) in
    ⊎_elim
    (λ e. ways_by l c.args.place i Returns found c.requires.here (sym c.turn.ensures ∙ e))
    (λ e. ways_by l c.args.place i Stops found c.requires.here (sym c.turn.ensures ∙ e))
    c.in-Returns.is

pub returns-in-Branches : goal.returns-in-Branches
returns-in-Branches c =
    let l : Listing = c.args.listing.now in
    let i = c.in-Some.instruction.now in
    let found : instruction_at l c.args.place.address ≡ Some i =
    ap (λ a. instruction_at l a) (sym c.from.ensures) ∙ sym (c.in-Some.ensures {u = tt}) in
    let w =
    ways_by l c.args.place i (Branches c.in-Branches.to) found c.requires.here
    (sym c.turn.ensures ∙ c.in-Branches.is) in
    (branch_way l i c.args.place.index c.in-Branches.to, (c.branch-places.ensures l c.requires.places, w))

pub returns-in-Tests : goal.returns-in-Tests
returns-in-Tests c =
    let l : Listing = c.args.listing.now in
    let i = c.in-Some.instruction.now in
    let found : instruction_at l c.args.place.address ≡ Some i =
    ap (λ a. instruction_at l a) (sym c.from.ensures) ∙ sym (c.in-Some.ensures {u = tt}) in
    let w =
    ways_by l c.args.place i (Tests c.in-Tests.to) found c.requires.here (sym c.turn.ensures ∙ c.in-Tests.is) in (
      branch_way l i c.args.place.index c.in-Tests.to,
      (
        c.branch-places-in-Tests.ensures l c.requires.places,
        (way_to l FallsOff (next_place i c.args.place.index), (c.to_next-next.ensures l c.requires.places, w)),
      ),
    )

pub returns-in-Switches : goal.returns-in-Switches
returns-in-Switches c =
    let l : Listing = c.args.listing.now in
    let i = c.in-Some.instruction.now in
    let found : instruction_at l c.args.place.address ≡ Some i =
    ap (λ a. instruction_at l a) (sym c.from.ensures) ∙ sym (c.in-Some.ensures {u = tt}) in
    let w = ways_by l c.args.place i Switches found c.requires.here (sym c.turn.ensures ∙ c.in-Switches.is) in
    (Fails NoTable, (refl, w))
