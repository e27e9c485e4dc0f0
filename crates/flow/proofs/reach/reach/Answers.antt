use Rattle.std.proofs.Common.{rules, ◌≡◌, ℕ, [], length, List, Bool, arith, subst, ◌<◌}
use Rattle.flow.specs.Slots.{at}
use Rattle.flow.specs.Steps.{Noted}
use Rattle.flow.proofs.Order.{at_in}
use Rattle.flow.proofs.Reaching.{searched_first, searched_on, searched_all, last_inside, same_work, no_items, inside}
use Rattle.flow.proofs.reach.reach.Goals as goal

pub loop-slot-init : goal.loop-slot-init
loop-slot-init c =
    searched_first c.args.listing.now c.args.places.now c.args.start c.note.new.reached.items c.note.new.work.items
    c.requires.start
    (let P : List Bool → Type 0 = λ s. Noted s [] c.args.start c.note.new.reached.items c.note.new.work.items in
    let Q : List ℕ → Type 0 =
    λ w. Noted c.in_ok-reached.reached.items w c.args.start c.note.new.reached.items c.note.new.work.items in
    subst P (c.in_ok-reached.ensures {u = tt}) (subst Q c.new-work.ensures.items (c.in_ok-note.ensures {u = tt})))

pub bounds-places-slot : goal.bounds-places-slot
bounds-places-slot c =
    last_inside c.args.listing.now c.args.places.now c.args.start c.loop-slot.reached.items c.pop.new.self.items
    c.in-Some.slot
    (same_work _ _ _ _ _ _ (c.in-Some.ensures {u = tt}).items c.loop-slot.invariant)

pub edges_from-edges-requires-clause-here : goal.edges_from-edges-requires-clause-here
edges_from-edges-requires-clause-here c =
    let lt =
    last_inside c.args.listing.now c.args.places.now c.args.start c.loop-slot.reached.items c.pop.new.self.items
    c.in-Some.slot
    (same_work _ _ _ _ _ _ (c.in-Some.ensures {u = tt}).items c.loop-slot.invariant) in
    (c.requires.places.each (at c.args.places.now c.in-Some.slot)).0 (at_in c.args.places.now c.in-Some.slot lt)

pub expand-requires : goal.expand-requires
expand-requires c =
    inside c.args.places.now c.edges_from-edges.result _ _
    (omega (arith, c.loop-slot.invariant.long, c.loop-slot.reached.ok.0)) c.edges_from-edges.ensures

pub loop-slot-preserved : goal.loop-slot-preserved
loop-slot-preserved c =
    searched_on c.args.listing.now c.args.places.now c.args.start c.loop-slot.reached.items c.pop.new.self.items
    c.in-Some.slot c.edges_from-edges.result c.expand.new.reached.items c.expand.new.work.items
    c.requires.places.rising
    (same_work _ _ _ _ _ _ (c.in-Some.ensures {u = tt}).items c.loop-slot.invariant) c.edges_from-edges.ensures
    (c.in_ok-expand.ensures {u = tt})

pub returns : goal.returns
returns c =
    let x = (c.in_default.ensures {u = tt}).cases in
    let none : length c.loop-slot.work.items ≡ 0 = omega (arith, x.0, c.loop-slot.work.ok.0) in
    searched_all c.args.listing.now c.args.places.now c.args.start c.loop-slot.reached.items c.requires.places
    c.requires.start (same_work _ _ _ _ _ _ (no_items c.loop-slot.work.items none) c.loop-slot.invariant)

pub offset_bounds-places-slot : goal.offset_bounds-places-slot
offset_bounds-places-slot c =
    let lt : c.in-Some.slot < length c.args.places.now =
    last_inside c.args.listing.now c.args.places.now c.args.start c.loop-slot.reached.items c.pop.new.self.items
    c.in-Some.slot
    (same_work _ _ _ _ _ _ (c.in-Some.ensures {u = tt}).items c.loop-slot.invariant) in
    search rules
