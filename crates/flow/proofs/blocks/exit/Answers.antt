use Rattle.std.proofs.Common.{length, sym, ap, ◌∙◌, subst, refl}
use Rattle.std.proofs.lemmas.Bool.{false≢true}
use Rattle.pcode_model.specs.declared.flow.Turn.{Turn}
use Rattle.pcode_model.specs.Flow.{is_branch}
use Rattle.flow.specs.Slots.{at}
use Rattle.flow.specs.Blocks.{EndsBy}
use Rattle.flow.proofs.Order.{at_in}
use Rattle.flow.proofs.Exits.{rising_starts, member_one, member_marked, members_two, ends_leave, one_leaves, one_goes_on, two_leave}
use Rattle.flow.specs.declared.edges.Leaving.TheVariants.{One}
use Rattle.flow.proofs.Reaching.{inside}
use Rattle.flow.proofs.blocks.exit.Goals as goal

pub edges_from-requires-clause-here : goal.edges_from-requires-clause-here
edges_from-requires-clause-here c =
    (c.requires.places.each (at c.args.places.now c.args.slot)).0
    (at_in c.args.places.now c.args.slot c.requires.inside)

pub jump-requires-clause-rising : goal.jump-requires-clause-rising
jump-requires-clause-rising c =
    rising_starts c.args.listing.now c.args.places.now c.args.begins.now c.args.starts.now c.requires.places
    c.requires.starts

pub jump-requires-clause-member : goal.jump-requires-clause-member
jump-requires-clause-member c =
    member_one c.args.listing.now c.args.places.now c.args.begins.now c.args.starts.now
    (at c.args.places.now c.args.slot) c.in-One.edge c.requires.begins c.requires.starts c.requires.here
    (ap is_branch (sym c.turn-turn.ensures) ∙ (sym c.is_branch.ensures ∙ c.if-is_branch.true))
    (c.in-One.ensures {u = tt})

pub jump-requires-then-is_marked-clause-rising : goal.jump-requires-then-is_marked-clause-rising
jump-requires-then-is_marked-clause-rising c =
    rising_starts c.args.listing.now c.args.places.now c.args.begins.now c.args.starts.now c.requires.places
    c.requires.starts

pub jump-requires-then-is_marked-clause-member : goal.jump-requires-then-is_marked-clause-member
jump-requires-then-is_marked-clause-member c =
    member_marked c.args.places.now c.args.begins.now c.args.starts.now c.in-One.edge c.requires.starts
    (inside c.args.places.now (One c.in-One.edge) _ (length c.args.places.now) refl (c.in-One.ensures {u = tt}))
    ((c.if-is_marked.ensures {u = tt}).0 refl)

pub test-requires-clause-rising : goal.test-requires-clause-rising
test-requires-clause-rising c =
    rising_starts c.args.listing.now c.args.places.now c.args.begins.now c.args.starts.now c.requires.places
    c.requires.starts

pub test-requires-clause-taken_member : goal.test-requires-clause-taken_member
test-requires-clause-taken_member c =
    let s =
    (c.requires.places.each (at c.args.places.now c.args.slot)).0
    (at_in c.args.places.now c.args.slot c.requires.inside) in
    (members_two c.args.listing.now c.args.places.now c.args.begins.now c.args.starts.now
    (at c.args.places.now c.args.slot) c.in-Two.taken c.in-Two.other s c.requires.begins c.requires.starts
    c.requires.here (c.in-Two.ensures {u = tt})).0

pub test-requires-clause-other_member : goal.test-requires-clause-other_member
test-requires-clause-other_member c =
    let s =
    (c.requires.places.each (at c.args.places.now c.args.slot)).0
    (at_in c.args.places.now c.args.slot c.requires.inside) in
    (members_two c.args.listing.now c.args.places.now c.args.begins.now c.args.starts.now
    (at c.args.places.now c.args.slot) c.in-Two.taken c.in-Two.other s c.requires.begins c.requires.starts
    c.requires.here (c.in-Two.ensures {u = tt})).1

pub returns-in-Ends : goal.returns-in-Ends
returns-in-Ends c =
    let s =
    (c.requires.places.each (at c.args.places.now c.args.slot)).0
    (at_in c.args.places.now c.args.slot c.requires.inside) in
    let P : Turn → Type 0 = λ t. EndsBy t c.end.result in
    ends_leave c.args.listing.now c.args.starts.now (at c.args.places.now c.args.slot) c.end.result s
    (c.in-Ends.ensures {u = tt}) (subst P c.turn-turn.ensures c.end.ensures)

pub returns-then-is_branch : goal.returns-then-is_branch
returns-then-is_branch c =
    let s =
    (c.requires.places.each (at c.args.places.now c.args.slot)).0
    (at_in c.args.places.now c.args.slot c.requires.inside) in
    one_leaves c.args.listing.now c.args.places.now c.args.starts.now c.args.slot c.in-One.edge c.jump.result s
    c.requires.sound c.requires.here (c.in-One.ensures {u = tt}) c.jump.ensures

pub returns-then-is_marked : goal.returns-then-is_marked
returns-then-is_marked c =
    let s =
    (c.requires.places.each (at c.args.places.now c.args.slot)).0
    (at_in c.args.places.now c.args.slot c.requires.inside) in
    one_leaves c.args.listing.now c.args.places.now c.args.starts.now c.args.slot c.in-One.edge
    c.jump-then-is_marked.result s c.requires.sound c.requires.here (c.in-One.ensures {u = tt})
    c.jump-then-is_marked.ensures

pub returns-else-is_marked : goal.returns-else-is_marked
returns-else-is_marked c =
    let s =
    (c.requires.places.each (at c.args.places.now c.args.slot)).0
    (at_in c.args.places.now c.args.slot c.requires.inside) in
    one_goes_on c.args.listing.now c.args.places.now c.args.begins.now c.args.starts.now c.args.slot c.in-One.edge
    c.requires.apart c.requires.places c.requires.starts c.requires.inside s c.requires.sound c.requires.here
    (c.in-One.ensures {u = tt})
    (ap is_branch (sym c.turn-turn.ensures) ∙ (sym c.is_branch.ensures ∙ c.if-is_branch.false))
    (λ m. false≢true ((c.if-is_marked.ensures {u = tt}).1 m))

pub returns-in-Two : goal.returns-in-Two
returns-in-Two c =
    let s =
    (c.requires.places.each (at c.args.places.now c.args.slot)).0
    (at_in c.args.places.now c.args.slot c.requires.inside) in
    two_leave c.args.listing.now c.args.places.now c.args.starts.now c.args.slot c.in-Two.taken c.in-Two.other
    c.test.result s c.requires.sound c.requires.here (c.in-Two.ensures {u = tt}) c.test.ensures
