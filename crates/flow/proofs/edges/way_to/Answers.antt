use Rattle.pcode_model.specs.Places.{place}
use Rattle.flow.proofs.Meaning.{means_to, means_faulty}
use Rattle.flow.proofs.edges.way_to.Goals as goal

pub returns-in-Some : goal.returns-in-Some
returns-in-Some c =
    λ l a. means_to l c.args.places.now c.args.why (place c.args.address c.args.index) c.in-Some.slot a
    (c.in-Some.ensures {u = tt})

pub returns-in-None : goal.returns-in-None
returns-in-None c = λ l a.
    means_faulty l c.args.places.now c.args.why (place c.args.address c.args.index) a (c.in-None.ensures {u = tt})
