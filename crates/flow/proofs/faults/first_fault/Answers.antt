use Rattle.std.proofs.Common.{[], sym, ◌∙◌, subst, Option}
use Rattle.std.proofs.lemmas.Bool.{false≢true}
use Rattle.pcode_model.specs.declared.flow.FlowWhy.{FlowWhy}
use Rattle.pcode_model.specs.Flow.{ways}
use Rattle.flow.specs.Slots.{at}
use Rattle.flow.specs.Edges.{IsLeastFault}
use Rattle.flow.proofs.Faulting.{no_fault_at, first_here, none_here, one_more}
use Rattle.flow.proofs.faults.first_fault.Goals as goal
use Rattle.flow.proofs.faults.first_fault.Goals.{then-reached-slot+in_default, else-reached-slot}

pub returns-in-Some : goal.returns-in-Some
returns-in-Some c =
    let ps = c.args.places.now in
    let P : Option FlowWhy → Type 0 = λ r. IsLeastFault (ways c.args.listing.now [] (at ps c.loop-slot.slot)) r in
    first_here c.args.listing.now ps c.args.reached.now c.loop-slot.slot c.in-Some.why c.requires.places
    c.requires.reached c.loop-slot-test.true c.if-reached-slot.true c.loop-slot.invariant
    (subst P c.in-Some.is
    (c.least_fault.ensures ps (ways c.args.listing.now [] (at ps c.loop-slot.slot)) c.edges_from.ensures))

pub loop-slot-preserved : goal.loop-slot-preserved
loop-slot-preserved c =
    let ps = c.args.places.now in
    let P : Option FlowWhy → Type 0 = λ r. IsLeastFault (ways c.args.listing.now [] (at ps c.loop-slot.slot)) r in
    one_more c.args.listing.now ps c.loop-slot.slot c.loop-slot.invariant
    (elim c.if-reached-slot.branch [
      | then-reached-slot+in_default w ↦
          no_fault_at c.args.listing.now (at ps c.loop-slot.slot)
          (subst P w.in_default.is
          (w.least_fault.ensures ps (ways c.args.listing.now [] (at ps c.loop-slot.slot)) w.edges_from.ensures))
      | else-reached-slot w ↦
          λ other h. false≢true (sym w.if-reached-slot.false
          ∙ (c.requires.reached.each c.loop-slot.slot c.loop-slot-test.true).1 h.0)
    ])

pub returns : goal.returns
returns c =
    none_here c.args.listing.now c.args.places.now c.args.reached.now c.loop-slot.slot c.requires.reached
    c.loop-slot-test.false c.loop-slot.invariant
