use Rattle.std.proofs.Common.{ℕ, Bool, sym, ◌∙◌, subst, ◌+◌, Global}
use Rattle.std.proofs.lemmas.Bool.{false≢true}
use Rattle.std.specs.Prelude.{Vec}
use Rattle.flow.proofs.Marking.{Marking, marking_first, marking_reached, marking_passed, marking_last}
use Rattle.flow.proofs.starts.begins.Goals as goal
use Rattle.flow.proofs.starts.begins.Goals.{then-reached-slot, else-reached-slot}

pub loop-slot-init : goal.loop-slot-init
loop-slot-init c =
    marking_first c.args.listing.now c.args.places.now c.args.start c.in_ok-begins.begins.items c.requires.start
    (c.in_ok-begins.ensures {u = tt})

pub loop-slot-preserved : goal.loop-slot-preserved
loop-slot-preserved c =
    let n : ℕ = c.loop-slot.slot in
    let l = c.args.listing.now in
    let ps = c.args.places.now in
    let P : Vec Bool Global → Type 0 = λ x. Marking l ps c.args.start (n + 1) x.items in
    elim c.if-reached-slot.branch [
      | then-reached-slot w ↦
          subst P (sym w.begins-is)
          (marking_reached l ps c.args.start n c.loop-slot.begins.items w.mark_branch.new.begins.items
          c.loop-slot.invariant ((c.requires.reached.each n c.loop-slot-test.true).0 w.if-reached-slot.true)
          w.mark_branch.ensures)
      | else-reached-slot w ↦
          subst P (sym w.begins-is)
          (marking_passed l ps c.args.start n c.loop-slot.begins.items c.loop-slot.invariant
          (λ r. false≢true (sym w.if-reached-slot.false ∙ (c.requires.reached.each n c.loop-slot-test.true).1 r)))
    ]

pub returns : goal.returns
returns c =
    marking_last c.args.listing.now c.args.places.now c.args.start c.loop-slot.slot c.loop-slot.begins.items
    c.args.reached.now c.requires.places c.requires.start c.requires.reached c.loop-slot.invariant
    c.loop-slot-test.false
