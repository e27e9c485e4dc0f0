use Rattle.std.proofs.Common.{ℕ, List, Bool, sym, subst, ◌+◌, arith}
use Rattle.pcode_model.specs.declared.listing.Place.{Place}
use Rattle.pcode_model.specs.declared.flow.Block.{Block}
use Rattle.flow.proofs.Scanning.{Scanned, Known, scanned_on, scanned_past, scanned_last, scanned_count}
use Rattle.flow.proofs.blocks.blocks.Goals as goal
use Rattle.flow.proofs.blocks.blocks.Goals.{then-reached-slot+in_ok-pass, else-reached-slot}

pub loop-slot-preserved : goal.loop-slot-preserved
loop-slot-preserved c =
    let l = c.args.listing.now in
    let ps : List Place = c.args.places.now in
    let reached : List Bool = c.args.reached.now in
    let begins : List Bool = c.args.begins.now in
    let starts : List Place = c.args.starts.now in
    let n : ℕ = c.loop-slot.slot in
    let k : Known l ps reached begins starts =
    record {
      apart = c.requires.apart;
      places = c.requires.places;
      reaches = c.requires.reached;
      begin = c.requires.begins;
      same = c.requires.starts;
    } in
    elim c.if-reached-slot.branch [
      | then-reached-slot+in_ok-pass w ↦
          let P : List Block → Type 0 = λ b. Scanned l ps reached begins starts b c.if-reached-slot.pending (n + 1) in
          let Q : List Place → Type 0 = λ o. Scanned l ps reached begins starts w.pass.new.blocks o (n + 1) in
          subst P (sym w.blocks-is) (subst Q (sym w.pending-is)
          (scanned_on l ps reached begins starts c.loop-slot.blocks c.loop-slot.pending n w.exit-exit.result
          w.pass.new.blocks w.pass.new.pending k c.loop-slot.invariant c.loop-slot-test.true
          w.if-reached-slot.true w.exit-exit.ensures (w.in_ok-pass.ensures {u = tt})))
      | else-reached-slot w ↦
          let P : List Block → Type 0 = λ b. Scanned l ps reached begins starts b c.if-reached-slot.pending (n + 1) in
          let Q : List Place → Type 0 = λ o. Scanned l ps reached begins starts c.loop-slot.blocks o (n + 1) in
          subst P (sym w.blocks-is) (subst Q (sym w.pending-is)
          (scanned_past l ps reached begins starts c.loop-slot.blocks c.loop-slot.pending n k
          c.loop-slot.invariant c.loop-slot-test.true w.if-reached-slot.false))
    ]

pub returns-clause-flow : goal.returns-clause-flow
returns-clause-flow c =
    scanned_last c.args.listing.now c.args.places.now c.args.reached.now c.args.begins.now c.args.starts.now
    c.loop-slot.blocks c.loop-slot.pending c.loop-slot.slot
    (record {
      apart = c.requires.apart;
      places = c.requires.places;
      reaches = c.requires.reached;
      begin = c.requires.begins;
      same = c.requires.starts;
    })
    c.loop-slot.invariant (omega arith)

pub returns-clause-count : goal.returns-clause-count
returns-clause-count c =
    scanned_count c.args.listing.now c.args.places.now c.args.reached.now c.args.begins.now c.args.starts.now
    c.loop-slot.blocks c.loop-slot.pending c.loop-slot.slot
    (record {
      apart = c.requires.apart;
      places = c.requires.places;
      reaches = c.requires.reached;
      begin = c.requires.begins;
      same = c.requires.starts;
    })
    c.loop-slot.invariant (omega arith)
