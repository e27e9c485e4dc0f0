use Rattle.std.proofs.Common.{◌<◌, ◌≤◌, arith, ⊎_elim}
use Rattle.std.proofs.lemmas.Bool.{cases_lt}
use Rattle.frame_known.proofs.Passed.{forgotten_none, forgotten_more}
use Rattle.frame_known.proofs.rows.forget.Goals as goal

pub loop-slot-init : goal.loop-slot-init
loop-slot-init c = record { gone = forgotten_none c.args.low c.args.row.now; past = λ lt. omega arith }

pub set-requires : goal.set-requires
set-requires c = omega (arith, c.loop-slot.invariant.gone.long)

pub loop-slot-preserved : goal.loop-slot-preserved
loop-slot-preserved c = record {
  gone =
      forgotten_more c.args.low c.loop-slot.slot c.args.row.now c.loop-slot.row c.set.new.self
      c.loop-slot.invariant.gone c.loop-slot.auto.slot (omega (arith, c.loop-slot.invariant.gone.long))
      c.set.ensures;
  past = λ lt. omega arith;
}

pub returns : goal.returns
returns c =
    let x = c.loop-slot.invariant in
    record {
      long = x.gone.long;
      gone = λ k low high. x.gone.gone k low (omega (arith, low, high));
      before = x.gone.before;
      behind = λ k low high. x.gone.behind k low (⊎_elim
          (λ (lt : c.args.high < c.loop-slot.slot). omega (arith, low, x.past lt))
          (λ (le : c.loop-slot.slot ≤ c.args.high). omega (arith, high, le))
          (cases_lt c.args.high c.loop-slot.slot));
    }
