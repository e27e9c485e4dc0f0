use Rattle.std.proofs.Common.{◌≡◌, ◌<◌}
use Rattle.frame_known.specs.Steps.{Forgotten}
use Rattle.frame_known.proofs.rows.forget.Given as goal

abbrev pub invariant-loop-slot : goal.invariant-loop-slot
invariant-loop-slot l = record {
  gone : Forgotten l.low l.slot l.fn.row l.row;
  past : l.high < l.slot → l.slot ≡ l.low;
}
