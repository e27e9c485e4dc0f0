use Rattle.std.proofs.Common.{◌≡◌, ◌≤◌, ◌^◌, ◌++◌, length, drop}
use Rattle.pcode_model.specs.Step.{all_read}
use Rattle.op_code.specs.Made.{none_own, reads}
use Rattle.op_code.proofs.reads.read_each.Given as goal

abbrev pub invariant-loop-range : goal.invariant-loop-range
invariant-loop-range l =
    let all = reads l.listing none_own l.table (length l.initial.variables) (all_read l.ranges) in
    let rest = reads l.listing none_own l.table (length l.variables) (all_read (drop l.range-index l.ranges)) in
    record {
      words : l.words ++ rest.words ≡ all.words;
      loads : l.body ++ rest.loads ≡ l.initial.body ++ all.loads;
      locals : l.variables ++ rest.locals ≡ l.initial.variables ++ all.locals;
      few : length l.variables ≤ 2 ^ 32;
    }
