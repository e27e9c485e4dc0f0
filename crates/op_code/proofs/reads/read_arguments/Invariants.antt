use Rattle.std.proofs.Common.{◌≡◌, ◌≤◌, ◌^◌, ◌++◌, length, drop}
use Rattle.pcode_model.specs.Step.{arguments}
use Rattle.op_code.specs.FrameTable.{own_of}
use Rattle.op_code.specs.Made.{reads}
use Rattle.op_code.proofs.reads.read_arguments.Given as goal

abbrev pub invariant-loop-at : goal.invariant-loop-at
invariant-loop-at l =
    let all = reads l.listing (own_of l.own) l.table (length l.initial.variables) (arguments 0 l.arguments) in
    let rest = reads l.listing (own_of l.own) l.table (length l.variables) (arguments l.at (drop l.at l.arguments)) in
    record {
      words : l.words ++ rest.words ≡ all.words;
      loads : l.body ++ rest.loads ≡ l.initial.body ++ all.loads;
      locals : l.variables ++ rest.locals ≡ l.initial.variables ++ all.locals;
      few : length l.variables ≤ 2 ^ 32;
    }
