use Rattle.pcode_model.specs.Step.{proto_at}
use Rattle.frame_known.proofs.Passed.{Called}
use Rattle.frame_known.proofs.rows.over_call.Given as goal

abbrev pub invariant-loop-slot : goal.invariant-loop-slot
invariant-loop-slot l = Called l.listing l.slots (proto_at l.listing l.proto) l.slot l.fn.row l.row
