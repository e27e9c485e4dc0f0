-- Small accesses of the frame, by computation.
use Rattle.std.proofs.Common.{refl}
use Rattle.op_code.specs.WorkedFrame.{WorkedFrame}

pub worked_frame : WorkedFrame
worked_frame = record {
  below = refl;
  upon = refl;
  loads = refl;
  loads_one = refl;
  loads_two = refl;
  stores = refl;
  stores_one = refl;
  stores_two = refl;
  passes = refl;
  passes_own = refl;
  keeps = refl;
}
