-- Worked runs, by computation.
use Rattle.std.proofs.Common.{refl}
use Rattle.bits_core.specs.Value.{limit, sub}
use Rattle.frame_law.specs.Worked.{WorkedFrame}

pub worked_frame : WorkedFrame
unfolding limit sub
worked_frame = record {
  own_found = refl;
  own_found_apart = refl;
  pointer = refl;
  pointer_apart = refl;
  spoiled = refl;
  spoiled_apart = refl;
}
