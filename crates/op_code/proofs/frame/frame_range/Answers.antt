use Rattle.std.proofs.Common.{length, ap, arith}
use Rattle.pcode_model.specs.declared.listing.SpaceKind.TheVariants.{Ram}
use Rattle.op_code.proofs.Frames.{number_within}
use Rattle.op_code.proofs.frame.frame_range.Goals as goal

pub overflow_cast-space : goal.overflow_cast-space
overflow_cast-space c = omega (
  arith,
  c.number_of-space.ensures,
  number_within Ram c.as_slice.result.now,
  ap length c.as_slice.ensures,
  c.requires.spaces,
)
