use Rattle.std.proofs.Common.{length, ap, arith}
use Rattle.pcode_model.specs.declared.listing.SpaceKind.TheVariants.{Register, Unique}
use Rattle.op_code.proofs.Frames.{number_within}
use Rattle.plaincode.proofs.variables.range_of.Goals as goal

pub overflow_cast-result : goal.overflow_cast-result
overflow_cast-result c = omega (
  arith,
  c.number_of.ensures,
  number_within Register c.as_slice-spaces.result.now,
  ap length c.as_slice-spaces.ensures,
  c.requires.spaces,
)

pub overflow_cast-result-in-Unique : goal.overflow_cast-result-in-Unique
overflow_cast-result-in-Unique c = omega (
  arith,
  c.number_of-in-Unique.ensures,
  number_within Unique c.as_slice-spaces.result.now,
  ap length c.as_slice-spaces.ensures,
  c.requires.spaces,
)
