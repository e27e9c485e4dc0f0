-- Small ops, by computation.
use Rattle.std.proofs.Common.{refl}
use Rattle.bits_core.specs.Value.{limit}
use Rattle.op_code.specs.Worked.{WorkedDivisors, WorkedOps, WorkedParts}

pub worked_parts : WorkedParts
worked_parts = record {
  whole = refl;
  low = refl;
  within = refl;
  at_end = refl;
  over = refl;
  past = refl;
  wider = refl;
  widest = refl;
  one_byte = refl;
}

pub worked_divisors : WorkedDivisors
unfolding limit
worked_divisors = record {
  by_zero = refl;
  by_three = refl;
  by_ones = refl;
  signed_by_zero = refl;
  signed_by_ones = refl;
  signed_by_three = refl;
}

pub worked_ops : WorkedOps
worked_ops = record {
  sums = refl;
  divides = refl;
  divides_known = refl;
  divides_none = refl;
  loads = refl;
  loads_words = refl;
  stores = refl;
  leaves = refl;
}
