-- Ops on ranges of several variables, by computation.
use Rattle.std.proofs.Common.{refl}
use Rattle.op_code.specs.WorkedSeveral.{WorkedSeveral}

pub worked_several : WorkedSeveral
worked_several = record {
  adds_big = refl;
  adds_little = refl;
  one = refl;
  divides = refl;
  loads = refl;
  stores = refl;
  gives = refl;
}
