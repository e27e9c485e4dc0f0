-- Small calls, by computation.
use Rattle.std.proofs.Common.{refl}
use Rattle.op_code.specs.WorkedCalls.{WorkedCalls}

pub worked_calls : WorkedCalls
worked_calls = record {
  one = refl;
  two = refl;
  none = refl;
  never = refl;
  by_register = refl;
  by_memory = refl;
  stores = refl;
  sets = refl;
  gives_none = refl;
}
