-- Small ranges, by computation.
use Rattle.std.proofs.Common.{refl}
use Rattle.op_code.specs.WorkedCovers.{WorkedBytes, WorkedCovers, WorkedReads, WorkedWrites}

pub worked_covers : WorkedCovers
worked_covers = record {
  three = refl;
  two = refl;
  one = refl;
  other_space = refl;
  begins_within = refl;
  ends_within = refl;
  nowhere = refl;
}

pub worked_reads : WorkedReads
worked_reads = record {
  three_little = refl;
  three_big = refl;
  two_little = refl;
  two_big = refl;
  one_little = refl;
  one_big = refl;
}

pub worked_writes : WorkedWrites
worked_writes = record { to_local = refl; little = refl; big = refl }

pub worked_bytes : WorkedBytes
worked_bytes = record { target_big = refl; big = refl; target_little = refl; little = refl }
