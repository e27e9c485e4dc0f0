-- Small cases, by computation.
use Rattle.std.proofs.Common.{refl, inl, inr, arith}
use Rattle.std.specs.Prelude.{pos, negsuc}
use Rattle.std.proofs.lemmas.Int.{ints}
use Rattle.bits_core.specs.Value.{limit, half}
use Rattle.frame_runs.specs.Worked.{WorkedBytes, WorkedEscapes, WorkedFacts, WorkedOps}

worked_ops : WorkedOps
unfolding limit half
worked_ops = record {
  copied = refl;
  added = inl (refl, (0, (refl, refl)));
  added_left = inr (refl, (0, (refl, refl)));
  taken_away = (refl, (0, (refl, refl)));
  taken_from = λ c h. cc (h.0);
  popped = (refl, (0, (refl, refl)));
  below = refl;
}

worked_escapes : WorkedEscapes
worked_escapes = record {
  compared = refl;
  added = refl;
  added_other = refl;
  low_byte = refl;
  masked = refl;
  stored = refl;
  loaded = refl;
  loaded_elsewhere = refl;
  jumped = refl;
  returned = refl;
}

worked_bytes : WorkedBytes
worked_bytes = record {
  across = (negsuc 1, ((omega (arith, ints), omega (arith, ints)), (omega (arith, ints), omega (arith, ints))));
  across_above = (pos 0, ((omega (arith, ints), omega (arith, ints)), (omega (arith, ints), omega (arith, ints))));
  touching = λ h. omega (arith, ints, h.1.0.0, h.1.0.1, h.1.1.0, h.1.1.1);
}

pub worked_facts : WorkedFacts
worked_facts = record { ops = worked_ops; escapes = worked_escapes; bytes = worked_bytes }
