-- Small sets, by computation.
use Rattle.std.proofs.Common.{refl}
use Rattle.bits_core.specs.Value.{limit, half, lt, le, slt}
use Rattle.word_sets.specs.Words.{words_of}
use Rattle.word_sets.specs.Worked.{WorkedTurns, WorkedArcs, WorkedOrders}

pub worked_turns : WorkedTurns
unfolding words_of
worked_turns = record { none = refl; all = refl; between = refl; outside = refl; twice = refl; greatest = refl }

pub worked_arcs : WorkedArcs
unfolding words_of
worked_arcs = record { inside = refl; around = refl; to_the_end = refl; empty = refl }

pub worked_orders : WorkedOrders
unfolding limit half lt le slt
worked_orders = record {
  unsigned = refl;
  unsigned_arc = refl;
  signed = refl;
  signed_arc = refl;
  above = refl;
  equal = refl;
}
