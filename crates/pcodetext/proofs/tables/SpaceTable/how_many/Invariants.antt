use Rattle.std.proofs.Common.{◌≡◌, ◌+◌, ◌≤◌, drop}
use Rattle.pcode_model.specs.WellFormed.{how_many}
use Rattle.pcodetext.proofs.tables.SpaceTable.how_many.Given as goal

abbrev pub invariant-loop-space : goal.invariant-loop-space
invariant-loop-space l =
    record {
      count : how_many l.kind l.self ≡ l.n + how_many l.kind (drop l.space-index l.space-items);
      few : l.n ≤ l.space-index;
    }
