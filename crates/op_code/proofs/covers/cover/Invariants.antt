use Rattle.std.proofs.Common.{◌≡◌, ◌+◌, ◌-◌, ◌++◌}
use Rattle.op_code.specs.Cover.{cover, pieces_from}
use Rattle.op_code.proofs.covers.cover.Given as goal

abbrev pub invariant-loop-at : goal.invariant-loop-at
invariant-loop-at l =
    l.pieces.items ++ pieces_from l.table l.range.space (l.range.offset + l.at) (l.range.size - l.at)
    ≡ cover l.table l.range
