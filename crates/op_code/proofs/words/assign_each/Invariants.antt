use Rattle.std.proofs.Common.{◌≡◌, ◌++◌, map, drop}
use Rattle.op_code.specs.Words.{assigns_part}
use Rattle.op_code.proofs.words.assign_each.Given as goal

abbrev pub invariant-loop-piece : goal.invariant-loop-piece
invariant-loop-piece l = l.body ++ map (assigns_part l.big l.range l.local) (drop l.piece-index l.pieces)
    ≡ l.initial.body ++ map (assigns_part l.big l.range l.local) l.pieces
