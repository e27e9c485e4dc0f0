use Rattle.std.proofs.Common.{◌≡◌, length}
use Rattle.op_code.specs.Words.{joined}
use Rattle.op_code.proofs.Joined.{joined_onto}
use Rattle.op_code.proofs.words.joined.Given as goal

abbrev pub invariant-loop-piece : goal.invariant-loop-piece
invariant-loop-piece l = joined_onto l.pieces.items l.word ≡ joined l.fn.pieces.items

abbrev pub decreases-loop-piece : goal.decreases-loop-piece
decreases-loop-piece l = length l.pieces.items
