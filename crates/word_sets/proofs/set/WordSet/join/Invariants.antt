use Rattle.std.proofs.Common.{length, ◌-◌, ◌+◌}
use Rattle.word_sets.specs.Turns.{joined}
use Rattle.word_sets.proofs.Joining.{Joining}
use Rattle.word_sets.proofs.set.WordSet.join.Given as goal

abbrev pub invariant-points : goal.invariant-points
invariant-points l =
    Joining (joined l.how) l.self.first l.other.first l.left l.right l.i l.j l.p l.q l.mark l.out.items

abbrev pub decreases-points : goal.decreases-points
decreases-points l = (length l.left - l.i) + (length l.right - l.j)
