use Rattle.cmeaning.proofs.Order.{Left}
use Rattle.cmeaning.proofs.params.in_turn.Given as goal

abbrev pub invariant-loop-p : goal.invariant-loop-p
invariant-loop-p l = Left l.seen l.last l.p-index l.params
