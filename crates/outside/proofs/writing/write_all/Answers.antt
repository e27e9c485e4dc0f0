use Rattle.std.proofs.Common.{rules, arith}
use Rattle.std.proofs.lemmas.Grind.{common_steps}
use Rattle.outside.proofs.Pieces.{appends_next}
use Rattle.outside.proofs.writing.write_all.Goals as goal

pub loop-done-preserved : goal.loop-done-preserved
loop-done-preserved g c = (grind (arith, common_steps), appends_next _ _ _ _ _ _ c.loop-done.invariant.1 c.in_ok-done.ensures.bytes, search rules)
