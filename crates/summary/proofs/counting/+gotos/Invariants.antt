use Rattle.std.proofs.Common.{◌≡◌, ◌+◌, drop}
use Rattle.summary.specs.Gotos.{in_arms, in_body}
use Rattle.summary.proofs.counting.+gotos.Given as goal

abbrev pub invariant-after_body-loop-s : goal.invariant-after_body-loop-s
invariant-after_body-loop-s l = l.count + in_body (drop l.s-index l.body) ≡ l.before + in_body l.body

abbrev pub invariant-after_arms-loop-arm : goal.invariant-after_arms-loop-arm
invariant-after_arms-loop-arm l = l.count + in_arms (drop l.arm-index l.arms) ≡ l.before + in_arms l.arms
