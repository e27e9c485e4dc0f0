use Rattle.std.proofs.Common.{◌≡◌, drop}
use Rattle.cmeaning.specs.Arms.{arms_fit}
use Rattle.cmeaning.proofs.cases.all_fit.Given as goal

abbrev pub invariant-loop-arm : goal.invariant-loop-arm
invariant-loop-arm l = arms_fit l.width (drop l.arm-index l.arms) ≡ arms_fit l.width l.arms
