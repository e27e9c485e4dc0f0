use Rattle.std.proofs.Common.{◌≡◌, drop}
use Rattle.cmeaning.specs.Arms.{is_case}
use Rattle.cmeaning.proofs.cases.among_arms.Given as goal

abbrev pub invariant-loop-arm : goal.invariant-loop-arm
invariant-loop-arm l = is_case l.x (drop l.arm-index l.arms) ≡ is_case l.x l.arms
