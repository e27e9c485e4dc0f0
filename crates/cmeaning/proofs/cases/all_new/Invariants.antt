use Rattle.std.proofs.Common.{◌≡◌, List, ℕ, [], drop}
use Rattle.cmeaning.specs.Valid.{cases_of}
use Rattle.cmeaning.specs.Arms.{are_new, Holds}
use Rattle.cmeaning.proofs.cases.all_new.Given as goal

abbrev pub invariant-loop-arm : goal.invariant-loop-arm
invariant-loop-arm l = (known : List ℕ)
    × (Holds l.seen known × (are_new known (cases_of (drop l.arm-index l.arms)) ≡ are_new [] (cases_of l.arms)))
