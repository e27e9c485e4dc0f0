use Rattle.std.proofs.Common.{◌≡◌, ◌++◌, List, ℕ, drop, take}
use Rattle.cmeaning.specs.Arms.{are_new, Holds}
use Rattle.cmeaning.proofs.cases.add_new.Given as goal

abbrev pub invariant-loop-x : goal.invariant-loop-x
invariant-loop-x l = (known : List ℕ) → Holds l.initial.seen known → Holds l.seen (known ++ take l.x-index l.values)
    × (are_new (known ++ take l.x-index l.values) (drop l.x-index l.values) ≡ are_new known l.values)
