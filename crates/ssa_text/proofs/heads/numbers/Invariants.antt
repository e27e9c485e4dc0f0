use Rattle.std.proofs.Common.{◌≡◌, ◌++◌, drop}
use Rattle.sorting.specs.Ranks.{numbers_of}
use Rattle.ssa_text.proofs.heads.numbers.Given as goal

abbrev pub invariant-loop-item : goal.invariant-loop-item
invariant-loop-item l = l.numbers.items ++ numbers_of (drop l.item-index l.ranked) ≡ numbers_of l.ranked
