use Rattle.std.proofs.Common.{◌≡◌, take, true}
use Rattle.std.specs.List.{AllByRecursion}
use Rattle.pcode_run.specs.Run.{lies_in_ram}
use Rattle.pcode_run.proofs.framing.lies_in_ram.Given as goal

abbrev pub invariant-loop-access : goal.invariant-loop-access
invariant-loop-access l = AllByRecursion (λ a. lies_in_ram l.listing a ≡ true) (take l.access-index l.access-items)
