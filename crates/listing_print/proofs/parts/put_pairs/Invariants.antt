use Rattle.std.proofs.Common.{◌≡◌, ◌++◌, drop}
use Rattle.listing_print.specs.Printed.{pairs}
use Rattle.listing_print.proofs.parts.put_pairs.Given as goal

abbrev pub invariant-loop-b : goal.invariant-loop-b
invariant-loop-b l = l.out.items ++ pairs (drop l.b-index l.bytes) ≡ l.initial.out.items ++ pairs l.bytes
