use Rattle.std.proofs.Common.{◌≡◌, ◌++◌, drop, map}
use Rattle.listing_print.specs.Printed.{range_part, spaced}
use Rattle.listing_print.proofs.parts.ranges.Given as goal

abbrev pub invariant-loop-v : goal.invariant-loop-v
invariant-loop-v l = l.out.items ++ spaced (map (range_part l.spaces) (drop l.v-index l.list)) ≡ l.initial.out.items ++ spaced (map (range_part l.spaces) l.list)
