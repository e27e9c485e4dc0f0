use Rattle.std.proofs.Common.{◌≡◌, ◌++◌, drop, map}
use Rattle.listing_print.specs.Printed.{storage_part, spaced}
use Rattle.listing_print.proofs.parts.storages.Given as goal

abbrev pub invariant-loop-s : goal.invariant-loop-s
invariant-loop-s l = l.out.items ++ spaced (map (storage_part l.spaces) (drop l.s-index l.list)) ≡ l.initial.out.items ++ spaced (map (storage_part l.spaces) l.list)
