use Rattle.std.proofs.Common.{◌≡◌, ◌++◌, map, drop}
use Rattle.op_code.specs.Left.{leftovers}
use Rattle.op_code.proofs.left.LeftTable.new.Given as goal

abbrev pub invariant-loop-proto : goal.invariant-loop-proto
invariant-loop-proto l =
    l.rows ++ map (λ p. leftovers l.listing p l.ranges) (drop l.proto-index l.listing.protos)
    ≡ map (λ p. leftovers l.listing p l.ranges) l.listing.protos
