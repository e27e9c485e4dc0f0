use Rattle.std.proofs.Common.{◌≡◌, ◌++◌, drop, map}
use Rattle.listing_print.specs.Printed.{ended, proto_line}
use Rattle.listing_print.proofs.print.proto_lines.Given as goal

abbrev pub invariant-loop-proto : goal.invariant-loop-proto
invariant-loop-proto l = l.out.items ++ ended (map (proto_line l.spaces) (drop l.proto-index l.list)) ≡ l.initial.out.items ++ ended (map (proto_line l.spaces) l.list)
