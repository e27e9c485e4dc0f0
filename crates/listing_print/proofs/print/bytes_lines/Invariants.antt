use Rattle.std.proofs.Common.{◌≡◌, ◌++◌, drop, map}
use Rattle.listing_print.specs.Printed.{bytes_line, ended}
use Rattle.listing_print.proofs.print.bytes_lines.Given as goal

abbrev pub invariant-loop-fixed : goal.invariant-loop-fixed
invariant-loop-fixed l = l.out.items ++ ended (map (bytes_line l.spaces) (drop l.fixed-index l.list)) ≡ l.initial.out.items ++ ended (map (bytes_line l.spaces) l.list)
