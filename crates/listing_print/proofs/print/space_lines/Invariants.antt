use Rattle.std.proofs.Common.{◌≡◌, ◌++◌, drop, map}
use Rattle.listing_print.specs.Printed.{ended, space_line}
use Rattle.listing_print.proofs.print.space_lines.Given as goal

abbrev pub invariant-loop-space : goal.invariant-loop-space
invariant-loop-space l = l.out.items ++ ended (map (space_line l.version) (drop l.space-index l.list)) ≡ l.initial.out.items ++ ended (map (space_line l.version) l.list)
