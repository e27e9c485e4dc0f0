use Rattle.std.proofs.Common.{◌≡◌, ◌++◌, drop, map}
use Rattle.listing_print.specs.Printed.{ended, op_line}
use Rattle.listing_print.proofs.print.op_lines.Given as goal

abbrev pub invariant-loop-op : goal.invariant-loop-op
invariant-loop-op l = l.out.items ++ ended (map (op_line l.spaces) (drop l.op-index l.list)) ≡ l.initial.out.items ++ ended (map (op_line l.spaces) l.list)
