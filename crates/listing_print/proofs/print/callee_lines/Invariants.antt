use Rattle.std.proofs.Common.{◌≡◌, ◌++◌, drop, map, codes}
use Rattle.listing_print.specs.Printed.{ended, function_line}
use Rattle.listing_print.proofs.print.callee_lines.Given as goal

abbrev pub invariant-loop-function : goal.invariant-loop-function
invariant-loop-function l = l.out.items ++ ended (map (function_line (codes "callee") l.spaces l.protos) (drop l.function-index l.list)) ≡ l.initial.out.items ++ ended (map (function_line (codes "callee") l.spaces l.protos) l.list)
