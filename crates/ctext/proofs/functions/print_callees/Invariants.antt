use Rattle.std.proofs.Common.{◌≡◌, ◌++◌, drop}
use Rattle.ctext.specs.Text.{callee_lines}
use Rattle.ctext.proofs.functions.print_callees.Given as goal

abbrev pub invariant-loop-c : goal.invariant-loop-c
invariant-loop-c l = l.out.items ++ callee_lines (drop l.c-index l.callees)
    ≡ l.initial.out.items ++ callee_lines l.callees
