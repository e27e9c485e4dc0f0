use Rattle.std.proofs.Common.{◌≡◌, ◌++◌, drop}
use Rattle.ctext.specs.Statements.{case_lines}
use Rattle.ctext.proofs.statements.print_cases.Given as goal

abbrev pub invariant-loop-n : goal.invariant-loop-n
invariant-loop-n l = l.out.items ++ case_lines (drop l.n-index l.cases) l.indent
    ≡ l.initial.out.items ++ case_lines l.cases l.indent
