use Rattle.std.proofs.Common.{◌≡◌, ◌++◌, drop}
use Rattle.ctext.specs.Names.{scope_of, further}
use Rattle.ctext.specs.Statements.{plain_texts}
use Rattle.ctext.proofs.simple.print_further.Given as goal

abbrev pub invariant-loop-e : goal.invariant-loop-e
invariant-loop-e l = l.out.items ++ further (plain_texts (scope_of l.f) (drop l.e-index l.es))
    ≡ l.initial.out.items ++ further (plain_texts (scope_of l.f) l.es)
