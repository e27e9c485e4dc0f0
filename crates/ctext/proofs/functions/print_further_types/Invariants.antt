use Rattle.std.proofs.Common.{◌≡◌, ◌++◌, drop}
use Rattle.ctext.specs.Names.{further}
use Rattle.ctext.specs.Text.{width_types}
use Rattle.ctext.proofs.functions.print_further_types.Given as goal

abbrev pub invariant-loop-w : goal.invariant-loop-w
invariant-loop-w l = l.out.items ++ further (width_types (drop l.w-index l.args))
    ≡ l.initial.out.items ++ further (width_types l.args)
