use Rattle.std.proofs.Common.{◌≡◌, ◌++◌, drop, map}
use Rattle.ctext.specs.Names.{further}
use Rattle.ctext.specs.Text.{param_text}
use Rattle.ctext.proofs.functions.print_further_params.Given as goal

abbrev pub invariant-loop-p : goal.invariant-loop-p
invariant-loop-p l = l.out.items ++ further (map param_text (drop l.p-index l.params))
    ≡ l.initial.out.items ++ further (map param_text l.params)
