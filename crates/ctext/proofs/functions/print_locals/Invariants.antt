use Rattle.std.proofs.Common.{◌≡◌, ◌++◌, drop}
use Rattle.ctext.specs.Text.{local_lines}
use Rattle.ctext.proofs.functions.print_locals.Given as goal

abbrev pub invariant-loop-l : goal.invariant-loop-l
invariant-loop-l l = record {
  count : l.n ≡ l.l-index;
  text : l.out.items ++ local_lines l.n (drop l.l-index l.locals) ≡ l.initial.out.items ++ local_lines 0 l.locals;
}
