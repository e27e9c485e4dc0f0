use Rattle.std.proofs.Common.{◌≡◌, drop}
use Rattle.cmeaning.specs.Do.{widths_in}
use Rattle.cmeaning.specs.Valid.{have_widths}
use Rattle.cmeaning.proofs.rules.args_fit.Given as goal

abbrev pub invariant-loop-i : goal.invariant-loop-i
invariant-loop-i l = have_widths (widths_in l.f) (drop l.i l.args) (drop l.i l.widths)
    ≡ have_widths (widths_in l.f) l.args l.widths
