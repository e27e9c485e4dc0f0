use Rattle.std.proofs.Common.{◌≡◌, drop}
use Rattle.cmeaning.specs.Mentions.{numbered, in_exprs}
use Rattle.cmeaning.proofs.numbering.number_exprs.Given as goal

abbrev pub invariant-loop-e : goal.invariant-loop-e
invariant-loop-e l = numbered l.callees (in_exprs (drop l.e-index l.es)) l.next
    ≡ numbered l.callees (in_exprs l.es) l.initial.next
