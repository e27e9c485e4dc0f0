use Rattle.std.proofs.Common.{◌≡◌, drop, false, map}
use Rattle.cmeaning.specs.Leaves.{last_of}
use Rattle.ctext.specs.Names.{scope_of}
use Rattle.ctext.specs.Statements.{Lines, lines}
use Rattle.ctext.proofs.statements.breaks.Given as goal

abbrev pub invariant-loop-s : goal.invariant-loop-s
invariant-loop-s l =
    last_of (λ (x : Lines). x.leaves) l.last (map (lines (scope_of l.f)) (drop l.s-index l.body))
    ≡ last_of (λ (x : Lines). x.leaves) false (map (lines (scope_of l.f)) l.body)
