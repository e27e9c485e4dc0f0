use Rattle.std.proofs.Common.{◌≡◌, drop, false}
use Rattle.cmeaning.specs.Flat.{last_leaves, pieces_of, returns_by}
use Rattle.flatcode.proofs.spans.last_leaves.Given as goal

abbrev pub invariant-loop-s : goal.invariant-loop-s
invariant-loop-s l =
    last_leaves l.last (pieces_of (returns_by l.callees) (drop l.s-index l.body))
    ≡ last_leaves false (pieces_of (returns_by l.callees) l.body)
