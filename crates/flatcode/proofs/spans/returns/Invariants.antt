use Rattle.std.proofs.Common.{◌≡◌, drop}
use Rattle.cmeaning.specs.Flat.{returns_by}
use Rattle.flatcode.proofs.spans.returns.Given as goal

abbrev pub invariant-loop-c : goal.invariant-loop-c
invariant-loop-c l = returns_by (drop l.c-index l.callees) l.address ≡ returns_by l.callees l.address
