use Rattle.std.proofs.Common.{◌≡◌}
use Rattle.generator.specs.Draws.{before, drawn_at}
use Rattle.generator.specs.Generated.{instructions}
use Rattle.generator.proofs.listing.instructions.Given as goal

abbrev pub invariant-loop-i : goal.invariant-loop-i
invariant-loop-i l = record {
  made : l.made ≡ instructions (drawn_at l.number) l.i;
  state : l.state ≡ before l.number l.i;
}
