use Rattle.std.proofs.Common.{◌≡◌, [], drop}
use Rattle.layout.specs.Callees.{called_in}
use Rattle.layout.proofs.declarations.called.Given as goal

abbrev pub invariant-loop-block : goal.invariant-loop-block
invariant-loop-block l = called_in l.known (drop l.block-index l.blocks) ≡ called_in [] l.blocks
