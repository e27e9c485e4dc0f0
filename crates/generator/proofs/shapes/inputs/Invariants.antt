use Rattle.std.proofs.Common.{◌≡◌, ◌++◌, drop}
use Rattle.generator.proofs.shapes.inputs.Given as goal

abbrev pub invariant-loop-varnode : goal.invariant-loop-varnode
invariant-loop-varnode l = l.varnodes ≡ l.inputs ++ drop l.varnode-index l.varnodes
