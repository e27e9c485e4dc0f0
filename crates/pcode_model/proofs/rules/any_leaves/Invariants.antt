use Rattle.std.proofs.Common.{◌≡◌, drop}
use Rattle.pcode_model.specs.Rules.{any_leaves}
use Rattle.pcode_model.proofs.rules.any_leaves.Given as goal

abbrev pub invariant-loop-varnode : goal.invariant-loop-varnode
invariant-loop-varnode l = any_leaves l.listing (drop l.varnode-index l.varnodes) ≡ any_leaves l.listing l.varnodes
