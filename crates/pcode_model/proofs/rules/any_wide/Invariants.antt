use Rattle.std.proofs.Common.{◌≡◌, drop}
use Rattle.pcode_model.specs.Rules.{any_wide}
use Rattle.pcode_model.proofs.rules.any_wide.Given as goal

abbrev pub invariant-loop-varnode : goal.invariant-loop-varnode
invariant-loop-varnode l = any_wide (drop l.varnode-index l.varnodes) ≡ any_wide l.varnodes
