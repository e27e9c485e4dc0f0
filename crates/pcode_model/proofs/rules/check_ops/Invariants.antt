use Rattle.std.proofs.Common.{◌≡◌, drop}
use Rattle.pcode_model.specs.Rules.{HasFewOps, first_bad_in}
use Rattle.pcode_model.proofs.rules.check_ops.Given as goal

abbrev pub invariant-loop-instruction : goal.invariant-loop-instruction
invariant-loop-instruction l = (first_bad_in l.listing (drop l.instruction-index l.listing.code) ≡ first_bad_in l.listing l.listing.code)
    × HasFewOps (drop l.instruction-index l.listing.code)
