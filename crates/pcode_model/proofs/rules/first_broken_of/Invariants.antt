use Rattle.std.proofs.Common.{◌≡◌, drop}
use Rattle.pcode_model.specs.Rules.{first_broken_of}
use Rattle.pcode_model.proofs.rules.first_broken_of.Given as goal

abbrev pub invariant-loop-why : goal.invariant-loop-why
invariant-loop-why l = first_broken_of l.listing l.op (drop l.why-index l.rules) ≡ first_broken_of l.listing l.op l.rules
