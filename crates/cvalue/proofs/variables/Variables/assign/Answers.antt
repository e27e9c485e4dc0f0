use Rattle.std.proofs.Common.{◌∙◌}
use Rattle.std.proofs.lemmas.List.{length-set}
use Rattle.cmeaning.specs.Do.{widths_in}
use Rattle.cvalue.proofs.Words.{wide_set}
use Rattle.cvalue.proofs.variables.Variables.assign.Goals as goal

pub invariant_of-self-clause-all : goal.invariant_of-self-clause-all
invariant_of-self-clause-all c = length-set _ _ _ ∙ c.args.self.now.all

pub invariant_of-self-clause-wide : goal.invariant_of-self-clause-wide
invariant_of-self-clause-wide c =
    wide_set (widths_in c.args.self.now.f.now) c.args.self.now.words.items c.args.v c.args.word c.args.self.now.wide
    c.requires
