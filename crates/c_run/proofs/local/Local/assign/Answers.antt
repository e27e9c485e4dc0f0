use Rattle.std.proofs.Common.{refl}
use Rattle.cvalue.specs.Held.{number_in}
use Rattle.c_run.proofs.Effects.{word_lacks}
use Rattle.c_run.proofs.local.Local.assign.Goals as goal

pub returns-in-None : goal.returns-in-None
returns-in-None c answers =
    word_lacks answers c.args.self.now c.finish.new.self c.args.word (number_in c.args.word) _ c.in-None.is refl
    (c.finish.ensures answers)
