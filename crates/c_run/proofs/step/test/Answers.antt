use Rattle.c_run.proofs.Effects.{goes_lacks}
use Rattle.c_run.proofs.step.test.Goals as goal

pub returns-in-None : goal.returns-in-None
returns-in-None c answers =
    goes_lacks answers c.args.local.now c.finish.new.self c.args.position c.value.result _ _ c.in-None.is
    c.value.ensures.value (c.finish.ensures answers)
