use Rattle.c_run.proofs.Effects.{gives_has, gives_lacks}
use Rattle.c_run.proofs.step.give_value.Goals as goal

pub returns-in_default : goal.returns-in_default
returns-in_default c answers =
    gives_lacks answers c.args.local.now c.finish.new.self c.args.position c.value.result _ c.in_default.is
    c.value.ensures.value (c.finish.ensures answers)

pub returns : goal.returns
returns c answers =
    gives_has answers c.args.local.now c.finish-2.new.self c.args.position c.value.result c.in-Some.word _ c.in-Some.is
    c.value.ensures.value (c.finish-2.ensures answers)
