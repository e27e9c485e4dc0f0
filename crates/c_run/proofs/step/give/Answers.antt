use Rattle.cmeaning.specs.Do.{widths_in}
use Rattle.c_run.specs.States.{state_of}
use Rattle.c_run.proofs.Positions as goes
use Rattle.c_run.proofs.step.give.Goals as goal

pub returns-in-None : goal.returns-in-None
returns-in-None c answers =
    goes.given_goes answers c.args.local.now c.finish.new.self c.args.position
    (widths_in c.args.local.now.variables.f.now) c.args.value.now _ (state_of answers c.args.local.now c.args.position)
    c.in-None.is
    (goes.stays_goes answers c.args.local.now c.finish.new.self c.args.position _ (c.finish.ensures answers))

pub returns-in-Some : goal.returns-in-Some
returns-in-Some c answers =
    goes.given_goes answers c.args.local.now c.give_value.new.local c.give_value.result
    (widths_in c.args.local.now.variables.f.now) c.args.value.now _ (state_of answers c.args.local.now c.args.position)
    c.in-Some.is (c.give_value.ensures answers)
