use Rattle.std.proofs.Common.{ap, map, refl}
use Rattle.cmeaning.specs.Do.{widths_in}
use Rattle.cmeaning.specs.Flat.{found_in, returns_by}
use Rattle.cmeaning.specs.Step.{goes_by}
use Rattle.cmeaning.specs.Value.{value_of}
use Rattle.cvalue.specs.Held.{env_of}
use Rattle.flatcode.specs.Steps.{case_of, place_in}
use Rattle.c_run.specs.States.{state_of}
use Rattle.c_run.proofs.Positions as goes
use Rattle.c_run.proofs.step.do_step.Goals as goal

pub returns-in-Test : goal.returns-in-Test
returns-in-Test c =
    goes.step_goes c.args.context.now.answers.now c.args.local.now c.test.new.local c.test.result
    c.args.context.now.listing.now (widths_in c.args.local.now.variables.f.now)
    (returns_by c.args.local.now.variables.f.now.callees) (place_in c.args.code.now.labels.items c.args.code.now.end)
    c.args.step.now _ (state_of c.args.context.now.answers.now c.args.local.now c.args.position) c.in-Test.is
    (c.test.ensures c.args.context.now.answers.now)

pub returns-in-Jump : goal.returns-in-Jump
returns-in-Jump c =
    goes.step_goes c.args.context.now.answers.now c.args.local.now c.args.local.now c.in-Jump.to
    c.args.context.now.listing.now (widths_in c.args.local.now.variables.f.now)
    (returns_by c.args.local.now.variables.f.now.callees) (place_in c.args.code.now.labels.items c.args.code.now.end)
    c.args.step.now _ (state_of c.args.context.now.answers.now c.args.local.now c.args.position) c.in-Jump.is
    (goes.jump_goes c.args.context.now.answers.now c.args.local.now c.in-Jump.to c.in-Jump.to refl)

pub returns-in-Goto : goal.returns-in-Goto
returns-in-Goto c =
    goes.step_goes c.args.context.now.answers.now c.args.local.now c.args.local.now c.position.result
    c.args.context.now.listing.now (widths_in c.args.local.now.variables.f.now)
    (returns_by c.args.local.now.variables.f.now.callees) (place_in c.args.code.now.labels.items c.args.code.now.end)
    c.args.step.now _ (state_of c.args.context.now.answers.now c.args.local.now c.args.position) c.in-Goto.is
    (goes.jump_goes c.args.context.now.answers.now c.args.local.now c.position.result _ c.position.ensures)

pub returns-in-Choose : goal.returns-in-Choose
returns-in-Choose c =
    goes.step_goes c.args.context.now.answers.now c.args.local.now c.choose.new.local c.choose.result
    c.args.context.now.listing.now (widths_in c.args.local.now.variables.f.now)
    (returns_by c.args.local.now.variables.f.now.callees) (place_in c.args.code.now.labels.items c.args.code.now.end)
    c.args.step.now _ (state_of c.args.context.now.answers.now c.args.local.now c.args.position) c.in-Choose.is
    (goes.goes_as c.args.context.now.answers.now c.args.local.now c.choose.new.local c.choose.result _ _
    (c.choose.ensures c.args.context.now.answers.now)
    (ap
    (λ cs. goes_by
    (value_of (widths_in c.args.local.now.variables.f.now) (env_of c.args.local.now.variables.words.items)
    c.in-Choose.value.now)
    (state_of c.args.context.now.answers.now c.args.local.now c.args.position)
    (found_in (map case_of cs) c.in-Choose.other))
    c.as_slice.ensures))

pub returns-in-Give : goal.returns-in-Give
returns-in-Give c =
    goes.step_goes c.args.context.now.answers.now c.args.local.now c.give.new.local c.give.result
    c.args.context.now.listing.now (widths_in c.args.local.now.variables.f.now)
    (returns_by c.args.local.now.variables.f.now.callees) (place_in c.args.code.now.labels.items c.args.code.now.end)
    c.args.step.now _ (state_of c.args.context.now.answers.now c.args.local.now c.args.position) c.in-Give.is
    (c.give.ensures c.args.context.now.answers.now)
