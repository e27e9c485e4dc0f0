use Rattle.std.proofs.lemmas.Option.{slice_get_past, slice_get_read}
use Rattle.std.proofs.Common.{length, ◌≡◌, ◌∙◌, sym, ap, Some, None, refl, slice_get}
use Rattle.std.proofs.lemmas.Result.{IfOk-weaker}
use Rattle.cmeaning.specs.Do.{widths_in}
use Rattle.cmeaning.specs.Flat.{returns_by}
use Rattle.c_run.specs.States.{state_of}
use Rattle.c_run.proofs.Positions as goes
use Rattle.c_run.proofs.step.carry_out.Goals as goal

pub returns-in-None : goal.returns-in-None
returns-in-None c =
    let none : slice_get c.args.code.now.steps.items c.args.position ≡ None =
    ap (λ z. slice_get z c.args.position) (sym c.deref.ensures.value)
    ∙ slice_get_past c.deref.result.now c.args.position c.in-None.ensures.lookup.3 in
    goes.code_goes c.args.context.now.answers.now c.args.local.now c.finish.new.self c.args.position
    c.args.context.now.listing.now (widths_in c.args.local.now.variables.f.now)
    (returns_by c.args.local.now.variables.f.now.callees) c.args.code.now c.args.position None
    (state_of c.args.context.now.answers.now c.args.local.now c.args.position) none
    (goes.stays_goes c.args.context.now.answers.now c.args.local.now c.finish.new.self c.args.position _
    (c.finish.ensures c.args.context.now.answers.now))

pub returns-in-Some : goal.returns-in-Some
returns-in-Some c =
    let look = c.in-Some.ensures.lookup in
    let found : slice_get c.args.code.now.steps.items c.args.position ≡ Some c.in-Some.step.now =
    ap (λ z. slice_get z c.args.position) (sym c.deref.ensures.value)
    ∙ slice_get_read c.deref.result.now (length c.deref.result.now) c.args.position c.in-Some.step.now refl
    look.3.0 look.1 in
    IfOk-weaker c.do_step.result _ _
    (λ next g. goes.code_goes c.args.context.now.answers.now c.args.local.now c.do_step.new.local next
    c.args.context.now.listing.now (widths_in c.args.local.now.variables.f.now)
    (returns_by c.args.local.now.variables.f.now.callees) c.args.code.now c.args.position _
    (state_of c.args.context.now.answers.now c.args.local.now c.args.position) found g)
    c.do_step.ensures
