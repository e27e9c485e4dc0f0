use Rattle.std.proofs.Common.{sym}
use Rattle.std.proofs.lemmas.Result.{on_ok_weaker}
use Rattle.machine.specs.Trace.{Other}
use Rattle.pcode_model.specs.World.{recorded}
use Rattle.cmeaning.specs.Do.{asks, in_world, values_of, widths_in}
use Rattle.cmeaning.specs.Flat.{returns_by}
use Rattle.cmeaning.proofs.Do.{do_other}
use Rattle.cvalue.specs.Held.{env_of}
use Rattle.c_run.specs.States.{local_of}
use Rattle.c_run.proofs.Asking as asking
use Rattle.c_run.proofs.Effects.{becomes_as}
use Rattle.c_run.proofs.calls.other.Goals as goal

pub returns-in_default : goal.returns-in_default
returns-in_default c =
    becomes_as c.args.context.now.answers.now c.args.local.now c.finish.new.self _ _
    (asking.values_lack c.args.context.now.answers.now c.args.local.now c.finish.new.self
    (values_of (widths_in c.args.local.now.variables.f.now) (env_of c.args.local.now.variables.words.items)
    c.args.args.now)
    c.in_ok-args.field-0
    (λ ns.
    asks c.args.context.now.listing.now (widths_in c.args.local.now.variables.f.now) c.args.target
    (in_world (recorded (Other c.args.index ns) (local_of c.args.context.now.answers.now c.args.local.now).world)
    (local_of c.args.context.now.answers.now c.args.local.now)))
    c.in_default.is c.in_ok-args.ensures (c.finish.ensures c.args.context.now.answers.now))
    (sym (do_other c.args.context.now.listing.now (widths_in c.args.local.now.variables.f.now)
    (returns_by c.args.local.now.variables.f.now.callees) c.args.target c.args.index c.args.args.now
    (local_of c.args.context.now.answers.now c.args.local.now)))

pub returns : goal.returns
returns c =
    on_ok_weaker c.ask_after.result
    (λ b. becomes_as c.args.context.now.answers.now c.args.local.now c.ask_after.new.local _ _
    (asking.values_have c.args.context.now.answers.now c.args.local.now c.ask_after.new.local
    (values_of (widths_in c.args.local.now.variables.f.now) (env_of c.args.local.now.variables.words.items)
    c.args.args.now)
    c.in_ok-args.field-0 c.in-Some.args
    (λ ns. asks c.args.context.now.listing.now (widths_in c.args.local.now.variables.f.now) c.args.target
    (in_world
    (recorded (Other c.args.index ns) (local_of c.args.context.now.answers.now c.args.local.now).world)
    (local_of c.args.context.now.answers.now c.args.local.now)))
    c.in-Some.is c.in_ok-args.ensures b)
    (sym (do_other c.args.context.now.listing.now (widths_in c.args.local.now.variables.f.now)
    (returns_by c.args.local.now.variables.f.now.callees) c.args.target c.args.index c.args.args.now
    (local_of c.args.context.now.answers.now c.args.local.now))))
    c.ask_after.ensures
