use Rattle.std.proofs.Common.{sym, ap, ◌∙◌, map, ℕ}
use Rattle.std.proofs.lemmas.Result.{on_ok_weaker}
use Rattle.machine.specs.Trace.{Call, NoReturn}
use Rattle.pcode_model.specs.World.{recorded}
use Rattle.cmeaning.specs.Do.{asks, called, ends, in_world, values_of, widths_in}
use Rattle.cmeaning.specs.Flat.{returns_by}
use Rattle.cmeaning.proofs.Do.{do_call}
use Rattle.cvalue.specs.Held.{env_of}
use Rattle.run_world.specs.Meaning.{value_of as number_of}
use Rattle.c_run.specs.States.{local_of}
use Rattle.c_run.proofs.Asking as asking
use Rattle.c_run.proofs.Effects.{becomes_as}
use Rattle.c_run.proofs.calls.call.Goals as goal

pub returns-in_default : goal.returns-in_default
returns-in_default c =
    becomes_as c.args.context.now.answers.now c.args.local.now c.finish.new.self _ _
    (asking.values_lack c.args.context.now.answers.now c.args.local.now c.finish.new.self
    (values_of (widths_in c.args.local.now.variables.f.now) (env_of c.args.local.now.variables.words.items)
    c.args.args.now)
    c.in_ok-args.field-0
    (λ ns.
    called c.args.context.now.listing.now (widths_in c.args.local.now.variables.f.now) c.args.target
    ((returns_by c.args.local.now.variables.f.now.callees) c.args.callee)
    (in_world (recorded (Call c.args.callee ns) (local_of c.args.context.now.answers.now c.args.local.now).world)
    (local_of c.args.context.now.answers.now c.args.local.now)))
    c.in_default.is c.in_ok-args.ensures (c.finish.ensures c.args.context.now.answers.now))
    (sym (do_call c.args.context.now.listing.now (widths_in c.args.local.now.variables.f.now)
    (returns_by c.args.local.now.variables.f.now.callees) c.args.target c.args.callee c.args.args.now
    (local_of c.args.context.now.answers.now c.args.local.now)))

pub returns-then-returns : goal.returns-then-returns
returns-then-returns c =
    on_ok_weaker c.ask_after.result
    (λ b.
    becomes_as c.args.context.now.answers.now c.args.local.now c.ask_after.new.local _ _
    (asking.values_have c.args.context.now.answers.now c.args.local.now c.ask_after.new.local
    (values_of (widths_in c.args.local.now.variables.f.now) (env_of c.args.local.now.variables.words.items)
    c.args.args.now)
    c.in_ok-args.field-0 c.in-Some.args
    (λ ns. called c.args.context.now.listing.now (widths_in c.args.local.now.variables.f.now) c.args.target
    ((returns_by c.args.local.now.variables.f.now.callees) c.args.callee)
    (in_world
    (recorded (Call c.args.callee ns) (local_of c.args.context.now.answers.now c.args.local.now).world)
    (local_of c.args.context.now.answers.now c.args.local.now)))
    c.in-Some.is c.in_ok-args.ensures
    (becomes_as c.args.context.now.answers.now c.args.local.now c.ask_after.new.local _ _ b
    (ap
    (λ (n : ℕ). asks c.args.context.now.listing.now (widths_in c.args.local.now.variables.f.now)
    c.args.target (in_world
    (recorded (Call n (map number_of c.in-Some.args))
    (local_of c.args.context.now.answers.now c.args.local.now).world)
    (local_of c.args.context.now.answers.now c.args.local.now)))
    c.from.ensures
    ∙ asking.calls_back c.args.context.now.listing.now (widths_in c.args.local.now.variables.f.now)
    c.args.target ((returns_by c.args.local.now.variables.f.now.callees) c.args.callee) c.returns.result _
    (c.returns.ensures ∙ ap (λ cs. returns_by cs c.args.callee) c.as_slice.ensures) c.if-returns.true)))
    (sym (do_call c.args.context.now.listing.now (widths_in c.args.local.now.variables.f.now)
    (returns_by c.args.local.now.variables.f.now.callees) c.args.target c.args.callee c.args.args.now
    (local_of c.args.context.now.answers.now c.args.local.now))))
    c.ask_after.ensures

pub returns : goal.returns
returns c =
    becomes_as c.args.context.now.answers.now c.args.local.now c.finish-2.new.self _ _
    (asking.values_have c.args.context.now.answers.now c.args.local.now c.finish-2.new.self
    (values_of (widths_in c.args.local.now.variables.f.now) (env_of c.args.local.now.variables.words.items)
    c.args.args.now)
    c.in_ok-args.field-0 c.in-Some.args
    (λ ns. called c.args.context.now.listing.now (widths_in c.args.local.now.variables.f.now) c.args.target
    ((returns_by c.args.local.now.variables.f.now.callees) c.args.callee)
    (in_world
    (recorded (Call c.args.callee ns) (local_of c.args.context.now.answers.now c.args.local.now).world)
    (local_of c.args.context.now.answers.now c.args.local.now)))
    c.in-Some.is c.in_ok-args.ensures
    (becomes_as c.args.context.now.answers.now c.args.local.now c.finish-2.new.self _ _
    (asking.becomes_then c.args.context.now.answers.now c.args.local.now c.record.new.local c.finish-2.new.self
    (in_world
    (recorded (Call c.from.result (map number_of c.in-Some.args))
    (local_of c.args.context.now.answers.now c.args.local.now).world)
    (local_of c.args.context.now.answers.now c.args.local.now))
    (ends NoReturn) (c.in_ok-record.ensures c.args.context.now.answers.now)
    (c.finish-2.ensures c.args.context.now.answers.now))
    (ap
    (λ (n : ℕ). ends NoReturn (in_world
    (recorded (Call n (map number_of c.in-Some.args))
    (local_of c.args.context.now.answers.now c.args.local.now).world)
    (local_of c.args.context.now.answers.now c.args.local.now)))
    c.from.ensures
    ∙ asking.calls_last c.args.context.now.listing.now (widths_in c.args.local.now.variables.f.now)
    c.args.target ((returns_by c.args.local.now.variables.f.now.callees) c.args.callee) c.returns.result _
    (c.returns.ensures ∙ ap (λ cs. returns_by cs c.args.callee) c.as_slice.ensures) c.if-returns.false)))
    (sym (do_call c.args.context.now.listing.now (widths_in c.args.local.now.variables.f.now)
    (returns_by c.args.local.now.variables.f.now.callees) c.args.target c.args.callee c.args.args.now
    (local_of c.args.context.now.answers.now c.args.local.now)))
