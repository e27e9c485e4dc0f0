use Rattle.std.proofs.Common.{sym, ℕ}
use Rattle.std.proofs.lemmas.Result.{on_ok_weaker}
use Rattle.machine.specs.Trace.{Call}
use Rattle.pcode_model.specs.World.{recorded}
use Rattle.cmeaning.specs.Do.{asks, in_world, values_of, widths_in, with_words}
use Rattle.cmeaning.specs.Flat.{returns_by}
use Rattle.cmeaning.specs.Value.{value_of}
use Rattle.cmeaning.proofs.Do.{do_call_ind}
use Rattle.cvalue.specs.Held.{env_of}
use Rattle.c_run.specs.States.{local_of}
use Rattle.c_run.proofs.Asking as asking
use Rattle.c_run.proofs.Effects.{becomes_as, word_lacks, word_has}
use Rattle.c_run.proofs.calls.call_ind.Goals as goal

pub returns-in_default : goal.returns-in_default
returns-in_default c =
    becomes_as c.args.context.now.answers.now c.args.local.now c.finish.new.self _ _
    (word_lacks c.args.context.now.answers.now c.args.local.now c.finish.new.self c.value.result
    (value_of (widths_in c.args.local.now.variables.f.now) (env_of c.args.local.now.variables.words.items)
    c.args.callee.now)
    (λ (a : ℕ).
    with_words
    (values_of (widths_in c.args.local.now.variables.f.now) (env_of c.args.local.now.variables.words.items)
    c.args.args.now)
    (local_of c.args.context.now.answers.now c.args.local.now)
    (λ ns. asks c.args.context.now.listing.now (widths_in c.args.local.now.variables.f.now) c.args.target
    (in_world (recorded (Call a ns) (local_of c.args.context.now.answers.now c.args.local.now).world)
    (local_of c.args.context.now.answers.now c.args.local.now))))
    c.in_default.is c.value.ensures.value (c.finish.ensures c.args.context.now.answers.now))
    (sym (do_call_ind c.args.context.now.listing.now (widths_in c.args.local.now.variables.f.now)
    (returns_by c.args.local.now.variables.f.now.callees) c.args.target c.args.callee.now c.args.args.now
    (local_of c.args.context.now.answers.now c.args.local.now)))

pub returns-in_default-2 : goal.returns-in_default-2
returns-in_default-2 c =
    becomes_as c.args.context.now.answers.now c.args.local.now c.finish-in_default-2.new.self _ _
    (word_has c.args.context.now.answers.now c.args.local.now c.finish-in_default-2.new.self c.value.result
    c.in-Some.callee
    (value_of (widths_in c.args.local.now.variables.f.now) (env_of c.args.local.now.variables.words.items)
    c.args.callee.now)
    (λ (a : ℕ).
    with_words
    (values_of (widths_in c.args.local.now.variables.f.now) (env_of c.args.local.now.variables.words.items)
    c.args.args.now)
    (local_of c.args.context.now.answers.now c.args.local.now)
    (λ ns. asks c.args.context.now.listing.now (widths_in c.args.local.now.variables.f.now) c.args.target
    (in_world (recorded (Call a ns) (local_of c.args.context.now.answers.now c.args.local.now).world)
    (local_of c.args.context.now.answers.now c.args.local.now))))
    c.in-Some.is c.value.ensures.value
    (asking.values_lack c.args.context.now.answers.now c.args.local.now c.finish-in_default-2.new.self
    (values_of (widths_in c.args.local.now.variables.f.now) (env_of c.args.local.now.variables.words.items)
    c.args.args.now)
    c.in_ok-args.field-0
    (λ ns.
    asks c.args.context.now.listing.now (widths_in c.args.local.now.variables.f.now) c.args.target
    (in_world
    (recorded (Call c.in-Some.callee.value ns) (local_of c.args.context.now.answers.now c.args.local.now).world)
    (local_of c.args.context.now.answers.now c.args.local.now)))
    c.in_default-2.is c.in_ok-args.ensures (c.finish-in_default-2.ensures c.args.context.now.answers.now)))
    (sym (do_call_ind c.args.context.now.listing.now (widths_in c.args.local.now.variables.f.now)
    (returns_by c.args.local.now.variables.f.now.callees) c.args.target c.args.callee.now c.args.args.now
    (local_of c.args.context.now.answers.now c.args.local.now)))

pub returns : goal.returns
returns c =
    on_ok_weaker c.ask_after.result (λ b.
    becomes_as c.args.context.now.answers.now c.args.local.now c.ask_after.new.local _ _
    (word_has c.args.context.now.answers.now c.args.local.now c.ask_after.new.local c.value.result c.in-Some.callee
    (value_of (widths_in c.args.local.now.variables.f.now) (env_of c.args.local.now.variables.words.items)
    c.args.callee.now)
    (λ (a : ℕ).
    with_words
    (values_of (widths_in c.args.local.now.variables.f.now) (env_of c.args.local.now.variables.words.items)
    c.args.args.now)
    (local_of c.args.context.now.answers.now c.args.local.now)
    (λ ns. asks c.args.context.now.listing.now (widths_in c.args.local.now.variables.f.now) c.args.target
    (in_world (recorded (Call a ns) (local_of c.args.context.now.answers.now c.args.local.now).world)
    (local_of c.args.context.now.answers.now c.args.local.now))))
    c.in-Some.is c.value.ensures.value
    (asking.values_have c.args.context.now.answers.now c.args.local.now c.ask_after.new.local
    (values_of (widths_in c.args.local.now.variables.f.now) (env_of c.args.local.now.variables.words.items)
    c.args.args.now)
    c.in_ok-args.field-0 c.in-Some-2.args
    (λ ns.
    asks c.args.context.now.listing.now (widths_in c.args.local.now.variables.f.now) c.args.target
    (in_world
    (recorded (Call c.in-Some.callee.value ns) (local_of c.args.context.now.answers.now c.args.local.now).world)
    (local_of c.args.context.now.answers.now c.args.local.now)))
    c.in-Some-2.is c.in_ok-args.ensures b))
    (sym (do_call_ind c.args.context.now.listing.now (widths_in c.args.local.now.variables.f.now)
    (returns_by c.args.local.now.variables.f.now.callees) c.args.target c.args.callee.now c.args.args.now
    (local_of c.args.context.now.answers.now c.args.local.now))))
    c.ask_after.ensures
