use Rattle.std.proofs.Common.{sym, subst, []}
use Rattle.std.proofs.lemmas.Result.{on_ok_weaker}
use Rattle.pcode_model.specs.World.{recorded}
use Rattle.cmeaning.specs.Do.{in_world, widths_in}
use Rattle.cmeaning.specs.declared.tree.CFunction.{CFunction}
use Rattle.run_world.specs.Meaning.{event_of}
use Rattle.c_run.specs.May.{IsTarget}
use Rattle.c_run.specs.States.{local_of}
use Rattle.c_run.proofs.Asking as asking
use Rattle.c_run.proofs.calls.ask_after.Goals as goal

pub ask-requires-clause-target : goal.ask-requires-clause-target
ask-requires-clause-target c =
    let P : CFunction → Type 0 = λ z. IsTarget (widths_in z) c.args.target in
    subst P (sym (c.in_ok-record.ensures []).function) c.requires.target

pub returns : goal.returns
returns c =
    on_ok_weaker c.ask.result
    (asking.asks_after c.args.context.now.answers.now c.args.local.now c.record.new.local c.ask.new.local
    c.args.context.now.listing.now c.args.target
    (in_world (recorded (event_of c.args.event) (local_of c.args.context.now.answers.now c.args.local.now).world)
    (local_of c.args.context.now.answers.now c.args.local.now))
    (c.in_ok-record.ensures c.args.context.now.answers.now))
    c.ask.ensures
