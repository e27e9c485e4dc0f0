use Rattle.std.proofs.Common.{◌≡◌, ◌-◌}
use Rattle.machine.specs.Machine.{after}
use Rattle.cmeaning.specs.Step.{c_step}
use Rattle.c_run.specs.States.{state_of}
use Rattle.c_run.proofs.run.run_from.Given as goal

abbrev pub invariant-loop : goal.invariant-loop
invariant-loop l = record {
  same : l.local.variables.f.now ≡ l.initial.local.variables.f.now;
  run : after (c_step l.context.listing.now l.initial.local.variables.f.now) (l.n - l.counter)
      (state_of l.context.answers.now l.local l.position)
      ≡ after (c_step l.context.listing.now l.initial.local.variables.f.now) l.n
      (state_of l.context.answers.now l.initial.local 0);
}
