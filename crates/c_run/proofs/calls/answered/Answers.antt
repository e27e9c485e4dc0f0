use Rattle.std.proofs.Common.{None, ap, ◌∙◌}
use Rattle.cmeaning.specs.Do.{widths_in, with_target}
use Rattle.cvalue.specs.Held.{env_of}
use Rattle.run_world.specs.Log.{world_of}
use Rattle.run_world.specs.Maps.{bytes_of}
use Rattle.run_world.specs.Meaning.{registers_of, with_offsets}
use Rattle.c_run.specs.States.{left_of}
use Rattle.c_run.proofs.Asking as asking
use Rattle.c_run.proofs.calls.answered.Goals as goal

pub returns : goal.returns
returns c answers =
    let b = c.give.ensures answers in
    record {
      means =
          asking.left_moved
          (with_target (widths_in c.args.local.now.variables.f.now) c.args.target c.args.answer.now.word
          (env_of c.args.local.now.variables.words.items))
          (world_of (bytes_of c.args.local.now.memory) answers c.args.local.now.log) (left_of c.in_ok-local.field-0)
          (registers_of c.args.answer.now) _ b.means
          (asking.left_is c.in_ok-local.field-0 c.args.answer.now
          (c.in_ok-local.ensures ∙ ap (λ bs. with_offsets bs (λ o. None)) c.as_slice.ensures));
      function = b.function;
    }
