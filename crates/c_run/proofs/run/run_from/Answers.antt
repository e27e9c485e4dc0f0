use Rattle.std.proofs.Common.{◌≡◌, ◌∙◌, IsSome, refl, ap, None, arith, rules}
use Rattle.flatcode.specs.Steps.{code_of}
use Rattle.run_world.specs.Meaning.{over_of}
use Rattle.c_run.specs.States.{state_of}
use Rattle.c_run.proofs.Turns.{run_turn, run_ends, run_over}
use Rattle.c_run.proofs.run.run_from.Goals as goal
use Rattle.c_run.proofs.run.run_from.Goals.{else-loop-test, then-loop-test+then-is_some}

pub loop-preserved : goal.loop-preserved
loop-preserved c =
    let none : c.loop.local.log.end ≡ None = search rules in
    record {
      same = c.in_ok-position.ensures.function ∙ c.loop.invariant.same;
      run =
          run_turn c.args.context.now.listing.now c.args.local.variables.f.now c.loop.local.variables.f.now
          c.args.context.now.answers.now c.loop.local c.carry_out.new.local (code_of c.args.code.now) c.loop.position
          c.in_ok-position.position c.args.n c.loop.counter _ c.loop-test.true c.loop.invariant.same c.requires.code
          (ap over_of none) c.in_ok-position.ensures c.loop.invariant.run;
    }

pub returns : goal.returns
returns c =
    elim c.loop-test.branch [
      | else-loop-test w ↦
          run_ends c.args.context.now.listing.now c.args.local.variables.f.now
          (state_of c.args.context.now.answers.now c.loop.local c.loop.position)
          (state_of c.args.context.now.answers.now c.args.local 0) c.args.n c.loop.counter (omega arith)
          c.loop.invariant.run
      | then-loop-test+then-is_some w ↦
          run_over c.args.context.now.listing.now c.args.local.variables.f.now
          (state_of c.args.context.now.answers.now c.loop.local c.loop.position)
          (state_of c.args.context.now.answers.now c.args.local 0) c.args.n c.loop.counter c.loop.local.log.end
          refl (let some : IsSome c.loop.local.log.end = search rules in some) c.loop.invariant.run
    ]
