use Rattle.pcode_run.proofs.Protos.{stack_runs}
use Rattle.pcode_run.proofs.calls.take.Goals as goal

pub after_call-requires-clause-stack : goal.after_call-requires-clause-stack
after_call-requires-clause-stack c = stack_runs c.args.context.now.listing.now c.requires.context.formed
