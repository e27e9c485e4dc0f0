use Rattle.c_run.proofs.Spaces.{stack_register}
use Rattle.c_run.proofs.start.stack_pointer.Goals as goal

pub pointer-requires-clause-register : goal.pointer-requires-clause-register
pointer-requires-clause-register c =
    stack_register c.args.context.now.listing.now c.in-Some.v c.requires.context.formed c.in-Some.is
