use Rattle.c_run.proofs.Spaces.{register_small}
use Rattle.c_run.proofs.start.pointer.Goals as goal

pub new-shape-requires : goal.new-shape-requires
new-shape-requires c =
    register_small c.args.context.now.listing.now c.args.v c.requires.context.formed c.requires.register
