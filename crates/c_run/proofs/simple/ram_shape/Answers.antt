use Rattle.std.proofs.Common.{refl}
use Rattle.c_run.proofs.Spaces.{small_of}
use Rattle.c_run.proofs.simple.ram_shape.Goals as goal

pub new-requires : goal.new-requires
new-requires c = small_of c.args.context.now.listing.now c.args.space _ c.requires.context.formed c.requires.ram refl
