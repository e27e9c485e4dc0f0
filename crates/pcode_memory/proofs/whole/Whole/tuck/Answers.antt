use Rattle.std.proofs.Common.{refl}
use Rattle.run_world.specs.Maps.{at_offset}
use Rattle.pcode_memory.proofs.Memory.{whole_is, spoiled_gone}
use Rattle.pcode_memory.proofs.whole.Whole.tuck.Goals as goal

pub returns : goal.returns
returns c =
    whole_is _ _ _ _ _ _ refl c.in_ok-put.ensures
    (spoiled_gone (at_offset c.args.self.now.spoiled) (at_offset c.remove.new.self) c.args.address c.remove.ensures)
