use Rattle.std.proofs.Common.{refl}
use Rattle.run_world.specs.Maps.{at_offset}
use Rattle.pcode_memory.proofs.Memory.{whole_is, spoiled_there}
use Rattle.pcode_memory.proofs.whole.Whole.spoil.Goals as goal

pub returns : goal.returns
returns c =
    whole_is _ _ _ _ _ _ refl refl
    (spoiled_there (at_offset c.args.self.now.spoiled) (at_offset c.put.new.self) c.args.address 1 c.in_ok-put.ensures)
