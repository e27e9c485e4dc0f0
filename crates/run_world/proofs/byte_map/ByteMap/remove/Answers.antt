use Rattle.std.proofs.Common.{None}
use Rattle.run_world.proofs.Pairs.{put_at_pair}
use Rattle.run_world.proofs.byte_map.ByteMap.remove.Goals as goal

pub returns : goal.returns
returns c = put_at_pair c.args.self.now.bytes c.remove.new.self c.args.space c.args.offset None c.remove.ensures.updates
