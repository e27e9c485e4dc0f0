use Rattle.std.proofs.Common.{Some}
use Rattle.run_world.specs.Maps.{at}
use Rattle.run_world.proofs.Pairs.{put_at_pair, bytes_put}
use Rattle.run_world.proofs.byte_map.ByteMap.put.Goals as goal

pub returns : goal.returns
returns c =
    let map =
    put_at_pair c.args.self.now.bytes c.insert.new.self c.args.space c.args.offset (Some c.args.value)
    c.in_ok-insert.ensures.updates in
    record {
      map = map;
      bytes =
          bytes_put c.args.space c.args.offset c.args.value (at c.args.self.now)
          (at (record { bytes = c.insert.new.self })) map;
    }
