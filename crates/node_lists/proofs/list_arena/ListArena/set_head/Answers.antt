use Rattle.node_lists.proofs.Writes.{head_written}
use Rattle.node_lists.proofs.list_arena.ListArena.set_head.Goals as goal

pub returns-in-Some : goal.returns-in-Some
returns-in-Some g c =
    head_written c.args.self.now c.args.list c.args.head c.requires.sound c.requires.first c.requires.last
    c.in-Some.list c.node-old.result.now c.put.new.self c.in-Some.is c.node-old.ensures c.put.ensures.places
    c.put.ensures.values
