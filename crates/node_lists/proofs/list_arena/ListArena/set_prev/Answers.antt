use Rattle.node_lists.proofs.Writes.{prev_written}
use Rattle.node_lists.proofs.list_arena.ListArena.set_prev.Goals as goal

pub returns-in-Some : goal.returns-in-Some
returns-in-Some g c =
    prev_written c.args.self.now c.args.at c.args.prev c.in-Some.at c.node-node.result.now c.put.new.self c.in-Some.is
    c.node-node.ensures c.put.ensures.places c.requires.sound c.requires.prev c.put.ensures.values
