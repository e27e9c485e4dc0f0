use Rattle.node_lists.proofs.Writes.{next_written}
use Rattle.node_lists.proofs.list_arena.ListArena.set_next.Goals as goal

pub returns-in-Some : goal.returns-in-Some
returns-in-Some g c =
    next_written c.args.self.now c.args.at c.args.next c.in-Some.at c.node-node.result.now c.put.new.self c.in-Some.is
    c.node-node.ensures c.put.ensures.places c.requires.sound c.requires.next c.put.ensures.values
