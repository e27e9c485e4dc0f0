use Rattle.node_lists.proofs.Writes.{place_written}
use Rattle.node_lists.proofs.list_arena.ListArena.set_place.Goals as goal

pub returns-clause-edited : goal.returns-clause-edited
returns-clause-edited g c =
    place_written c.args.self.now c.args.at c.args.prev c.args.next c.args.list c.node-node.result.now c.put.new.self
    c.node-node.ensures c.put.ensures.places c.put.ensures.values c.requires.sound c.requires.prev c.requires.next
    c.requires.list
