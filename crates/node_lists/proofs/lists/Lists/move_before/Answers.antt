use Rattle.node_lists.specs.Nodes.{number}
use Rattle.std.proofs.Common.{refl}
use Rattle.node_lists.proofs.Moves.{room_is, before_moved}
use Rattle.node_lists.proofs.lists.Lists.move_before.Goals as goal

pub attach-requires-clause-list : goal.attach-requires-clause-list
attach-requires-clause-list g c =
    (c.detach.ensures.sound.node c.link-at.result.number c.node-next.result.now c.node-next.ensures).2

pub attach-requires-clause-room : goal.attach-requires-clause-room
attach-requires-clause-room g c =
    let k = number c.node-next.result.now.list in
    room_is c.self.inside.list_arena c.detach.new.self c.args.self.now c.link-node.result.number c.args.node k k
    c.self.invariant c.self.view_is c.link-node.ensures.number refl c.requires.node c.detach.ensures k

pub invariant_of-self : goal.invariant_of-self
invariant_of-self g c =
    (before_moved c.self.inside.list_arena c.detach.new.self c.attach.new.self c.args.self.now c.link-node.result.number c.args.node c.link-at.result.number c.args.at c.self.invariant c.self.view_is c.link-node.ensures.number c.link-at.ensures.number c.requires.node c.requires.at c.requires.other
    c.detach.ensures c.node-next.result.now c.node-next.ensures c.attach.ensures).0

pub returns : goal.returns
returns g c =
    (before_moved c.self.inside.list_arena c.detach.new.self c.attach.new.self c.args.self.now c.link-node.result.number c.args.node c.link-at.result.number c.args.at c.self.invariant c.self.view_is c.link-node.ensures.number c.link-at.ensures.number c.requires.node c.requires.at c.requires.other
    c.detach.ensures c.node-next.result.now c.node-next.ensures c.attach.ensures).1
