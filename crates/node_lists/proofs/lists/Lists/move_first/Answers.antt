use Rattle.node_lists.specs.Nodes.{number}
use Rattle.node_lists.proofs.Moves.{room_is, first_moved}
use Rattle.node_lists.proofs.lists.Lists.move_first.Goals as goal

pub attach-requires-clause-room : goal.attach-requires-clause-room
attach-requires-clause-room g c =
    let k = number c.head_link-list.result in
    room_is c.self.inside.list_arena c.detach.new.self c.args.self.now c.link-at.result.number c.args.node k c.args.list
    c.self.invariant c.self.view_is c.link-at.ensures.number c.head_link-list.ensures.number c.requires.node
    c.detach.ensures k

pub invariant_of-self : goal.invariant_of-self
invariant_of-self g c =
    (first_moved c.self.inside.list_arena c.detach.new.self c.args.self.now c.link-at.result.number c.args.node (number c.head_link-list.result) c.args.list c.self.invariant c.self.view_is c.link-at.ensures.number c.head_link-list.ensures.number c.requires.node c.detach.ensures
    c.attach.new.self c.head-head.result c.head-head.ensures.ends c.attach.ensures).0

pub returns : goal.returns
returns g c =
    (first_moved c.self.inside.list_arena c.detach.new.self c.args.self.now c.link-at.result.number c.args.node (number c.head_link-list.result) c.args.list c.self.invariant c.self.view_is c.link-at.ensures.number c.head_link-list.ensures.number c.requires.node c.detach.ensures
    c.attach.new.self c.head-head.result c.head-head.ensures.ends c.attach.ensures).1
