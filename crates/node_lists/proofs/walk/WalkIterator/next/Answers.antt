use Rattle.node_lists.proofs.Walks.{onward}
use Rattle.node_lists.proofs.walk.WalkIterator.next.Goals as goal

pub invariant_of-self : goal.invariant_of-self
invariant_of-self g c =
    (onward c.self.inside.list_arena.now c.self.inside.at c.self.inside.left c.self.invariant c.in-Some.at c.node.result.now c.in-Some.is c.node.ensures).walk
