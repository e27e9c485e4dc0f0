use Rattle.std.proofs.Common.{subst}
use Rattle.node_lists.specs.Families.{IsFull}
use Rattle.node_lists.proofs.Families.{full}
use Rattle.node_lists.proofs.lists.Lists.known.Goals as goal

pub returns : goal.returns
returns g c = subst IsFull c.self.view_is (full c.self.inside.list_arena c.self.invariant.1)
