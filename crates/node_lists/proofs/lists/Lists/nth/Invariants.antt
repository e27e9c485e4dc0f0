use Rattle.std.proofs.Common.{◌≡◌, slice_get}
use Rattle.node_lists.proofs.lists.Lists.nth.Given as goal

abbrev pub invariant-loop : goal.invariant-loop
invariant-loop g l =
    (Rattle.node_lists.specs.Nodes.number l.at
    ≡ slice_get
    (Rattle.node_lists.specs.ListArena.list_of (Rattle.node_lists.specs.Edits.links l.self-inside.list_arena)
    l.fn.list) l.counter)
    × Rattle.node_lists.specs.Nodes.Leads l.at l.self-inside.list_arena.nodes.places
