use Rattle.std.proofs.Common.{refl, sym, subst, None}
use Rattle.heap_nodes.specs.Rows.{Rows}
use Rattle.node_lists.specs.declared.node.Node.{Node}
use Rattle.node_lists.specs.Families.{Family, MoreSpare, family_of}
use Rattle.node_lists.proofs.Moves.{Closed}
use Rattle.node_lists.proofs.Growth.{longer_sound, longer_room, filled_closed, filled_family}
use Rattle.node_lists.proofs.lists.Lists.add_spare.Goals as goal

pub invariant_of-self : goal.invariant_of-self
invariant_of-self g c =
    subst (λ (ns : Rows (Node g.row.T.Denot)). Closed (record c.self.inside.list_arena { nodes = ns }))
    (sym c.in_err-at.ensures.failed) c.self.invariant

pub attach-requires-clause-sound : goal.attach-requires-clause-sound
attach-requires-clause-sound g c =
    longer_sound c.self.inside.list_arena c.self.invariant c.in_ok-at.at c.add.new.self
    (record { prev = None; next = None; list = None; held = c.args.held }) refl refl refl c.in_ok-at.ensures.ok

pub attach-requires-clause-at : goal.attach-requires-clause-at
attach-requires-clause-at g c = c.in_ok-at.ensures.ok.3

pub attach-requires-clause-after : goal.attach-requires-clause-after
attach-requires-clause-after g c =
    (longer_sound c.self.inside.list_arena c.self.invariant c.in_ok-at.at c.add.new.self (record { prev = None; next = None; list = None; held = c.args.held }) refl refl refl c.in_ok-at.ensures.ok).spare.0

pub attach-requires-clause-room : goal.attach-requires-clause-room
attach-requires-clause-room g c =
    longer_room c.self.inside.list_arena c.self.invariant c.in_ok-at.at c.add.new.self
    (record { prev = None; next = None; list = None; held = c.args.held }) refl refl refl c.in_ok-at.ensures.ok

pub invariant_of-self-2 : goal.invariant_of-self-2
invariant_of-self-2 g c =
    filled_closed c.self.inside.list_arena c.self.invariant c.in_ok-at.at c.add.new.self
    (record { prev = None; next = None; list = None; held = c.args.held }) refl refl refl c.in_ok-at.ensures.ok
    c.attach.new.self c.attach.ensures

pub returns-clause-ok : goal.returns-clause-ok
returns-clause-ok g c =
    let m = filled_family c.self.inside.list_arena c.self.invariant c.in_ok-at.at c.add.new.self (record { prev = None; next = None; list = None; held = c.args.held }) refl refl refl c.in_ok-at.ensures.ok c.attach.new.self c.attach.ensures in
    subst (λ (f : Family g.row.T.Denot). MoreSpare c.args.held f (family_of c.attach.new.self)) c.self.view_is m
