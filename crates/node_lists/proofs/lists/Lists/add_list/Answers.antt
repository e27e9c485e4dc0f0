use Rattle.std.proofs.Common.{refl, sym, subst, None}
use Rattle.heap_nodes.specs.Rows.{Rows}
use Rattle.node_lists.specs.declared.node.Head.{Head}
use Rattle.node_lists.specs.Families.{Family, MoreLists}
use Rattle.node_lists.proofs.Moves.{Closed}
use Rattle.node_lists.proofs.Growth.{wider_closed, wider_family}
use Rattle.node_lists.proofs.lists.Lists.add_list.Goals as goal

pub invariant_of-self : goal.invariant_of-self
invariant_of-self g c =
    subst (λ (hs : Rows Head). Closed (record c.self.inside.list_arena { heads = hs }))
    (sym c.in_err-head.ensures.failed) c.self.invariant

pub invariant_of-self-2 : goal.invariant_of-self-2
invariant_of-self-2 g c =
    wider_closed c.self.inside.list_arena c.self.invariant c.in_ok-head.head c.add.new.self
    (record { first = None; last = None; len = 0 }) refl refl refl c.in_ok-head.ensures.ok

pub returns-clause-ok : goal.returns-clause-ok
returns-clause-ok g c =
    let m = wider_family c.self.inside.list_arena c.self.invariant c.in_ok-head.head c.add.new.self (record { first = None; last = None; len = 0 }) refl refl refl c.in_ok-head.ensures.ok in
    subst
    (λ (f : Family g.row.T.Denot).
    MoreLists c.in_ok-head.head.number f
    (Rattle.node_lists.specs.Families.family_of (record c.self.inside.list_arena { heads = c.add.new.self })))
    c.self.view_is m
