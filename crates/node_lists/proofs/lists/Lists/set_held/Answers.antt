use Rattle.std.proofs.Common.{◌∙◌, set}
use Rattle.node_lists.proofs.Growth.{held_closed, held_family}
use Rattle.node_lists.proofs.lists.Lists.set_held.Goals as goal

pub invariant_of-self : goal.invariant_of-self
invariant_of-self g c =
    held_closed c.self.inside.list_arena c.self.invariant c.link-at.result c.node-old.result.now c.args.held
    c.put.new.self c.node-old.ensures c.put.ensures.places c.put.ensures.values

pub returns : goal.returns
returns g c =
    held_family c.self.inside.list_arena c.self.invariant c.link-at.result c.node-old.result.now c.args.held
    c.put.new.self c.node-old.ensures c.put.ensures.places c.put.ensures.values
    ∙ (λ i. let f = c.self.view_is i in record f { held = set f.held (c.link-at.ensures.number i) c.args.held })
