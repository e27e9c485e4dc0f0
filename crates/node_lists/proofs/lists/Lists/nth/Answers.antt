use Rattle.std.proofs.Common.{◌≡◌, ◌+◌, Option, sym, ap, ◌∙◌, arith, slice_get}
use Rattle.node_lists.specs.Nodes.{number}
use Rattle.node_lists.specs.Families.{Family, list_at}
use Rattle.node_lists.proofs.Families.{list_at_is}
use Rattle.node_lists.proofs.Along.{IsNth, nth_next, nth_past}
use Rattle.node_lists.proofs.lists.Lists.nth.Goals as goal
use Rattle.node_lists.proofs.lists.Lists.nth.Goals.{in-Some, in_default}

pub loop-preserved : goal.loop-preserved
loop-preserved g c =
    let t = c.self.inside.list_arena in
    let P : Option Rattle.heap_nodes.specs.declared.link.Link.Link → Type 0 = λ at. IsNth t c.self.invariant c.args.list at (c.loop.counter + 1) in
    elim c.match-at.branch [
      | in-Some w ↦
          Rattle.std.proofs.Common.subst P (sym w.at-is)
          (nth_next t c.self.invariant c.args.list c.loop.at w.in-Some.node w.node.result.now c.loop.counter
          w.in-Some.is w.node.ensures c.loop.invariant)
      | in_default w ↦
          Rattle.std.proofs.Common.subst P (sym w.at-is)
          (nth_past t c.self.invariant c.args.list c.loop.at c.loop.counter w.in_default.is c.loop.invariant)
    ]

pub returns-in-None : goal.returns-in-None
returns-in-None g c =
    let t = c.self.inside.list_arena in let e : c.loop.counter ≡ c.args.place = omega arith in
    ap number (sym c.in-None.is)
    ∙ c.loop.invariant.0
    ∙ (λ i. slice_get (sym (list_at_is t) i c.args.list) (e i))
    ∙ ap (λ (f : Family g.row.T.Denot). slice_get (list_at f c.args.list) c.args.place) c.self.view_is

pub returns-in-Some-at : goal.returns-in-Some-at
returns-in-Some-at g c =
    let t = c.self.inside.list_arena in let e : c.loop.counter ≡ c.args.place = omega arith in
    ap number (sym c.in-Some-at.is)
    ∙ c.loop.invariant.0
    ∙ (λ i. slice_get (sym (list_at_is t) i c.args.list) (e i))
    ∙ ap (λ (f : Family g.row.T.Denot). slice_get (list_at f c.args.list) c.args.place) c.self.view_is
