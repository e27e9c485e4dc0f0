use Rattle.std.proofs.Common.{◌∙◌, length, ap, List, Option, ℕ, None}
use Rattle.opgraph.specs.Graph.{Graph, op_at, block_at}
use Rattle.opgraph.proofs.More.{more_blocks_good, more_blocks_ops, more_blocks_lists}
use Rattle.opgraph.proofs.graph.OpGraph.add_block.Goals as goal

pub invariant_of-self-2 : goal.invariant_of-self-2
invariant_of-self-2 c =
    more_blocks_good c.self.inside.ops c.self.inside.inputs c.self.inside.inputs c.self.inside.uses c.self.inside.uses
    c.self.invariant c.in_ok-add_list.field-0 c.add_list.new.self c.in_ok-add_list.ensures.ok

pub returns-clause-ops : goal.returns-clause-ops
returns-clause-ops c =
    more_blocks_ops c.self.inside.ops c.self.inside.inputs c.self.inside.inputs c.self.inside.uses c.self.inside.uses
    c.self.invariant c.in_ok-add_list.field-0 c.add_list.new.self c.in_ok-add_list.ensures.ok
    ∙ ap op_at c.self.view_is

pub returns-clause-lists : goal.returns-clause-lists
returns-clause-lists c =
    more_blocks_lists c.self.inside.ops c.self.inside.inputs c.self.inside.inputs c.self.inside.uses c.self.inside.uses
    c.self.invariant c.in_ok-add_list.field-0 c.add_list.new.self c.in_ok-add_list.ensures.ok
    ∙ ap block_at c.self.view_is

pub returns-clause-spares : goal.returns-clause-spares
returns-clause-spares c = (
  ap (λ (f : Option ℕ → List ℕ). length (f None)) c.in_ok-add_list.ensures.ok.lists
      ∙ ap (λ (z : Graph). z.spare_ops) c.self.view_is,
  ap (λ (z : Graph). z.spare_slots) c.self.view_is,
)
