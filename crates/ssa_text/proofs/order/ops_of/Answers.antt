use Rattle.std.proofs.Common.{◌++◌, ap, ◌∙◌}
use Rattle.ssa_model.specs.Drops.{op_numbers}
use Rattle.ssa_text.proofs.Ids.{numbers_of_ops}
use Rattle.ssa_text.proofs.order.ops_of.Goals as goal

pub loop-op-init : goal.loop-op-init
loop-op-init c =
    ap (λ xs. xs ++ op_numbers c.into_iter-op-iterator.result) c.new-ops.ensures.items
    ∙ ap op_numbers (c.into_iter-op-iterator.ensures.into_iter_gives ∙ c.block_ops-op-items.ensures.items)
    ∙ numbers_of_ops _
