use Rattle.std.proofs.Common.{◌++◌, ap, ◌∙◌}
use Rattle.opgraph.specs.Graph.{numbers}
use Rattle.ssa_text.proofs.Ids.{value_numbers}
use Rattle.ssa_text.proofs.order.inputs_of.Goals as goal

pub loop-value-init : goal.loop-value-init
loop-value-init c =
    ap (λ xs. xs ++ numbers c.into_iter-value-iterator.result) c.new-inputs.ensures.items
    ∙ ap numbers (c.into_iter-value-iterator.ensures.into_iter_gives ∙ c.inputs-value-items.ensures.items)
    ∙ value_numbers _
