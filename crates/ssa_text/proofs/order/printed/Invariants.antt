use Rattle.std.proofs.Common.{◌≡◌, ◌++◌, drop}
use Rattle.std.specs.Prelude.{not, ◌==◌}
use Rattle.opgraph.specs.Graph.{op_at}
use Rattle.ssa_model.specs.Outline.{ids, only, width_at}
use Rattle.ssa_text.specs.Text.{all_lines, printed_from}
use Rattle.ssa_text.proofs.order.printed.Given as goal

abbrev pub invariant-loop-block : goal.invariant-loop-block
invariant-loop-block l =
    l.values.items
    ++ only (λ x. not (width_at (op_at l.parts.graph) x == 0)) (all_lines l.parts l.starts (ids (drop l.block-index l.parts.blocks)))
    ≡ printed_from l.parts l.starts
