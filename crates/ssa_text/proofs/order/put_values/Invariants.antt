use Rattle.std.proofs.Common.{◌≡◌, ◌++◌, drop}
use Rattle.std.specs.Prelude.{not, ◌==◌}
use Rattle.opgraph.specs.Graph.{op_at}
use Rattle.ssa_model.specs.Outline.{only, width_at}
use Rattle.ssa_text.proofs.order.put_values.Given as goal

abbrev pub invariant-loop-line : goal.invariant-loop-line
invariant-loop-line l =
    l.values.items ++ only (λ x. not (width_at (op_at l.graph) x == 0)) (drop l.line-index l.lines)
    ≡ l.initial.values.items ++ only (λ x. not (width_at (op_at l.graph) x == 0)) l.lines
