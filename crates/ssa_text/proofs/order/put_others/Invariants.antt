use Rattle.std.proofs.Common.{◌≡◌, ◌++◌, drop}
use Rattle.opgraph.specs.Graph.{op_at}
use Rattle.ssa_model.specs.Outline.{only, role_at}
use Rattle.ssa_text.specs.Text.{has_line}
use Rattle.ssa_text.proofs.order.put_others.Given as goal

abbrev pub invariant-loop-op : goal.invariant-loop-op
invariant-loop-op l =
    l.lines.items ++ only (λ x. has_line (role_at (op_at l.graph) x)) (drop l.op-index l.ops)
    ≡ l.initial.lines.items ++ only (λ x. has_line (role_at (op_at l.graph) x)) l.ops
