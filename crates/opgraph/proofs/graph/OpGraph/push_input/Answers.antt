use Rattle.std.proofs.Common.{[], ◌∷◌, ◌++◌, ℕ, Option, ap, ◌∙◌}
use Rattle.opgraph.specs.Graph.{OpRow}
use Rattle.opgraph.proofs.Sames.{same_op, same_value, rewritten_after}
use Rattle.opgraph.proofs.graph.OpGraph.push_input.Goals as goal

pub attach-requires-clause-op : goal.attach-requires-clause-op
attach-requires-clause-op c =
    same_op c.args.op.0 c.args.self.now c.reserve.new.self c.reserve.ensures.same c.requires.op

pub attach-requires-clause-value : goal.attach-requires-clause-value
attach-requires-clause-value c =
    same_value c.args.self.now c.reserve.new.self c.reserve.ensures.same c.args.v.0 c.requires.value

pub returns-clause-row : goal.returns-clause-row
returns-clause-row c r e =
    rewritten_after c.args.op.0 (record r { inputs = r.inputs ++ c.args.v.0 ∷ [] }) c.args.self.now c.reserve.new.self
    c.attach.new.self c.reserve.ensures.same
    (c.attach.ensures.row r (ap (λ (f : ℕ → Option OpRow). f c.args.op.0) c.reserve.ensures.same.ops ∙ e))
