use Rattle.std.proofs.Common.{drop}
use Rattle.opgraph.specs.Graph.{op_at}
use Rattle.ssa_text.proofs.Meeting.{MultisMet}
use Rattle.ssa_text.proofs.heads.multis_of.Given as goal

abbrev pub invariant-loop-op : goal.invariant-loop-op
invariant-loop-op l = MultisMet (op_at l.graph) l.ranked.items (drop l.op-index l.ops) l.ops
