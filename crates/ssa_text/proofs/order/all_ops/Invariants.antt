use Rattle.std.proofs.Common.{◌≡◌, ◌++◌, drop}
use Rattle.ssa_model.specs.Outline.{ids}
use Rattle.ssa_model.specs.Starting.{all_ops}
use Rattle.ssa_text.proofs.order.all_ops.Given as goal

abbrev pub invariant-loop-block : goal.invariant-loop-block
invariant-loop-block l =
    l.all.items ++ all_ops l.graph (ids (drop l.block-index l.blocks)) ≡ all_ops l.graph (ids l.blocks)
