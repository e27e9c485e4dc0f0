use Rattle.parts.proofs.Shapes.{shape_total, shape_depth}
use Rattle.parts.proofs.laws.right_is_total.Goals as goal

pub returns : goal.returns
returns c = record { total = shape_total; depth = shape_depth }
