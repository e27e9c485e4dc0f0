use Rattle.std.proofs.Common.{◌-◌}
use Rattle.pcode_model.specs.Places.{place}
use Rattle.flow.proofs.Order.{Bounding}
use Rattle.flow.proofs.places.lower_bound.Given as goal

abbrev pub invariant-loop-low : goal.invariant-loop-low
invariant-loop-low l = Bounding l.places (place l.address l.index) l.low l.high

abbrev pub decreases-loop-low : goal.decreases-loop-low
decreases-loop-low l = l.high - l.low
