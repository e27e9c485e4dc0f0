use Rattle.std.proofs.Common.{◌≡◌, ◌++◌, drop, map}
use Rattle.pcodetext.specs.Convert.{varnode}
use Rattle.pcodetext.proofs.proto_line.varnodes.Given as goal

abbrev pub invariant-loop-range : goal.invariant-loop-range
invariant-loop-range l = map varnode l.ranges ≡ l.made ++ map varnode (drop l.range-index l.ranges)
