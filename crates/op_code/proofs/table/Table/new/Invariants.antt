use Rattle.std.proofs.Common.{take}
use Rattle.op_code.specs.Numbers.{HasNumbers}
use Rattle.op_code.proofs.table.Table.new.Given as goal

abbrev pub invariant-loop-at : goal.invariant-loop-at
invariant-loop-at l = HasNumbers (take l.at l.ranges) l.numbers
