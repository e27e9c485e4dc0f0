use Rattle.std.proofs.Common.{◌+◌, ◌*◌}
use Rattle.cread.proofs.expressions.+reader.Given as goal

abbrev pub decreases-operand : goal.decreases-operand
decreases-operand l = 6 * l.levels

abbrev pub decreases-cast : goal.decreases-cast
decreases-cast l = 6 * l.levels + 1

abbrev pub decreases-binary : goal.decreases-binary
decreases-binary l = 6 * l.levels + 1

abbrev pub decreases-typed : goal.decreases-typed
decreases-typed l = 6 * l.levels + 2

abbrev pub decreases-inner : goal.decreases-inner
decreases-inner l = 6 * l.levels + 2

abbrev pub decreases-closed : goal.decreases-closed
decreases-closed l = 6 * l.levels + 3

abbrev pub decreases-part_of : goal.decreases-part_of
decreases-part_of l = 6 * l.levels + 3

abbrev pub decreases-pair_of : goal.decreases-pair_of
decreases-pair_of l = 6 * l.levels + 4

abbrev pub decreases-paren : goal.decreases-paren
decreases-paren l = 6 * l.levels + 4

abbrev pub decreases-atom : goal.decreases-atom
decreases-atom l = 6 * l.levels + 5
