use Rattle.table_form.proofs.Worked.{worked_slice, worked_trees}
use Rattle.table_form.proofs.worked_slices.Goals as goal

pub returns : goal.returns
returns c = record { trees = worked_trees; slice = worked_slice }
