use Rattle.table_form.proofs.OneTable.{one_table}
use Rattle.table_form.proofs.one_table.Goals as goal

pub returns : goal.returns
returns c = one_table
