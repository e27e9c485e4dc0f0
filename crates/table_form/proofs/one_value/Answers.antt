use Rattle.table_form.proofs.Once.{one_value}
use Rattle.table_form.proofs.one_value.Goals as goal

pub returns : goal.returns
returns c = one_value
