use Rattle.parts.proofs.Values.{value_with, width_with}
use Rattle.parts.proofs.laws.value_of_replaced.Goals as goal

pub returns : goal.returns
returns c = record { value = value_with; width = width_with }
