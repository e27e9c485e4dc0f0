use Rattle.naming.proofs.Cases as cases
use Rattle.naming.proofs.worked.first_appearance.Goals as goal

pub returns : goal.returns
returns c = cases.first_appearance
