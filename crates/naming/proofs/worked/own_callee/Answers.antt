use Rattle.naming.proofs.Cases as cases
use Rattle.naming.proofs.worked.own_callee.Goals as goal

pub returns : goal.returns
returns c = cases.own_callee
