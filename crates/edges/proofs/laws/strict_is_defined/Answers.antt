use Rattle.edges.proofs.Strict.{strict_defined}
use Rattle.edges.proofs.laws.strict_is_defined.Goals as goal

pub returns : goal.returns
returns c = λ l k e sound strict. strict_defined l k sound e strict
