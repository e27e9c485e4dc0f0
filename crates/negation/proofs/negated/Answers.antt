use Rattle.negation.proofs.Negates.{negates}
use Rattle.negation.proofs.negated.Goals as goal

pub returns-clause-meaning : goal.returns-clause-meaning
returns-clause-meaning c ws i =
    negates ws c.args.width.bytes c.args.condition c.in_ok-negation.negation c.in_ok-negation.ensures i
