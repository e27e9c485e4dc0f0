use Rattle.std.proofs.Common.{rules}
use Rattle.rules.specs.Letters.{Cancels}
use Rattle.rule_views.specs.Sees.{IsSame}
use Rattle.rule_sums.proofs.Summed.{cancelled_fires}
use Rattle.rule_sums.proofs.sums.cancelled.Goals as goal

pub returns : goal.returns
returns g c =
    let sees = g.V.View.Sees in
    let gone : Cancels c.args.op = search rules in
    let same : IsSame sees c.args.a c.args.b = c.same.ensures.yes (search rules) in
    cancelled_fires sees c.args.op c.args.a c.args.b c.width.result c.new-zero.result gone same c.width.ensures
    c.new-zero.ensures.width c.new-zero.ensures.value
