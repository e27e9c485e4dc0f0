use Rattle.std.proofs.Common.{rules, ◌+◌, ◌<◌}
use Rattle.rule_parts.specs.Joined.{NoZeroAbove}
use Rattle.rule_parts.proofs.Joined.{zero_too_wide, zero_fires}
use Rattle.rule_parts.proofs.concats.of_zero.Goals as goal

pub returns-in_err-w : goal.returns-in_err-w
returns-in_err-w g c =
    let sees = g.V.View.Sees in
    let more : 16 < c.in_ok-c.c.width.bytes + c.width.result.bytes = search rules in
    let no : NoZeroAbove sees c.args.a c.args.b =
    zero_too_wide sees c.args.a c.args.b c.in_ok-c.c c.width.result.bytes c.in_ok-c.ensures c.width.ensures more in
    search rules

pub returns : goal.returns
returns g c = zero_fires g.V.View.Sees c.args.a c.args.b c.in_ok-c.c c.width.result.bytes c.in_ok-c.ensures
    c.width.ensures c.in_ok-w.w c.in_ok-w.ensures
