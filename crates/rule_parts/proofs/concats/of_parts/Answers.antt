use Rattle.std.proofs.Common.{rules, ◌≡◌, ◌+◌, ◌<◌}
use Rattle.rule_views.specs.Sees.{NoAtom, IsSame}
use Rattle.rule_parts.specs.Joined.{NoParts}
use Rattle.rule_parts.proofs.Joined.{differs, too_wide, parts_fire}
use Rattle.rule_parts.proofs.concats.of_parts.Goals as goal

pub returns-then-not-same : goal.returns-then-not-same
returns-then-not-same g c =
    let sees = g.V.View.Sees in
    let n : NoAtom sees c.in_ok-j.x c.in_ok-k.y = search rules in
    differs sees c.args.a c.args.b c.in_ok-j.j c.in_ok-k.k c.in_ok-j.high c.in_ok-k.low c.in_ok-j.x c.in_ok-k.y
    c.in_ok-j.ensures c.in_ok-k.ensures n

pub returns-in_err-w : goal.returns-in_err-w
returns-in_err-w g c =
    let sees = g.V.View.Sees in
    let more : 16 < c.in_ok-j.high.bytes + c.in_ok-k.low.bytes = search rules in
    let no : NoParts sees c.args.a c.args.b =
    too_wide sees c.args.a c.args.b c.in_ok-j.j c.in_ok-k.k c.in_ok-j.high c.in_ok-k.low c.in_ok-j.x c.in_ok-k.y
    c.in_ok-j.ensures c.in_ok-k.ensures more in
    search rules

pub returns : goal.returns
returns g c =
    let sees = g.V.View.Sees in
    let same : IsSame sees c.in_ok-j.x c.in_ok-k.y = search rules in
    let is : c.in_ok-j.j ≡ c.in_ok-k.k + c.in_ok-k.low.bytes = search rules in
    parts_fire sees c.args.a c.args.b c.in_ok-j.j c.in_ok-k.k c.in_ok-j.high c.in_ok-k.low c.in_ok-j.x c.in_ok-k.y
    c.in_ok-j.ensures c.in_ok-k.ensures c.in_ok-w.w c.piece.result same is c.in_ok-w.ensures c.piece.ensures
