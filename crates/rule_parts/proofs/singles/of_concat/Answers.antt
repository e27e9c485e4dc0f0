use Rattle.std.proofs.Common.{rules, ◌+◌, ◌<◌, ◌≤◌}
use Rattle.rule_parts.proofs.Parted.{across, low_fires, high_fires}
use Rattle.rule_parts.proofs.singles.of_concat.Goals as goal

pub returns-then-k-w : goal.returns-then-k-w
returns-then-k-w g c =
    let within : c.args.k + c.args.w.bytes ≤ c.width-low.result.bytes = search rules in
    low_fires g.V.View.Sees c.args.a c.args.k c.args.w c.in_ok-x.x c.in_ok-x.y c.width-low.result.bytes c.in_ok-x.ensures
    c.width-low.ensures c.piece.result within c.piece.ensures

pub returns-then-k-low : goal.returns-then-k-low
returns-then-k-low g c =
    let n : c.args.k + c.args.w.bytes ≤ c.width-low.result.bytes → ⊥ = search rules in
    let begins : c.args.k < c.width-low.result.bytes = search rules in
    across g.V.View.Sees c.args.a c.args.k c.args.w c.in_ok-x.x c.in_ok-x.y c.width-low.result.bytes c.in_ok-x.ensures
    c.width-low.ensures n begins

pub returns : goal.returns
returns g c =
    let past : c.width-low.result.bytes ≤ c.args.k = search rules in
    high_fires g.V.View.Sees c.args.a c.args.k c.args.w c.in_ok-x.x c.in_ok-x.y c.width-low.result.bytes c.in_ok-x.ensures
    c.width-low.ensures c.piece-2.result past c.piece-2.ensures
