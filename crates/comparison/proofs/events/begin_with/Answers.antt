use Rattle.std.proofs.Common.{◌≤◌, length, arith, refl}
use Rattle.comparison.proofs.Prefixes.{all_compared}
use Rattle.comparison.proofs.events.begin_with.Goals as goal

pub returns : goal.returns
returns c =
    let past : length c.args.front.now ≤ c.loop-i.i = omega (arith, c.loop-i-test.false) in
    ((λ e. c.loop-i.invariant.1 (all_compared c.args.front.now c.args.events.now c.loop-i.i past)), λ p. refl)
