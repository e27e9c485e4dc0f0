use Rattle.std.proofs.Common.{◌+◌, ◌∙◌, ap, sym}
use Rattle.summary.specs.Gotos.{in_arm, in_body}
use Rattle.summary.proofs.Gotos.{in_arm_body, turn}
use Rattle.summary.proofs.counting.+gotos.Goals as goal

pub after_arms-loop-arm-preserved : goal.after_arms-loop-arm-preserved
after_arms-loop-arm-preserved t c =
    turn in_arm c.args.arms.now c.loop-arm.arm-index c.arm-item.result c.loop-arm.count c.in_ok-count.count _
    c.loop-arm-test.true c.arm-item.is
    (c.in_ok-count.ensures
    ∙ ap (λ n. c.loop-arm.count + n) (ap in_body c.as_slice.ensures ∙ sym (in_arm_body c.arm-item.result)))
    c.loop-arm.invariant
