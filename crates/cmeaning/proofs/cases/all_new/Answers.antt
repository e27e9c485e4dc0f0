use Rattle.cmeaning.proofs.Sets.{arm_added, arm_known, arms_end}
use Rattle.cmeaning.proofs.cases.all_new.Goals as goal

pub returns-then-not-added : goal.returns-then-not-added
returns-then-not-added c =
    arm_known c.loop-arm.seen c.add_new.new.seen c.args.arms.now c.loop-arm.arm-index c.arm-item.result
    c.as_slice.result.now c.in_ok-added.added
    c.loop-arm-test.true c.arm-item.is c.as_slice.ensures c.loop-arm.invariant c.in_ok-added.ensures c.if-not-added.true

pub loop-arm-preserved : goal.loop-arm-preserved
loop-arm-preserved c =
    arm_added c.loop-arm.seen c.add_new.new.seen c.args.arms.now c.loop-arm.arm-index c.arm-item.result
    c.as_slice.result.now c.in_ok-added.added
    c.loop-arm-test.true c.arm-item.is c.as_slice.ensures c.loop-arm.invariant c.in_ok-added.ensures
    c.if-not-added.false

pub returns : goal.returns
returns c = arms_end c.loop-arm.seen c.args.arms.now c.loop-arm.arm-index c.loop-arm-test.false c.loop-arm.invariant
