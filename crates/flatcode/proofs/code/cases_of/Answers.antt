use Rattle.cmeaning.specs.Flat.{returns_by}
use Rattle.flatcode.proofs.Turns.{cases_turn}
use Rattle.flatcode.proofs.code.cases_of.Goals as goal

pub loop-arm-preserved : goal.loop-arm-preserved
loop-arm-preserved c =
    cases_turn (returns_by c.args.callees.now) c.args.arms.now c.loop-arm.arm-index c.arm-item.result
    c.loop-arm.cases c.put_cases.new.cases c.as_slice.result.now c.loop-arm.position c.in_ok-arm_span.field-0
    c.in_ok-position.position _
    c.loop-arm-test.true c.arm-item.is c.as_slice.ensures c.in_ok-put_cases.ensures c.in_ok-arm_span.ensures
    c.in_ok-position.ensures c.loop-arm.invariant
