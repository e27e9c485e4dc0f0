use Rattle.std.proofs.Common.{refl, ap, ◌∙◌, sym}
use Rattle.cmeaning.specs.Mentions.{numbered, in_stmt, in_body, in_arm, in_arms}
use Rattle.cmeaning.proofs.Mentions.{in_arm_body, turn}
use Rattle.cmeaning.proofs.numbering.+numbering.Goals as goal

pub number_body-loop-s-preserved : goal.number_body-loop-s-preserved
number_body-loop-s-preserved t c =
    turn in_stmt in_body (λ x xs. refl) _ _ _ _ _ _ _ c.loop-s-test.true c.s-item.is c.loop-s.invariant
    c.number_stmt-next.ensures

pub number_arms-loop-arm-preserved : goal.number_arms-loop-arm-preserved
number_arms-loop-arm-preserved t c =
    let body = ap (λ xs. numbered c.args.callees.now xs c.loop-arm.next)
    (ap in_body c.as_slice.ensures ∙ sym (in_arm_body c.arm-item.result)) in
    turn in_arm in_arms (λ x xs. refl) _ _ _ _ _ _ _ c.loop-arm-test.true c.arm-item.is c.loop-arm.invariant
    (c.number_body-next.ensures ∙ body)
