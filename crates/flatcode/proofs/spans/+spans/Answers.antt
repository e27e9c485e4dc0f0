use Rattle.std.proofs.Common.{◌∙◌, List, ap}
use Rattle.std.proofs.lemmas.Result.{IfOk-weaker}
use Rattle.cmeaning.specs.declared.tree.Stmt.{Stmt}
use Rattle.cmeaning.specs.Flat.{pieces_of, returns_by, spans}
use Rattle.flatcode.proofs.Sums.{if_else_span, while_span}
use Rattle.flatcode.proofs.Turns.{sum_turn}
use Rattle.flatcode.proofs.spans.+spans.Goals as goal

pub span-returns-in_ok-after-in-IfElse : goal.span-returns-in_ok-after-in-IfElse
span-returns-in_ok-after-in-IfElse t c =
    IfOk-weaker c.after-in-IfElse-3.result _ _
    (λ n h.
    if_else_span (returns_by c.args.callees.now) c.args.s.now c.in-IfElse.condition c.in-IfElse.yes c.in-IfElse.no
    c.in-IfElse.is c.in_ok-spans-in-IfElse.field-0 c.in_ok-rest-in-IfElse.rest c.in_ok-spans-in-IfElse-2.field-0
    c.in_ok-after-in-IfElse.field-0 n
    (c.in_ok-spans-in-IfElse.ensures
    ∙ ap (λ (b : List Stmt). spans (pieces_of (returns_by c.args.callees.now) b)) c.as_slice-in-IfElse.ensures)
    c.in_ok-rest-in-IfElse.ensures
    (c.in_ok-spans-in-IfElse-2.ensures
    ∙ ap (λ (b : List Stmt). spans (pieces_of (returns_by c.args.callees.now) b)) c.as_slice-in-IfElse-2.ensures)
    c.in_ok-after-in-IfElse.ensures h)
    c.after-in-IfElse-3.ensures

pub span-returns-in_ok-after-in-While : goal.span-returns-in_ok-after-in-While
span-returns-in_ok-after-in-While t c =
    IfOk-weaker c.after-in-While-2.result _ _
    (λ n h.
    while_span (returns_by c.args.callees.now) c.args.s.now c.in-While.condition c.in-While.body c.in-While.is
    c.in_ok-spans-in-While.field-0 c.in_ok-after-in-While.field-0 n
    (c.in_ok-spans-in-While.ensures
    ∙ ap (λ (b : List Stmt). spans (pieces_of (returns_by c.args.callees.now) b)) c.as_slice-in-While.ensures)
    c.in_ok-after-in-While.ensures h)
    c.after-in-While-2.ensures

pub arms_span-loop-arm-preserved : goal.arms_span-loop-arm-preserved
arms_span-loop-arm-preserved t c =
    sum_turn (returns_by c.args.callees.now) c.args.arms.now c.loop-arm.arm-index c.arm-item.result c.loop-arm.sum
    c.in_ok-arm_span.field-0 c.in_ok-sum.sum _
    c.loop-arm-test.true c.arm-item.is c.in_ok-arm_span.ensures c.in_ok-sum.ensures c.loop-arm.invariant
