use Rattle.std.proofs.Common.{◌≡◌, length, rules, false, not}
use Rattle.std.proofs.lemmas.Result.{on_ok_weaker}
use Rattle.cmeaning.specs.Flat.{returns_by}
use Rattle.cmeaning.proofs.Flat as flat
use Rattle.flatcode.specs.Steps.{arm_of}
use Rattle.flatcode.proofs.Adds as adds
use Rattle.flatcode.proofs.code.+bodies.Goals as goal

pub put_if-returns : goal.put_if-returns
put_if-returns t c =
    let start : c.len.result ≡ length c.args.code.now.steps.items = search rules in
    on_ok_weaker c.put_body.result
    (adds.if_adds (returns_by c.args.callees.now) c.args.code.now c.put_step.new.code c.put_body.new.code
    c.args.condition.now c.args.body.now c.args.out c.len.result c.in_ok-first.first c.in_ok-spans.field-0
    c.in_ok-no.no
    start c.in_ok-first.ensures c.in_ok-spans.ensures c.in_ok-no.ensures c.in_ok-put_step.ensures) c.put_body.ensures

pub put_if_else-returns : goal.put_if_else-returns
put_if_else-returns t c =
    let start : c.len.result ≡ length c.args.code.now.steps.items = search rules in
    on_ok_weaker c.put_body-2.result
    (adds.if_else_adds (returns_by c.args.callees.now) c.args.code.now c.put_step.new.code c.put_body.new.code
    c.put_step-2.new.code c.put_body-2.new.code c.args.condition.now c.args.body.now c.args.other.now c.args.out
    c.len.result c.in_ok-first.first c.in_ok-spans.field-0 c.in_ok-after.field-0 c.in_ok-no.no
    c.in_ok-spans-2.field-0 c.in_ok-end.end
    start c.in_ok-first.ensures c.in_ok-spans.ensures c.in_ok-after.ensures c.in_ok-no.ensures
    c.in_ok-spans-2.ensures c.in_ok-end.ensures c.in_ok-put_step.ensures c.in_ok-put_body.ensures
    c.in_ok-put_step-2.ensures)
    c.put_body-2.ensures

pub put_while-returns : goal.put_while-returns
put_while-returns t c =
    let start : c.len-start.result ≡ length c.args.code.now.steps.items = search rules in
    on_ok_weaker c.put_step-2.result
    (adds.while_adds (returns_by c.args.callees.now) c.args.code.now c.put_step.new.code c.put_body.new.code
    c.put_step-2.new.code c.args.condition.now c.args.body.now c.args.out c.len-start.result c.in_ok-first.first
    c.in_ok-spans.field-0 c.in_ok-after.field-0 c.in_ok-end.end
    start c.in_ok-first.ensures c.in_ok-spans.ensures c.in_ok-after.ensures c.in_ok-end.ensures
    c.in_ok-put_step.ensures c.in_ok-put_body.ensures)
    c.put_step-2.ensures

pub put_do_while-returns : goal.put_do_while-returns
put_do_while-returns t c =
    let start : c.len-start.result ≡ length c.args.code.now.steps.items = search rules in
    on_ok_weaker c.put_step.result
    (adds.do_while_adds (returns_by c.args.callees.now) c.args.code.now c.put_body.new.code c.put_step.new.code
    c.args.condition.now c.args.body.now c.args.out c.len-start.result c.in_ok-spans.field-0 c.in_ok-after.field-0
    c.in_ok-end.end
    start c.in_ok-spans.ensures c.in_ok-after.ensures c.in_ok-end.ensures c.in_ok-put_body.ensures) c.put_step.ensures

pub put_loop-returns : goal.put_loop-returns
put_loop-returns t c =
    let start : c.len-start.result ≡ length c.args.code.now.steps.items = search rules in
    on_ok_weaker c.put_step.result
    (adds.loop_adds (returns_by c.args.callees.now) c.args.code.now c.put_body.new.code c.put_step.new.code
    c.args.body.now c.args.out c.len-start.result c.in_ok-spans.field-0 c.in_ok-after.field-0 c.in_ok-end.end
    start c.in_ok-spans.ensures c.in_ok-after.ensures c.in_ok-end.ensures c.in_ok-put_body.ensures) c.put_step.ensures

pub put_switch-returns : goal.put_switch-returns
put_switch-returns t c =
    let start : c.len.result ≡ length c.args.code.now.steps.items = search rules in
    on_ok_weaker c.put_arms.result
    (adds.switch_adds (returns_by c.args.callees.now) c.args.code.now c.put_step.new.code c.put_arms.new.code
    c.args.value.now c.args.arms.now _ c.args.out c.len.result c.in_ok-first.first c.in_ok-arms_span.field-0
    c.in_ok-other.other
    start c.in_ok-first.ensures c.in_ok-arms_span.ensures c.in_ok-other.ensures c.in_ok-cases.ensures
    c.in_ok-put_step.ensures)
    c.put_arms.ensures

pub put_arms-loop-arm-preserved : goal.put_arms-loop-arm-preserved
put_arms-loop-arm-preserved t c new h =
    c.loop-arm.invariant new
    (adds.arms_turn (returns_by c.args.callees.now) c.loop-arm.code c.put_arm.new.code new c.args.arms.now
    c.loop-arm.arm-index c.arm-item.result c.args.out c.args.past c.loop-arm-test.true c.arm-item.is
    c.in_ok-put_arm.ensures h)

pub put_body-loop-s-preserved : goal.put_body-loop-s-preserved
put_body-loop-s-preserved t c new h =
    c.loop-s.invariant new
    (adds.body_turn (returns_by c.args.callees.now) c.loop-s.code c.put_stmt.new.code new c.args.body.now
    c.loop-s.s-index c.s-item.result c.args.out c.loop-s-test.true c.s-item.is c.in_ok-put_stmt.ensures h)

pub put_arm-returns : goal.put_arm-returns
put_arm-returns t c =
    on_ok_weaker c.put_step.result (adds.arm_breaks c.args.code.now c.put_body.new.code c.put_step.new.code
    (arm_of (returns_by c.args.callees.now) c.args.arm.now) c.args.out c.args.past c.last_leaves.result
    (search rules) c.if-last_leaves.false (search (rules, c.in_ok-put_body.ensures))) c.put_step.ensures

pub put_stmt-returns-in-Assign : goal.put_stmt-returns-in-Assign
put_stmt-returns-in-Assign t c =
    on_ok_weaker c.put_step.result
    (adds.simple_adds (returns_by c.args.callees.now) c.args.code.now c.put_step.new.code c.args.s.now _ false
    c.args.out c.in-Assign.is
    (flat.piece_of_assign (returns_by c.args.callees.now) c.in-Assign.target c.in-Assign.value))
    c.put_step.ensures

pub put_stmt-returns-in-Load : goal.put_stmt-returns-in-Load
put_stmt-returns-in-Load t c =
    on_ok_weaker c.put_step-in-Load.result
    (adds.simple_adds (returns_by c.args.callees.now) c.args.code.now c.put_step-in-Load.new.code c.args.s.now _ false
    c.args.out c.in-Load.is
    (flat.piece_of_load (returns_by c.args.callees.now) c.in-Load.target c.in-Load.space c.in-Load.address))
    c.put_step-in-Load.ensures

pub put_stmt-returns-in-Store : goal.put_stmt-returns-in-Store
put_stmt-returns-in-Store t c =
    on_ok_weaker c.put_step-in-Store.result
    (adds.simple_adds (returns_by c.args.callees.now) c.args.code.now c.put_step-in-Store.new.code c.args.s.now _ false
    c.args.out c.in-Store.is
    (flat.piece_of_store (returns_by c.args.callees.now) c.in-Store.space c.in-Store.address c.in-Store.value))
    c.put_step-in-Store.ensures

pub put_stmt-returns-in-Call : goal.put_stmt-returns-in-Call
put_stmt-returns-in-Call t c =
    on_ok_weaker c.put_step-in-Call.result
    (adds.simple_adds (returns_by c.args.callees.now) c.args.code.now c.put_step-in-Call.new.code c.args.s.now _
    (not (returns_by c.args.callees.now c.in-Call.callee)) c.args.out c.in-Call.is
    (flat.piece_of_call (returns_by c.args.callees.now) c.in-Call.target c.in-Call.callee c.in-Call.args))
    c.put_step-in-Call.ensures

pub put_stmt-returns-in-CallInd : goal.put_stmt-returns-in-CallInd
put_stmt-returns-in-CallInd t c =
    on_ok_weaker c.put_step-in-CallInd.result
    (adds.simple_adds (returns_by c.args.callees.now) c.args.code.now c.put_step-in-CallInd.new.code c.args.s.now _
    false c.args.out c.in-CallInd.is
    (flat.piece_of_call_ind (returns_by c.args.callees.now) c.in-CallInd.target c.in-CallInd.callee c.in-CallInd.args))
    c.put_step-in-CallInd.ensures

pub put_stmt-returns-in-Other : goal.put_stmt-returns-in-Other
put_stmt-returns-in-Other t c =
    on_ok_weaker c.put_step-in-Other.result
    (adds.simple_adds (returns_by c.args.callees.now) c.args.code.now c.put_step-in-Other.new.code c.args.s.now _ false
    c.args.out c.in-Other.is
    (flat.piece_of_other (returns_by c.args.callees.now) c.in-Other.target c.in-Other.index c.in-Other.args))
    c.put_step-in-Other.ensures

pub put_stmt-returns-in-Extra : goal.put_stmt-returns-in-Extra
put_stmt-returns-in-Extra t c =
    on_ok_weaker c.put_step-in-Extra.result
    (adds.simple_adds (returns_by c.args.callees.now) c.args.code.now c.put_step-in-Extra.new.code c.args.s.now _ false
    c.args.out c.in-Extra.is (flat.piece_of_extra (returns_by c.args.callees.now) c.in-Extra.target c.in-Extra.offset))
    c.put_step-in-Extra.ensures

pub put_stmt-returns-in-Divide : goal.put_stmt-returns-in-Divide
put_stmt-returns-in-Divide t c =
    on_ok_weaker c.put_step-in-Divide.result
    (adds.simple_adds (returns_by c.args.callees.now) c.args.code.now c.put_step-in-Divide.new.code c.args.s.now _
    false c.args.out c.in-Divide.is
    (flat.piece_of_divide (returns_by c.args.callees.now) c.in-Divide.target c.in-Divide.op c.in-Divide.left
    c.in-Divide.right))
    c.put_step-in-Divide.ensures

pub put_stmt-returns-in-Break : goal.put_stmt-returns-in-Break
put_stmt-returns-in-Break t c =
    on_ok_weaker c.put_step-in-Break.result
    (adds.other_adds (returns_by c.args.callees.now) c.args.code.now c.put_step-in-Break.new.code c.args.s.now _ _
    c.args.out c.in-Break.is (flat.piece_of_break (returns_by c.args.callees.now)))
    c.put_step-in-Break.ensures

pub put_stmt-returns-in-Goto : goal.put_stmt-returns-in-Goto
put_stmt-returns-in-Goto t c =
    on_ok_weaker c.put_step-in-Goto.result
    (adds.other_adds (returns_by c.args.callees.now) c.args.code.now c.put_step-in-Goto.new.code c.args.s.now _ _
    c.args.out c.in-Goto.is (flat.piece_of_goto (returns_by c.args.callees.now) c.in-Goto.n))
    c.put_step-in-Goto.ensures

pub put_stmt-returns-in-Label : goal.put_stmt-returns-in-Label
put_stmt-returns-in-Label t c =
    on_ok_weaker c.put_label.result
    (adds.other_adds (returns_by c.args.callees.now) c.args.code.now c.put_label.new.code c.args.s.now _ _ c.args.out
    c.in-Label.is (flat.piece_of_label (returns_by c.args.callees.now) c.in-Label.n))
    c.put_label.ensures

pub put_stmt-returns-in-Return : goal.put_stmt-returns-in-Return
put_stmt-returns-in-Return t c =
    on_ok_weaker c.put_step-in-Return.result
    (adds.other_adds (returns_by c.args.callees.now) c.args.code.now c.put_step-in-Return.new.code c.args.s.now _ _
    c.args.out c.in-Return.is (flat.piece_of_return (returns_by c.args.callees.now) c.in-Return.e))
    c.put_step-in-Return.ensures
