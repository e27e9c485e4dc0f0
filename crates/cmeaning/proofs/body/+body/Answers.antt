use Rattle.std.proofs.Common.{◌≡◌, IfOk, subst}
use Rattle.cmeaning.proofs.Switches.{if_is, if_else_is, while_is, do_while_is, loop_is, switch_rule}
use Rattle.cmeaning.proofs.body.+body.Goals as goal

pub stmt_holds-returns-in-If-clause-right : goal.stmt_holds-returns-in-If-clause-right
stmt_holds-returns-in-If-clause-right t c =
    subst (λ z. IfOk c.tested_holds.result (λ b. b ≡ z))
    (if_is c.args.rules.f.now c.args.rules.labels c.args.s.now c.in-If.condition c.in-If.body c.as_slice.result.now
    c.args.after_call c.args.in_loop c.args.room c.in-If.is c.as_slice.ensures)
    c.tested_holds.ensures.right

pub stmt_holds-returns-in-IfElse-clause-right : goal.stmt_holds-returns-in-IfElse-clause-right
stmt_holds-returns-in-IfElse-clause-right t c =
    subst (λ z. IfOk c.branches_hold.result (λ b. b ≡ z))
    (if_else_is c.args.rules.f.now c.args.rules.labels c.args.s.now c.in-IfElse.condition c.in-IfElse.yes
    c.in-IfElse.no c.as_slice-in-IfElse.result.now c.as_slice-in-IfElse-2.result.now c.args.after_call
    c.args.in_loop c.args.room c.in-IfElse.is c.as_slice-in-IfElse.ensures c.as_slice-in-IfElse-2.ensures)
    c.branches_hold.ensures.right

pub stmt_holds-returns-in-While-clause-right : goal.stmt_holds-returns-in-While-clause-right
stmt_holds-returns-in-While-clause-right t c =
    subst (λ z. IfOk c.tested_holds-in-While.result (λ b. b ≡ z))
    (while_is c.args.rules.f.now c.args.rules.labels c.args.s.now c.in-While.condition c.in-While.body
    c.as_slice-in-While.result.now c.args.after_call c.args.in_loop c.args.room c.in-While.is
    c.as_slice-in-While.ensures)
    c.tested_holds-in-While.ensures.right

pub stmt_holds-returns-in-DoWhile-clause-right : goal.stmt_holds-returns-in-DoWhile-clause-right
stmt_holds-returns-in-DoWhile-clause-right t c =
    subst (λ z. IfOk c.tested_holds-in-DoWhile.result (λ b. b ≡ z))
    (do_while_is c.args.rules.f.now c.args.rules.labels c.args.s.now c.in-DoWhile.body c.in-DoWhile.condition
    c.as_slice-in-DoWhile.result.now c.args.after_call c.args.in_loop c.args.room c.in-DoWhile.is
    c.as_slice-in-DoWhile.ensures)
    c.tested_holds-in-DoWhile.ensures.right

pub stmt_holds-returns-in-Loop-clause-right : goal.stmt_holds-returns-in-Loop-clause-right
stmt_holds-returns-in-Loop-clause-right t c =
    subst (λ z. IfOk c.all_hold_in.result (λ b. b ≡ z))
    (loop_is c.args.rules.f.now c.args.rules.labels c.args.s.now c.in-Loop.body c.as_slice-in-Loop.result.now
    c.args.after_call c.args.in_loop c.args.room c.in-Loop.is c.as_slice-in-Loop.ensures)
    c.all_hold_in.ensures.right

pub stmt_holds-returns-in-Switch-clause-right : goal.stmt_holds-returns-in-Switch-clause-right
stmt_holds-returns-in-Switch-clause-right t c =
    subst (λ z. IfOk c.switch_holds.result (λ b. b ≡ z))
    (switch_rule c.args.rules.f.now c.args.rules.labels c.args.s.now c.in-Switch.value c.in-Switch.arms
    c.as_slice-in-Switch.result.now c.args.after_call c.args.in_loop c.args.room c.in-Switch.is
    c.as_slice-in-Switch.ensures)
    c.switch_holds.ensures.right
