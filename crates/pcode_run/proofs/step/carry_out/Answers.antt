use Rattle.std.proofs.lemmas.Result.{on_ok_weaker}
use Rattle.pcode_run.proofs.step.carry_out.Goals as goal

pub returns-in-BranchInd : goal.returns-in-BranchInd
returns-in-BranchInd c = on_ok_weaker c.branch_ind.result (λ each. each c.args.instruction.now) c.branch_ind.ensures

pub returns-in-Return : goal.returns-in-Return
returns-in-Return c = on_ok_weaker c.do_return.result (λ each. each c.args.instruction.now) c.do_return.ensures
