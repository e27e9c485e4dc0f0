use Rattle.ssa_model.proofs.worked.sum_is_ssa.Goals as goal

pub returns : goal.returns
returns c = Rattle.ssa_model.proofs.Sum.sum_is_ssa
