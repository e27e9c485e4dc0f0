use Rattle.std.proofs.Common.{refl}
use Rattle.bits_core.specs.Value.{limit, add, sub, eq}
use Rattle.cmeaning.proofs.Value.{value_of_const, value_of_var, value_of_arithmetic, value_of_compare, width_of_const, width_of_var}
use Rattle.cmeaning.proofs.Do.{do_assign, do_store, do_call}
use Rattle.ssa_model.proofs.worked.runs.Goals as goal

-- statements and expressions
ruleset steps = (
  do_assign,
  do_store,
  do_call,
  value_of_const,
  value_of_var,
  value_of_arithmetic,
  value_of_compare,
  width_of_const,
  width_of_var,
)

pub returns : goal.returns
unfolding limit add sub eq
returns c = record {
  sum_of_none = simp steps;
  endless = refl;
  stops = simp steps;
  no_arm = simp steps;
}
