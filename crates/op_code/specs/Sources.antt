-- What a variable is set to, as a statement.
use Rattle.std.specs.Prelude.{ℕ, Some}
use Rattle.cmeaning.specs.declared.tree.Stmt.{Stmt}
use Rattle.cmeaning.specs.declared.tree.Stmt.TheVariants as S
use Rattle.op_code.specs.declared.outputs.Source.{Source}
use Rattle.op_code.specs.declared.outputs.Source.TheVariants.{Value, Load, Divide, Other}

abbrev pub set_to : Source → ℕ → Stmt
set_to (Value e) target = S.Assign target e
set_to (Load space address) target = S.Load target space address
set_to (Divide op d e) target = S.Divide target op d e
set_to (Other index args) target = S.Other (Some target) index args
