-- How many gotos a C function has. This project's own.
use Rattle.std.specs.Prelude.{ℕ, ◌+◌, List, [], ◌∷◌, map}
use Rattle.cmeaning.specs.declared.tree.Arm.{Arm}
use Rattle.cmeaning.specs.declared.tree.CFunction.{CFunction}
use Rattle.cmeaning.specs.declared.tree.Stmt.{Stmt, fold-Stmt}
use Rattle.cmeaning.specs.declared.tree.Stmt.TheFolds.{fold-Arm}
use Rattle.cmeaning.specs.declared.tree.Stmt.TheOpen.{Arm-F, Stmt-F}

abbrev pub all : List ℕ → ℕ
all [] = 0
all (n ∷ rest) = n + all rest

-- of a statement, from those of the statements inside it
abbrev pub stmt_step : Stmt-F ℕ ℕ → ℕ
stmt_step (Stmt-F.Goto n) = 1
stmt_step (Stmt-F.If c body) = all body
stmt_step (Stmt-F.IfElse c body other) = all body + all other
stmt_step (Stmt-F.While c body) = all body
stmt_step (Stmt-F.DoWhile body c) = all body
stmt_step (Stmt-F.Loop body) = all body
stmt_step (Stmt-F.Switch e arms) = all arms
stmt_step s = 0

abbrev pub arm_step : Arm-F ℕ ℕ → ℕ
arm_step a = all a.body

unfoldable pub in_stmt : Stmt → ℕ
in_stmt s = fold-Stmt ℕ ℕ stmt_step arm_step s

unfoldable pub in_arm : Arm → ℕ
in_arm a = fold-Arm ℕ ℕ stmt_step arm_step a

abbrev pub in_body : List Stmt → ℕ
in_body body = all (map in_stmt body)

abbrev pub in_arms : List Arm → ℕ
in_arms arms = all (map in_arm arms)

abbrev pub gotos_of : CFunction → ℕ
gotos_of f = in_body f.body
