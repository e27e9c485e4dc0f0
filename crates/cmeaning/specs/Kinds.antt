-- The kinds of statements, by which code that goes through all of them is parted into functions.
use Rattle.std.specs.Prelude.{Bool, true, false}
use Rattle.cmeaning.specs.declared.tree.Stmt.{Stmt, fold-Stmt}
use Rattle.cmeaning.specs.declared.tree.Stmt.TheOpen.{Stmt-F, Arm-F}

-- a statement that computes a value or moves one, a call, a jump or its label, or a statement with statements in it
pub data Kind : Type 0 where
  Computes : Kind
  Calls : Kind
  Jumps : Kind
  Nests : Kind

abbrev pub kind_step : Stmt-F Kind Kind → Kind
kind_step (Stmt-F.Assign v e) = Computes
kind_step (Stmt-F.Load v space address) = Computes
kind_step (Stmt-F.Store space address e) = Computes
kind_step (Stmt-F.Call v callee args) = Calls
kind_step (Stmt-F.CallInd v callee args) = Calls
kind_step (Stmt-F.Other v index args) = Calls
kind_step (Stmt-F.Extra v offset) = Calls
kind_step (Stmt-F.Divide v op a b) = Computes
kind_step (Stmt-F.If c body) = Nests
kind_step (Stmt-F.IfElse c body other) = Nests
kind_step (Stmt-F.While c body) = Nests
kind_step (Stmt-F.DoWhile body c) = Nests
kind_step (Stmt-F.Loop body) = Nests
kind_step Stmt-F.Break = Jumps
kind_step (Stmt-F.Switch e arms) = Nests
kind_step (Stmt-F.Goto n) = Jumps
kind_step (Stmt-F.Label n) = Jumps
kind_step (Stmt-F.Return e) = Jumps

abbrev pub arm_kind : Arm-F Kind Kind → Kind
arm_kind a = Nests

unfoldable pub kind_of : Stmt → Kind
kind_of s = fold-Stmt Kind Kind kind_step arm_kind s

abbrev pub computes : Kind → Bool
computes Computes = true
computes Calls = false
computes Jumps = false
computes Nests = false

abbrev pub calls : Kind → Bool
calls Computes = false
calls Calls = true
calls Jumps = false
calls Nests = false

abbrev pub nests : Kind → Bool
nests Computes = false
nests Calls = false
nests Jumps = false
nests Nests = true
