-- What each statement makes in flat code.
use Rattle.std.proofs.Common.{◌≡◌, ℕ, List, Bool, false, not, Option, map, sym, ap, ◌∙◌}
use Rattle.cmeaning.specs.declared.tree.StatementDivision.{StatementDivision}
use Rattle.cmeaning.specs.declared.tree.Expr.{Expr}
use Rattle.cmeaning.specs.declared.tree.Arm.{Arm}
use Rattle.cmeaning.specs.declared.tree.Stmt.{Stmt, roll-Stmt, fold-roll-Stmt, map-Stmt}
use Rattle.cmeaning.specs.declared.tree.Stmt.TheFolds.{fold-Arm, fold_out-Arm}
use Rattle.cmeaning.specs.declared.tree.Stmt.TheOpen.{Stmt-F}
use Rattle.cmeaning.specs.declared.tree.Stmt.TheVariants as S
use Rattle.cmeaning.specs.Flat.{Do, Piece, Branch, single, piece_step, branch_step, piece_of, pieces_of}

-- what an arm makes
pub branch_of : (ℕ → Bool) → Arm → Branch
branch_of returns a = fold-Arm Piece Branch (piece_step returns) branch_step a

-- of a layer
pub piece_roll : (returns : ℕ → Bool) (l : Stmt-F Stmt Arm)
    → piece_of returns (roll-Stmt l)
    ≡ piece_step returns (map-Stmt Stmt Arm Piece Branch (piece_of returns) (branch_of returns) l)
unfolding piece_of branch_of
piece_roll returns l = fold-roll-Stmt Piece Branch (piece_step returns) branch_step l

-- of a statement that is a layer
of_layer : (returns : ℕ → Bool) (s : Stmt) (l : Stmt-F Stmt Arm)
    → roll-Stmt l ≡ s
    → piece_of returns s ≡ piece_step returns (map-Stmt Stmt Arm Piece Branch (piece_of returns) (branch_of returns) l)
of_layer returns s l is = ap (piece_of returns) (sym is) ∙ piece_roll returns l

pub piece_of_assign : (returns : ℕ → Bool) (v : ℕ) (e : Expr)
    → piece_of returns (S.Assign v e) ≡ single false (Do (S.Assign v e))
piece_of_assign returns v e = of_layer returns (S.Assign v e) (Stmt-F.Assign v e) (S.rolls-Assign v e)

pub piece_of_load : (returns : ℕ → Bool) (v : ℕ) (space : Option (List ℕ)) (address : Expr)
    → piece_of returns (S.Load v space address) ≡ single false (Do (S.Load v space address))
piece_of_load returns v space address =
    of_layer returns (S.Load v space address) (Stmt-F.Load v space address) (S.rolls-Load v space address)

pub piece_of_store : (returns : ℕ → Bool) (space : Option (List ℕ)) (address e : Expr)
    → piece_of returns (S.Store space address e) ≡ single false (Do (S.Store space address e))
piece_of_store returns space address e =
    of_layer returns (S.Store space address e) (Stmt-F.Store space address e) (S.rolls-Store space address e)

pub piece_of_call : (returns : ℕ → Bool) (v : Option ℕ) (callee : ℕ) (args : List Expr)
    → piece_of returns (S.Call v callee args) ≡ single (not (returns callee)) (Do (S.Call v callee args))
piece_of_call returns v callee args =
    of_layer returns (S.Call v callee args) (Stmt-F.Call v callee args) (S.rolls-Call v callee args)

pub piece_of_call_ind : (returns : ℕ → Bool) (v : Option ℕ) (callee : Expr) (args : List Expr)
    → piece_of returns (S.CallInd v callee args) ≡ single false (Do (S.CallInd v callee args))
piece_of_call_ind returns v callee args =
    of_layer returns (S.CallInd v callee args) (Stmt-F.CallInd v callee args) (S.rolls-CallInd v callee args)

pub piece_of_other : (returns : ℕ → Bool) (v : Option ℕ) (index : ℕ) (args : List Expr)
    → piece_of returns (S.Other v index args) ≡ single false (Do (S.Other v index args))
piece_of_other returns v index args =
    of_layer returns (S.Other v index args) (Stmt-F.Other v index args) (S.rolls-Other v index args)

pub piece_of_extra : (returns : ℕ → Bool) (v offset : ℕ)
    → piece_of returns (S.Extra v offset) ≡ single false (Do (S.Extra v offset))
piece_of_extra returns v offset = of_layer returns (S.Extra v offset) (Stmt-F.Extra v offset) (S.rolls-Extra v offset)

pub piece_of_divide : (returns : ℕ → Bool) (v : ℕ) (op : StatementDivision) (a b : Expr)
    → piece_of returns (S.Divide v op a b) ≡ single false (Do (S.Divide v op a b))
piece_of_divide returns v op a b =
    of_layer returns (S.Divide v op a b) (Stmt-F.Divide v op a b) (S.rolls-Divide v op a b)

pub piece_of_if : (returns : ℕ → Bool) (c : Expr) (body : List Stmt)
    → piece_of returns (S.If c body) ≡ piece_step returns (Stmt-F.If c (pieces_of returns body))
piece_of_if returns c body = of_layer returns (S.If c body) (Stmt-F.If c body) (S.rolls-If c body)

pub piece_of_if_else : (returns : ℕ → Bool) (c : Expr) (body other : List Stmt)
    → piece_of returns (S.IfElse c body other)
    ≡ piece_step returns (Stmt-F.IfElse c (pieces_of returns body) (pieces_of returns other))
piece_of_if_else returns c body other =
    of_layer returns (S.IfElse c body other) (Stmt-F.IfElse c body other) (S.rolls-IfElse c body other)

pub piece_of_while : (returns : ℕ → Bool) (c : Expr) (body : List Stmt)
    → piece_of returns (S.While c body) ≡ piece_step returns (Stmt-F.While c (pieces_of returns body))
piece_of_while returns c body = of_layer returns (S.While c body) (Stmt-F.While c body) (S.rolls-While c body)

pub piece_of_do_while : (returns : ℕ → Bool) (body : List Stmt) (c : Expr)
    → piece_of returns (S.DoWhile body c) ≡ piece_step returns (Stmt-F.DoWhile (pieces_of returns body) c)
piece_of_do_while returns body c = of_layer returns (S.DoWhile body c) (Stmt-F.DoWhile body c) (S.rolls-DoWhile body c)

pub piece_of_loop : (returns : ℕ → Bool) (body : List Stmt)
    → piece_of returns (S.Loop body) ≡ piece_step returns (Stmt-F.Loop (pieces_of returns body))
piece_of_loop returns body = of_layer returns (S.Loop body) (Stmt-F.Loop body) (S.rolls-Loop body)

pub piece_of_switch : (returns : ℕ → Bool) (e : Expr) (arms : List Arm)
    → piece_of returns (S.Switch e arms) ≡ piece_step returns (Stmt-F.Switch e (map (branch_of returns) arms))
piece_of_switch returns e arms = of_layer returns (S.Switch e arms) (Stmt-F.Switch e arms) (S.rolls-Switch e arms)

pub piece_of_goto : (returns : ℕ → Bool) (n : ℕ) → piece_of returns (S.Goto n) ≡ piece_step returns (Stmt-F.Goto n)
piece_of_goto returns n = of_layer returns (S.Goto n) (Stmt-F.Goto n) (S.rolls-Goto n)

pub piece_of_label : (returns : ℕ → Bool) (n : ℕ) → piece_of returns (S.Label n) ≡ piece_step returns (Stmt-F.Label n)
piece_of_label returns n = of_layer returns (S.Label n) (Stmt-F.Label n) (S.rolls-Label n)

pub piece_of_return : (returns : ℕ → Bool) (e : Option Expr)
    → piece_of returns (S.Return e) ≡ piece_step returns (Stmt-F.Return e)
piece_of_return returns e = of_layer returns (S.Return e) (Stmt-F.Return e) (S.rolls-Return e)

pub piece_of_break : (returns : ℕ → Bool) → piece_of returns S.Break ≡ piece_step returns Stmt-F.Break
piece_of_break returns = of_layer returns S.Break Stmt-F.Break S.rolls-Break

pub branch_is : (returns : ℕ → Bool) (a : Arm)
    → branch_of returns a ≡ record { cases = a.cases; body = pieces_of returns a.body }
unfolding branch_of piece_of
branch_is returns a = fold_out-Arm Piece Branch (piece_step returns) branch_step a
