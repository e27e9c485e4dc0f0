-- What a body mentions, in the order of its text, and how variables, callees and labels are numbered by it. This
-- project's own.
use Rattle.std.specs.Prelude.{ℕ, suc, ◌==◌, nat_lt, if◌then◌else◌, List, [], ◌∷◌, ◌++◌, map, Option, Some, None}
use Rattle.cmeaning.specs.declared.numbering.Next.{Next}
use Rattle.cmeaning.specs.declared.tree.CalleeDecl.{CalleeDecl}
use Rattle.cmeaning.specs.declared.tree.Expr.{Expr, fold-Expr}
use Rattle.cmeaning.specs.declared.tree.Expr.TheOpen.{Expr-F}
use Rattle.cmeaning.specs.declared.tree.Arm.{Arm}
use Rattle.cmeaning.specs.declared.tree.Stmt.{Stmt, fold-Stmt}
use Rattle.cmeaning.specs.declared.tree.Stmt.TheFolds.{fold-Arm}
use Rattle.cmeaning.specs.declared.tree.Stmt.TheOpen.{Stmt-F, Arm-F}

-- a variable by its number, a callee by its address, or the line of a label by its number
pub data Mention : Type 0 where
  Variable : ℕ → Mention
  Callee : ℕ → Mention
  LabelLine : ℕ → Mention

abbrev pub all : List (List Mention) → List Mention
all [] = []
all (xs ∷ rest) = xs ++ all rest

-- ---- the order of the text

abbrev pub expr_step : Expr-F (List Mention) → List Mention
expr_step (Expr-F.Const c) = []
expr_step (Expr-F.Var v) = Variable v ∷ []
expr_step (Expr-F.Unary op a) = a
expr_step (Expr-F.Arithmetic op a b) = a ++ b
expr_step (Expr-F.Division op a b) = a ++ b
expr_step (Expr-F.SignedDivision op a b) = a ++ b
expr_step (Expr-F.Shift op a b) = a ++ b
expr_step (Expr-F.Compare op a b) = a ++ b
expr_step (Expr-F.SignedCompare op a b) = a ++ b
expr_step (Expr-F.Extend op w a) = a
expr_step (Expr-F.Part dropped w a) = a
expr_step (Expr-F.Concat a b) = a ++ b
expr_step (Expr-F.Overflow op a b) = a ++ b
expr_step (Expr-F.Count op a) = a

unfoldable pub in_expr : Expr → List Mention
in_expr e = fold-Expr (List Mention) expr_step e

abbrev pub in_exprs : List Expr → List Mention
in_exprs [] = []
in_exprs (e ∷ es) = in_expr e ++ in_exprs es

abbrev pub in_option : Option Expr → List Mention
in_option None = []
in_option (Some e) = in_expr e

abbrev pub in_target : Option ℕ → List Mention
in_target None = []
in_target (Some v) = Variable v ∷ []

-- A target stands before its right side, and a do-while's condition after its body. A goto is no line of its label.
abbrev pub stmt_step : Stmt-F (List Mention) (List Mention) → List Mention
stmt_step (Stmt-F.Assign v e) = Variable v ∷ in_expr e
stmt_step (Stmt-F.Load v space address) = Variable v ∷ in_expr address
stmt_step (Stmt-F.Store space address e) = in_expr address ++ in_expr e
stmt_step (Stmt-F.Call v callee args) = in_target v ++ (Callee callee ∷ in_exprs args)
stmt_step (Stmt-F.CallInd v callee args) = in_target v ++ (in_expr callee ++ in_exprs args)
stmt_step (Stmt-F.Other v index args) = in_target v ++ in_exprs args
stmt_step (Stmt-F.Extra v offset) = Variable v ∷ []
stmt_step (Stmt-F.Divide v op a b) = Variable v ∷ (in_expr a ++ in_expr b)
stmt_step (Stmt-F.If c body) = in_expr c ++ all body
stmt_step (Stmt-F.IfElse c body other) = in_expr c ++ (all body ++ all other)
stmt_step (Stmt-F.While c body) = in_expr c ++ all body
stmt_step (Stmt-F.DoWhile body c) = all body ++ in_expr c
stmt_step (Stmt-F.Loop body) = all body
stmt_step Stmt-F.Break = []
stmt_step (Stmt-F.Switch e arms) = in_expr e ++ all arms
stmt_step (Stmt-F.Goto n) = []
stmt_step (Stmt-F.Label n) = LabelLine n ∷ []
stmt_step (Stmt-F.Return e) = in_option e

abbrev pub arm_step : Arm-F (List Mention) (List Mention) → List Mention
arm_step a = all a.body

unfoldable pub in_stmt : Stmt → List Mention
in_stmt s = fold-Stmt (List Mention) (List Mention) stmt_step arm_step s

unfoldable pub in_arm : Arm → List Mention
in_arm a = fold-Arm (List Mention) (List Mention) stmt_step arm_step a

abbrev pub in_arms : List Arm → List Mention
in_arms arms = all (map in_arm arms)

abbrev pub in_body : List Stmt → List Mention
in_body body = all (map in_stmt body)

-- ---- numbers by first appearance

-- how many callees are listed before that of an address; all of them where there is none
abbrev pub place_of : List CalleeDecl → ℕ → ℕ
place_of [] address = 0
place_of (c ∷ rest) address = if c.address == address then 0 else suc (place_of rest address)

-- the number that comes next after x is met: x was met before, or is the next one itself
abbrev pub met : ℕ → ℕ → Option ℕ
met next x = if nat_lt x next then Some next else (if x == next then Some (suc next) else None)

-- of what is met once
abbrev pub met_once : ℕ → ℕ → Option ℕ
met_once next x = if x == next then Some (suc next) else None

abbrev pub with_variable : Next → Option ℕ → Option Next
with_variable n None = None
with_variable n (Some v) = Some (record { variable = v; callee = n.callee; label = n.label })

abbrev pub with_callee : Next → Option ℕ → Option Next
with_callee n None = None
with_callee n (Some c) = Some (record { variable = n.variable; callee = c; label = n.label })

abbrev pub with_label : Next → Option ℕ → Option Next
with_label n None = None
with_label n (Some l) = Some (record { variable = n.variable; callee = n.callee; label = l })

abbrev pub mentioned : List CalleeDecl → Option Next → Mention → Option Next
mentioned callees None x = None
mentioned callees (Some n) (Variable v) = with_variable n (met n.variable v)
mentioned callees (Some n) (Callee address) = with_callee n (met n.callee (place_of callees address))
mentioned callees (Some n) (LabelLine l) = with_label n (met_once n.label l)

-- The next numbers after what is mentioned, in order; None where a variable or a callee is skipped, or a label isn't the
-- next one.
abbrev pub numbered : List CalleeDecl → List Mention → Option Next → Option Next
numbered callees [] n = n
numbered callees (x ∷ xs) n = numbered callees xs (mentioned callees n x)
