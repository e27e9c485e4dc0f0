-- Numbering by what is mentioned.
use Rattle.std.proofs.Common.{◌≡◌, ℕ, ◌+◌, ◌<◌, List, [], ◌∷◌, ◌++◌, length, drop, Option, refl, sym, ap, ◌∙◌, append_assoc}
use Rattle.std.proofs.Math.ListN.{get_or}
use Rattle.std.proofs.lemmas.List.{at_drop_more}
use Rattle.cmeaning.specs.declared.numbering.Next.{Next}
use Rattle.cmeaning.specs.declared.tree.ArithmeticOp.{ArithmeticOp}
use Rattle.cmeaning.specs.declared.tree.DivisionOp.{DivisionOp}
use Rattle.cmeaning.specs.declared.tree.SignedDivisionOp.{SignedDivisionOp}
use Rattle.cmeaning.specs.declared.tree.ShiftOp.{ShiftOp}
use Rattle.cmeaning.specs.declared.tree.CompareOp.{CompareOp}
use Rattle.cmeaning.specs.declared.tree.SignedCompareOp.{SignedCompareOp}
use Rattle.cmeaning.specs.declared.tree.OverflowOp.{OverflowOp}
use Rattle.cmeaning.specs.declared.tree.Expr.{Expr, fold-roll-Expr, roll-Expr, map-Expr}
use Rattle.cmeaning.specs.declared.tree.Expr.TheOpen.{Expr-F}
use Rattle.cmeaning.specs.declared.tree.Expr.TheVariants as E
use Rattle.cmeaning.specs.declared.tree.StatementDivision.{StatementDivision}
use Rattle.cmeaning.specs.declared.tree.Arm.{Arm}
use Rattle.cmeaning.specs.declared.tree.Stmt.TheFolds.{fold_out-Arm}
use Rattle.cmeaning.specs.declared.tree.Stmt.{Stmt, fold-roll-Stmt, roll-Stmt, map-Stmt}
use Rattle.cmeaning.specs.declared.tree.Stmt.TheOpen.{Stmt-F}
use Rattle.cmeaning.specs.declared.tree.Stmt.TheVariants as S
use Rattle.cmeaning.specs.declared.tree.CalleeDecl.{CalleeDecl}
use Rattle.cmeaning.specs.Mentions.{Mention, Callee, LabelLine, Variable, mentioned, numbered, expr_step, in_expr, in_exprs, in_target, stmt_step, arm_step, in_stmt, in_arm, in_arms, in_body}

pub in_append : (xs ys : List Stmt) → in_body (xs ++ ys) ≡ in_body xs ++ in_body ys
in_append [] ys = refl
in_append (x ∷ xs) ys = ap (λ l. in_stmt x ++ l) (in_append xs ys)
    ∙ sym (append_assoc (in_stmt x) (in_body xs) (in_body ys))

pub numbered_append : (callees : List CalleeDecl) (xs ys : List Mention) (n : Option Next)
    → numbered callees (xs ++ ys) n ≡ numbered callees ys (numbered callees xs n)
numbered_append callees [] ys n = refl
numbered_append callees (x ∷ xs) ys n = numbered_append callees xs ys (mentioned callees n x)

-- an expression that is a layer
pub in_layer : (e : Expr) (l : Expr-F Expr)
    → roll-Expr l ≡ e
    → in_expr e ≡ expr_step (map-Expr Expr (List Mention) in_expr l)
unfolding in_expr
in_layer e l is = ap in_expr (sym is) ∙ fold-roll-Expr (List Mention) expr_step l

of_two : (callees : List CalleeDecl) (e a b : Expr) (n : Option Next)
    → in_expr e ≡ in_expr a ++ in_expr b
    → numbered callees (in_expr e) n ≡ numbered callees (in_expr b) (numbered callees (in_expr a) n)
of_two callees e a b n is = ap (λ xs. numbered callees xs n) is ∙ numbered_append callees (in_expr a) (in_expr b) n

pub numbered_arithmetic : (callees : List CalleeDecl) (next : Option Next) (op : ArithmeticOp) (a b : Expr)
    → numbered callees (in_expr (E.Arithmetic op a b)) next
    ≡ numbered callees (in_expr b) (numbered callees (in_expr a) next)
numbered_arithmetic callees next op a b =
    of_two callees (E.Arithmetic op a b) a b next
    (in_layer (E.Arithmetic op a b) (Expr-F.Arithmetic op a b) (E.rolls-Arithmetic op a b))

pub numbered_division : (callees : List CalleeDecl) (next : Option Next) (op : DivisionOp) (a b : Expr)
    → numbered callees (in_expr (E.Division op a b)) next
    ≡ numbered callees (in_expr b) (numbered callees (in_expr a) next)
numbered_division callees next op a b =
    of_two callees (E.Division op a b) a b next
    (in_layer (E.Division op a b) (Expr-F.Division op a b) (E.rolls-Division op a b))

pub numbered_signed_division : (callees : List CalleeDecl) (next : Option Next) (op : SignedDivisionOp) (a b : Expr)
    → numbered callees (in_expr (E.SignedDivision op a b)) next
    ≡ numbered callees (in_expr b) (numbered callees (in_expr a) next)
numbered_signed_division callees next op a b =
    of_two callees (E.SignedDivision op a b) a b next
    (in_layer (E.SignedDivision op a b) (Expr-F.SignedDivision op a b) (E.rolls-SignedDivision op a b))

pub numbered_shift : (callees : List CalleeDecl) (next : Option Next) (op : ShiftOp) (a b : Expr)
    → numbered callees (in_expr (E.Shift op a b)) next
    ≡ numbered callees (in_expr b) (numbered callees (in_expr a) next)
numbered_shift callees next op a b =
    of_two callees (E.Shift op a b) a b next (in_layer (E.Shift op a b) (Expr-F.Shift op a b) (E.rolls-Shift op a b))

pub numbered_compare : (callees : List CalleeDecl) (next : Option Next) (op : CompareOp) (a b : Expr)
    → numbered callees (in_expr (E.Compare op a b)) next
    ≡ numbered callees (in_expr b) (numbered callees (in_expr a) next)
numbered_compare callees next op a b =
    of_two callees (E.Compare op a b) a b next
    (in_layer (E.Compare op a b) (Expr-F.Compare op a b) (E.rolls-Compare op a b))

pub numbered_signed_compare : (callees : List CalleeDecl) (next : Option Next) (op : SignedCompareOp) (a b : Expr)
    → numbered callees (in_expr (E.SignedCompare op a b)) next
    ≡ numbered callees (in_expr b) (numbered callees (in_expr a) next)
numbered_signed_compare callees next op a b =
    of_two callees (E.SignedCompare op a b) a b next
    (in_layer (E.SignedCompare op a b) (Expr-F.SignedCompare op a b) (E.rolls-SignedCompare op a b))

pub numbered_concat : (callees : List CalleeDecl) (next : Option Next) (a b : Expr)
    → numbered callees (in_expr (E.Concat a b)) next ≡ numbered callees (in_expr b) (numbered callees (in_expr a) next)
numbered_concat callees next a b =
    of_two callees (E.Concat a b) a b next (in_layer (E.Concat a b) (Expr-F.Concat a b) (E.rolls-Concat a b))

pub numbered_overflow : (callees : List CalleeDecl) (next : Option Next) (op : OverflowOp) (a b : Expr)
    → numbered callees (in_expr (E.Overflow op a b)) next
    ≡ numbered callees (in_expr b) (numbered callees (in_expr a) next)
numbered_overflow callees next op a b =
    of_two callees (E.Overflow op a b) a b next
    (in_layer (E.Overflow op a b) (Expr-F.Overflow op a b) (E.rolls-Overflow op a b))

-- a statement that is a layer
pub in_statement : (s : Stmt) (l : Stmt-F Stmt Arm)
    → roll-Stmt l ≡ s
    → in_stmt s ≡ stmt_step (map-Stmt Stmt Arm (List Mention) (List Mention) in_stmt in_arm l)
unfolding in_stmt in_arm
in_statement s l is = ap in_stmt (sym is) ∙ fold-roll-Stmt (List Mention) (List Mention) stmt_step arm_step l

-- a statement that mentions first xs and then ys
of_parts : (callees : List CalleeDecl) (s : Stmt) (xs ys : List Mention) (n : Option Next)
    → in_stmt s ≡ xs ++ ys
    → numbered callees (in_stmt s) n ≡ numbered callees ys (numbered callees xs n)
of_parts callees s xs ys n is = ap (λ zs. numbered callees zs n) is ∙ numbered_append callees xs ys n

of_three : (callees : List CalleeDecl) (s : Stmt) (xs ys zs : List Mention) (n : Option Next)
    → in_stmt s ≡ xs ++ (ys ++ zs)
    → numbered callees (in_stmt s) n ≡ numbered callees zs (numbered callees ys (numbered callees xs n))
of_three callees s xs ys zs n is = of_parts callees s xs (ys ++ zs) n is
    ∙ numbered_append callees ys zs (numbered callees xs n)

pub numbered_assign : (callees : List CalleeDecl) (next : Option Next) (v : ℕ) (e : Expr)
    → numbered callees (in_stmt (S.Assign v e)) next
    ≡ numbered callees (in_expr e) (mentioned callees next (Variable v))
numbered_assign callees next v e =
    of_parts callees (S.Assign v e) (Variable v ∷ []) (in_expr e) next
    (in_statement (S.Assign v e) (Stmt-F.Assign v e) (S.rolls-Assign v e))

pub numbered_load : (callees : List CalleeDecl) (next : Option Next) (v : ℕ) (space : Option (List ℕ)) (e : Expr)
    → numbered callees (in_stmt (S.Load v space e)) next
    ≡ numbered callees (in_expr e) (mentioned callees next (Variable v))
numbered_load callees next v space e =
    of_parts callees (S.Load v space e) (Variable v ∷ []) (in_expr e) next
    (in_statement (S.Load v space e) (Stmt-F.Load v space e) (S.rolls-Load v space e))

pub numbered_store : (callees : List CalleeDecl) (next : Option Next) (space : Option (List ℕ)) (a e : Expr)
    → numbered callees (in_stmt (S.Store space a e)) next
    ≡ numbered callees (in_expr e) (numbered callees (in_expr a) next)
numbered_store callees next space a e =
    of_parts callees (S.Store space a e) (in_expr a) (in_expr e) next
    (in_statement (S.Store space a e) (Stmt-F.Store space a e) (S.rolls-Store space a e))

pub numbered_call : (callees : List CalleeDecl) (next : Option Next) (v : Option ℕ) (callee : ℕ) (args : List Expr)
    → numbered callees (in_stmt (S.Call v callee args)) next
    ≡ numbered callees (in_exprs args) (mentioned callees (numbered callees (in_target v) next) (Callee callee))
numbered_call callees next v callee args =
    of_three callees (S.Call v callee args) (in_target v) (Callee callee ∷ []) (in_exprs args) next
    (in_statement (S.Call v callee args) (Stmt-F.Call v callee args) (S.rolls-Call v callee args))

pub numbered_call_ind : (callees : List CalleeDecl) (next : Option Next) (v : Option ℕ) (callee : Expr)
    (args : List Expr)
    → numbered callees (in_stmt (S.CallInd v callee args)) next
    ≡ numbered callees (in_exprs args) (numbered callees (in_expr callee) (numbered callees (in_target v) next))
numbered_call_ind callees next v callee args =
    of_three callees (S.CallInd v callee args) (in_target v) (in_expr callee) (in_exprs args) next
    (in_statement (S.CallInd v callee args) (Stmt-F.CallInd v callee args) (S.rolls-CallInd v callee args))

pub numbered_other : (callees : List CalleeDecl) (next : Option Next) (v : Option ℕ) (index : ℕ) (args : List Expr)
    → numbered callees (in_stmt (S.Other v index args)) next
    ≡ numbered callees (in_exprs args) (numbered callees (in_target v) next)
numbered_other callees next v index args =
    of_parts callees (S.Other v index args) (in_target v) (in_exprs args) next
    (in_statement (S.Other v index args) (Stmt-F.Other v index args) (S.rolls-Other v index args))

pub numbered_divide : (callees : List CalleeDecl) (next : Option Next) (v : ℕ) (op : StatementDivision) (a b : Expr)
    → numbered callees (in_stmt (S.Divide v op a b)) next
    ≡ numbered callees (in_expr b) (numbered callees (in_expr a) (mentioned callees next (Variable v)))
numbered_divide callees next v op a b =
    of_three callees (S.Divide v op a b) (Variable v ∷ []) (in_expr a) (in_expr b) next
    (in_statement (S.Divide v op a b) (Stmt-F.Divide v op a b) (S.rolls-Divide v op a b))

pub numbered_if : (callees : List CalleeDecl) (next : Option Next) (c : Expr) (body : List Stmt)
    → numbered callees (in_stmt (S.If c body)) next
    ≡ numbered callees (in_body body) (numbered callees (in_expr c) next)
numbered_if callees next c body =
    of_parts callees (S.If c body) (in_expr c) (in_body body) next
    (in_statement (S.If c body) (Stmt-F.If c body) (S.rolls-If c body))

pub numbered_if_else : (callees : List CalleeDecl) (next : Option Next) (c : Expr) (body other : List Stmt)
    → numbered callees (in_stmt (S.IfElse c body other)) next
    ≡ numbered callees (in_body other) (numbered callees (in_body body) (numbered callees (in_expr c) next))
numbered_if_else callees next c body other =
    of_three callees (S.IfElse c body other) (in_expr c) (in_body body) (in_body other) next
    (in_statement (S.IfElse c body other) (Stmt-F.IfElse c body other) (S.rolls-IfElse c body other))

pub numbered_while : (callees : List CalleeDecl) (next : Option Next) (c : Expr) (body : List Stmt)
    → numbered callees (in_stmt (S.While c body)) next
    ≡ numbered callees (in_body body) (numbered callees (in_expr c) next)
numbered_while callees next c body =
    of_parts callees (S.While c body) (in_expr c) (in_body body) next
    (in_statement (S.While c body) (Stmt-F.While c body) (S.rolls-While c body))

pub numbered_do_while : (callees : List CalleeDecl) (next : Option Next) (body : List Stmt) (c : Expr)
    → numbered callees (in_stmt (S.DoWhile body c)) next
    ≡ numbered callees (in_expr c) (numbered callees (in_body body) next)
numbered_do_while callees next body c =
    of_parts callees (S.DoWhile body c) (in_body body) (in_expr c) next
    (in_statement (S.DoWhile body c) (Stmt-F.DoWhile body c) (S.rolls-DoWhile body c))

pub numbered_switch : (callees : List CalleeDecl) (next : Option Next) (e : Expr) (arms : List Arm)
    → numbered callees (in_stmt (S.Switch e arms)) next
    ≡ numbered callees (in_arms arms) (numbered callees (in_expr e) next)
numbered_switch callees next e arms =
    of_parts callees (S.Switch e arms) (in_expr e) (in_arms arms) next
    (in_statement (S.Switch e arms) (Stmt-F.Switch e arms) (S.rolls-Switch e arms))

pub in_goto : (n : ℕ) → in_stmt (S.Goto n) ≡ []
in_goto n = in_statement (S.Goto n) (Stmt-F.Goto n) (S.rolls-Goto n)

pub in_label : (n : ℕ) → in_stmt (S.Label n) ≡ LabelLine n ∷ []
in_label n = in_statement (S.Label n) (Stmt-F.Label n) (S.rolls-Label n)

pub in_arm_body : (a : Arm) → in_arm a ≡ in_body a.body
unfolding in_arm in_stmt
in_arm_body a = fold_out-Arm (List Mention) (List Mention) stmt_step arm_step a

-- the turn of a loop over things that mention something, one after another
pub turn : {X : Type 0} (part : X → List Mention) (parts : List X → List Mention)
    → ((x : X) (xs : List X) → parts (x ∷ xs) ≡ part x ++ parts xs)
    → (callees : List CalleeDecl) (xs : List X) (i : ℕ) (x : X) (n m whole : Option Next) → i < length xs → x
    ≡ get_or xs i x
    → numbered callees (parts (drop i xs)) n ≡ whole → m
    ≡ numbered callees (part x) n → numbered callees (parts (drop (i + 1) xs)) m ≡ whole
turn part parts cons callees xs i x n m whole within is before after =
    ap (numbered callees (parts (drop (i + 1) xs))) after
    ∙ sym (numbered_append callees (part x) (parts (drop (i + 1) xs)) n)
    ∙ ap (λ ys. numbered callees ys n)
    (sym (cons x (drop (i + 1) xs)) ∙ ap (λ y. parts (y ∷ drop (i + 1) xs)) is
    ∙ sym (at_drop_more parts xs i x within))
    ∙ before
