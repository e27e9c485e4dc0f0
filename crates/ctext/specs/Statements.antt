-- The text of a statement: its lines, each with its line feed. This project's own.
use Rattle.std.specs.Prelude.{ℕ, Bool, true, false, if◌then◌else◌, List, [], ◌∷◌, ◌++◌, map, codes, Option, Some, None}
use Rattle.std.specs.Fmt.{decimal}
use Rattle.cmeaning.specs.declared.tree.StatementDivision.{StatementDivision}
use Rattle.cmeaning.specs.declared.tree.StatementDivision.TheVariants as D
use Rattle.cmeaning.specs.declared.tree.Expr.{Expr}
use Rattle.cmeaning.specs.declared.tree.Arm.{Arm, Arm-F, fold-Arm}
use Rattle.cmeaning.specs.declared.tree.Stmt.{Stmt, fold-Stmt}
use Rattle.cmeaning.specs.declared.tree.Stmt.TheOpen.{Stmt-F}
use Rattle.cmeaning.specs.Callees.{declared_in, returns_by}
use Rattle.cmeaning.specs.Leaves.{leaves_step, ends_in_break}
use Rattle.ctext.specs.Names.{Scope, Variable, variable, hex, unsigned_type, separated, further, name_at}
use Rattle.ctext.specs.Expressions.{Form, form, call_of_two}

-- A statement's text behind the spaces of its first line, from the spaces before each of its outer lines; and whether
-- nothing behind it in its body is reached.
pub record Lines : Type 0 where
  pub text : List ℕ → List ℕ
  pub leaves : Bool

-- the spaces one level deeper
abbrev pub deeper : List ℕ → List ℕ
deeper d = codes "  " ++ d

-- the text of statements in a row
abbrev pub all_lines : List Lines → List ℕ → List ℕ
all_lines [] d = []
all_lines (l ∷ ls) d = d ++ (l.text d ++ all_lines ls d)

-- ---- simple statements

-- `v = `, or nothing without a target
abbrev pub target_text : Scope → Option ℕ → List ℕ
target_text sc None = []
target_text sc (Some v) = (variable sc v).name ++ codes " = "

-- the width in bytes of what a call gives: that of its target, or 0 without one
abbrev pub target_width : Scope → Option ℕ → ℕ
target_width sc None = 0
target_width sc (Some v) = (variable sc v).width

-- what is assigned to a variable: signed where it is
abbrev pub assigned : Variable → Form → List ℕ
assigned v e = if v.signed then e.signed else e.plain

-- so many bytes of the first ram space, or of the ram space with this name
abbrev pub access_text : Option (List ℕ) → ℕ → Form → List ℕ
access_text None w a = codes "*(" ++ (unsigned_type w ++ (codes " *)(" ++ (a.plain ++ codes ")")))
access_text (Some name) w a = codes "MEM"
    ++ (decimal w ++ (codes "(" ++ (name ++ (codes ", " ++ (a.plain ++ codes ")")))))

abbrev pub plain_texts : Scope → List Expr → List (List ℕ)
plain_texts sc es = map (λ e. (form sc e).plain) es

abbrev pub division_word : StatementDivision → List ℕ
division_word D.Div = codes "DIV"
division_word D.SDiv = codes "SDIV"
division_word D.Rem = codes "REM"
division_word D.SRem = codes "SREM"

abbrev pub return_text : Scope → Option Expr → List ℕ
return_text sc None = codes "return;\n"
return_text sc (Some e) = codes "return " ++ ((form sc e).plain ++ codes ";\n")

abbrev pub load_text : Scope → ℕ → Option (List ℕ) → Expr → List ℕ
load_text sc v space a = (variable sc v).name
    ++ (codes " = " ++ (access_text space (variable sc v).width (form sc a) ++ codes ";\n"))

abbrev pub store_text : Scope → Option (List ℕ) → Expr → Expr → List ℕ
store_text sc space a e = access_text space (form sc e).width (form sc a)
    ++ (codes " = " ++ ((form sc e).plain ++ codes ";\n"))

abbrev pub assign_text : Scope → ℕ → Expr → List ℕ
assign_text sc v e = (variable sc v).name ++ (codes " = " ++ (assigned (variable sc v) (form sc e) ++ codes ";\n"))

abbrev pub call_text : Scope → Option ℕ → ℕ → List Expr → List ℕ
call_text sc v address es = target_text sc v
    ++ (name_at (declared_in sc.callees address) ++ (codes "(" ++ (separated (plain_texts sc es) ++ codes ");\n")))

abbrev pub call_ind_text : Scope → Option ℕ → Expr → List Expr → List ℕ
call_ind_text sc v e es = target_text sc v
    ++ (codes "CALLIND" ++ (decimal (target_width sc v)
    ++ (codes "(" ++ ((form sc e).plain ++ (further (plain_texts sc es) ++ codes ");\n")))))

abbrev pub other_text : Scope → Option ℕ → ℕ → List Expr → List ℕ
other_text sc v index es = target_text sc v
    ++ (codes "OTHER" ++ (decimal (target_width sc v)
    ++ (codes "(0x" ++ (hex index ++ (further (plain_texts sc es) ++ codes ");\n")))))

abbrev pub extra_text : Scope → ℕ → ℕ → List ℕ
extra_text sc v offset = target_text sc (Some v)
    ++ (codes "EXTRAOUT" ++ (decimal (target_width sc (Some v)) ++ (codes "(0x" ++ (hex offset ++ codes ");\n"))))

abbrev pub divide_text : Scope → ℕ → StatementDivision → Expr → Expr → List ℕ
divide_text sc v op a b = target_text sc (Some v)
    ++ (call_of_two (division_word op) (form sc a) (form sc b) ++ codes ";\n")

-- ---- statements with bodies

-- a word, a condition, and the body
abbrev pub block_text : List ℕ → Form → List Lines → List ℕ → List ℕ
block_text word e body d = word ++ (e.test ++ (codes ") {\n" ++ (all_lines body (deeper d) ++ (d ++ codes "}\n"))))

abbrev pub if_else_text : Form → List Lines → List Lines → List ℕ → List ℕ
if_else_text e body other d = codes "if ("
    ++ (e.test ++ (codes ") {\n" ++ (all_lines body (deeper d)
    ++ (d ++ (codes "} else {\n" ++ (all_lines other (deeper d) ++ (d ++ codes "}\n")))))))

abbrev pub do_while_text : List Lines → Form → List ℕ → List ℕ
do_while_text body e d = codes "do {\n"
    ++ (all_lines body (deeper d) ++ (d ++ (codes "} while (" ++ (e.test ++ codes ");\n"))))

unfoldable pub loop_head : List ℕ
loop_head = codes "while (1) {\n"

abbrev pub loop_text : List Lines → List ℕ → List ℕ
loop_text body d = loop_head ++ (all_lines body (deeper d) ++ (d ++ codes "}\n"))

abbrev pub case_lines : List ℕ → List ℕ → List ℕ
case_lines [] d = []
case_lines (n ∷ ns) d = d ++ (codes "case 0x" ++ (hex n ++ (codes ":\n" ++ case_lines ns d)))

-- the switch's own break, where the arm ends in one
abbrev pub break_line : Bool → List ℕ → List ℕ
break_line true d = d ++ codes "break;\n"
break_line false d = []

abbrev pub breaks : List Lines → Bool
breaks body = ends_in_break (λ (l : Lines). l.leaves) body

-- one arm: its case lines, and its body one level deeper
abbrev pub arm_step : Arm-F Lines (List ℕ → List ℕ) → List ℕ → List ℕ
arm_step arm d = case_lines arm.cases d ++ (all_lines arm.body (deeper d) ++ break_line (breaks arm.body) (deeper d))

abbrev pub all_arms : List (List ℕ → List ℕ) → List ℕ → List ℕ
all_arms [] d = []
all_arms (a ∷ arms) d = a d ++ all_arms arms d

abbrev pub switch_text : Form → List (List ℕ → List ℕ) → List ℕ → List ℕ
switch_text e arms d = codes "switch (" ++ (e.plain ++ (codes ") {\n" ++ (all_arms arms d ++ (d ++ codes "}\n"))))

-- a statement of one line
abbrev pub single : List ℕ → List ℕ → List ℕ
single t d = t

-- the text of one statement from those of the statements inside it
abbrev pub text_step : Scope → Stmt-F Lines (List ℕ → List ℕ) → List ℕ → List ℕ
text_step sc (Stmt-F.Assign v e) = single (assign_text sc v e)
text_step sc (Stmt-F.Load v space a) = single (load_text sc v space a)
text_step sc (Stmt-F.Store space a e) = single (store_text sc space a e)
text_step sc (Stmt-F.Call v address es) = single (call_text sc v address es)
text_step sc (Stmt-F.CallInd v e es) = single (call_ind_text sc v e es)
text_step sc (Stmt-F.Other v index es) = single (other_text sc v index es)
text_step sc (Stmt-F.Extra v offset) = single (extra_text sc v offset)
text_step sc (Stmt-F.Divide v op a b) = single (divide_text sc v op a b)
text_step sc (Stmt-F.If e body) = block_text (codes "if (") (form sc e) body
text_step sc (Stmt-F.IfElse e body other) = if_else_text (form sc e) body other
text_step sc (Stmt-F.While e body) = block_text (codes "while (") (form sc e) body
text_step sc (Stmt-F.DoWhile body e) = do_while_text body (form sc e)
text_step sc (Stmt-F.Loop body) = loop_text body
text_step sc Stmt-F.Break = single (codes "break;\n")
text_step sc (Stmt-F.Switch e arms) = switch_text (form sc e) arms
text_step sc (Stmt-F.Goto label) = single (codes "goto L" ++ (decimal label ++ codes ";\n"))
text_step sc (Stmt-F.Label label) = single (codes "L" ++ (decimal label ++ codes ":\n"))
text_step sc (Stmt-F.Return e) = single (return_text sc e)

abbrev pub lines_step : Scope → Stmt-F Lines (List ℕ → List ℕ) → Lines
lines_step sc s = record { text = text_step sc s; leaves = leaves_step (returns_by sc.callees) s }

unfoldable pub lines : Scope → Stmt → Lines
lines sc s = fold-Stmt Lines (List ℕ → List ℕ) (lines_step sc) arm_step s

-- the text of statements in a row
unfoldable pub body_text : Scope → List Stmt → List ℕ → List ℕ
body_text sc body d = all_lines (map (lines sc) body) d

-- whether an arm of these statements ends in a break
unfoldable pub body_breaks : Scope → List Stmt → Bool
body_breaks sc body = breaks (map (lines sc) body)

-- the text of an arm
unfoldable pub arm_text : Scope → Arm → List ℕ → List ℕ
arm_text sc arm = fold-Arm Lines (List ℕ → List ℕ) (lines_step sc) arm_step arm

-- the text of arms in a row
unfoldable pub arms_text : Scope → List Arm → List ℕ → List ℕ
arms_text sc arms d = all_arms (map (arm_text sc) arms) d
