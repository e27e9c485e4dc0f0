-- Reading statements.
use Rattle.std.specs.Prelude.{ℕ, zero, suc, ◌%◌, ◌^◌, Bool, true, false, if◌then◌else◌, List, [], length, codes, Option, Some, None}
use Rattle.cmeaning.specs.declared.tree.StatementDivision.{StatementDivision}
use Rattle.cmeaning.specs.declared.tree.StatementDivision.TheVariants as D
use Rattle.cmeaning.specs.declared.tree.Expr.{Expr}
use Rattle.cmeaning.specs.declared.tree.Arm.{Arm}
use Rattle.cmeaning.specs.declared.tree.Stmt.{Stmt}
use Rattle.cmeaning.specs.declared.tree.Stmt.TheVariants as s
use Rattle.ctext.specs.Names.{Scope}
use Rattle.ctext.specs.Statements.{loop_head}
use Rattle.cread.specs.declared.item.Access.{Access}
use Rattle.cread.specs.declared.item.Line.{Line}
use Rattle.cread.specs.declared.item.Line.TheVariants as L
use Rattle.cread.specs.declared.item.Right.{Right}
use Rattle.cread.specs.declared.item.Right.TheVariants as R
use Rattle.cread.specs.Words.{◌>>=◌, after, ended, chosen, or_else, past_spaces, name_at, decimal_at, hex_at, put_first, many_by}
use Rattle.cread.specs.Names.{address_of, variable_at}
use Rattle.cread.specs.Expressions.{expr_at, expr_to}

-- ---- words

-- of a statement without a body
unfoldable pub plain_line_at : List ℕ → Option (Line × List ℕ)
plain_line_at bytes =
    chosen (after (codes "break;\n") bytes) (λ rest. Some (L.Break, rest))
    (chosen (after (codes "goto L") bytes) (λ rest. Some (L.Goto, rest))
    (chosen (after (codes "return;\n") bytes) (λ rest. Some (L.Return, rest))
    (chosen (after (codes "return ") bytes) (λ rest. Some (L.Give, rest))
    (chosen (after (codes "L") bytes) (λ rest. Some (L.Label, rest))
    None))))

-- at the beginning of a statement
unfoldable pub line_at : List ℕ → Option (Line × List ℕ)
line_at bytes =
    chosen (after (codes "if (") bytes) (λ rest. Some (L.If, rest))
    (chosen (after loop_head bytes) (λ rest. Some (L.Loop, rest))
    (chosen (after (codes "while (") bytes) (λ rest. Some (L.While, rest))
    (chosen (after (codes "do {\n") bytes) (λ rest. Some (L.Do, rest))
    (chosen (after (codes "switch (") bytes) (λ rest. Some (L.Switch, rest))
    (plain_line_at bytes)))))

-- of a division
unfoldable pub division_at : List ℕ → Option (Right × List ℕ)
division_at bytes =
    chosen (after (codes "DIV(") bytes) (λ rest. Some (R.Divide D.Div, rest))
    (chosen (after (codes "SDIV(") bytes) (λ rest. Some (R.Divide D.SDiv, rest))
    (chosen (after (codes "REM(") bytes) (λ rest. Some (R.Divide D.Rem, rest))
    (chosen (after (codes "SREM(") bytes) (λ rest. Some (R.Divide D.SRem, rest))
    None)))

-- of a memory access, a call or a division, which stands behind a target or alone
unfoldable pub right_at : List ℕ → Option (Right × List ℕ)
right_at bytes =
    chosen (after (codes "*(u") bytes) (λ rest. Some (R.Pointed, rest))
    (chosen (after (codes "MEM") bytes) (λ rest. Some (R.Memory, rest))
    (chosen (after (codes "f_") bytes) (λ rest. Some (R.Named, rest))
    (chosen (after (codes "g_") bytes) (λ rest. Some (R.Bare, rest))
    (chosen (after (codes "CALLIND") bytes) (λ rest. Some (R.Indirect, rest))
    (chosen (after (codes "OTHER") bytes) (λ rest. Some (R.Other, rest))
    (chosen (after (codes "EXTRAOUT") bytes) (λ rest. Some (R.Extra, rest))
    (division_at bytes)))))))

-- ---- parts of statements

abbrev pub value_at : Scope → List ℕ → Option (Expr × List ℕ)
value_at sc bytes = expr_to sc (codes ";\n") bytes

unfoldable pub further_item : Scope → List ℕ → Option (Expr × List ℕ)
further_item sc bytes = after (codes ", ") bytes >>= expr_at sc

-- each behind a comma
abbrev pub further_at : Scope → List ℕ → List Expr × List ℕ
further_at sc bytes = many_by (further_item sc) (length bytes) bytes

unfoldable pub args_at : Scope → List ℕ → Option (List Expr × List ℕ)
args_at sc bytes = chosen (after (codes ")") bytes) (λ rest. Some ([], bytes))
    (expr_at sc bytes >>= λ e. Some (put_first e.0 (further_at sc e.1)))

abbrev pub access_of : Option (List ℕ) → Expr → Access
access_of space e = record { space = space; address = e }

abbrev pub pointed_by : Scope → ℕ × List ℕ → Option (Access × List ℕ)
pointed_by sc w = after (codes " *)(") w.1 >>= expr_to sc (codes ")") >>= λ a. Some (access_of None a.0, a.1)

abbrev pub space_by : Scope → List ℕ × List ℕ → Option (Access × List ℕ)
space_by sc n = after (codes ", ") n.1 >>= expr_to sc (codes ")") >>= λ a. Some (access_of (Some n.0) a.0, a.1)

abbrev pub memory_by : Scope → ℕ × List ℕ → Option (Access × List ℕ)
memory_by sc w = after (codes "(") w.1 >>= λ r. space_by sc (name_at r)

unfoldable pub pointed_at : Scope → List ℕ → Option (Access × List ℕ)
pointed_at sc bytes = pointed_by sc (decimal_at bytes)

unfoldable pub memory_at : Scope → List ℕ → Option (Access × List ℕ)
memory_at sc bytes = memory_by sc (decimal_at bytes)

-- ---- calls and divisions

abbrev pub with_args : Scope → Option ℕ → ℕ → List ℕ → Option (Stmt × List ℕ)
with_args sc v address bytes = after (codes "(") bytes >>= args_at sc >>= ended (codes ");\n")
    >>= λ es. Some (s.Call v address es.0, es.1)

abbrev pub named_by : Scope → Option ℕ → List ℕ × List ℕ → Option (Stmt × List ℕ)
named_by sc v n = address_of n.0 sc.callees >>= λ address. with_args sc v address n.1

unfoldable pub named_call : Scope → Option ℕ → List ℕ → Option (Stmt × List ℕ)
named_call sc v bytes = named_by sc v (name_at bytes)

abbrev pub bare_by : Scope → Option ℕ → ℕ × List ℕ → Option (Stmt × List ℕ)
bare_by sc v n = with_args sc v (n.0 % 2 ^ 64) n.1

unfoldable pub bare_call : Scope → Option ℕ → List ℕ → Option (Stmt × List ℕ)
bare_call sc v bytes = bare_by sc v (hex_at bytes)

-- further arguments up to the end of the line
abbrev pub listed_at : Scope → List ℕ → Option (List Expr × List ℕ)
listed_at sc bytes = ended (codes ");\n") (further_at sc bytes)

abbrev pub indirect_by : Scope → Option ℕ → ℕ × List ℕ → Option (Stmt × List ℕ)
indirect_by sc v w = after (codes "(") w.1 >>= expr_at sc >>= λ e. listed_at sc e.1
    >>= λ es. Some (s.CallInd v e.0 es.0, es.1)

unfoldable pub indirect_call : Scope → Option ℕ → List ℕ → Option (Stmt × List ℕ)
indirect_call sc v bytes = indirect_by sc v (decimal_at bytes)

abbrev pub other_index : Scope → Option ℕ → ℕ × List ℕ → Option (Stmt × List ℕ)
other_index sc v n = listed_at sc n.1 >>= λ es. Some (s.Other v (n.0 % 2 ^ 64) es.0, es.1)

abbrev pub other_by : Scope → Option ℕ → ℕ × List ℕ → Option (Stmt × List ℕ)
other_by sc v w = after (codes "(0x") w.1 >>= λ r. other_index sc v (hex_at r)

unfoldable pub other_call : Scope → Option ℕ → List ℕ → Option (Stmt × List ℕ)
other_call sc v bytes = other_by sc v (decimal_at bytes)

abbrev pub extra_end : ℕ → ℕ × List ℕ → Option (Stmt × List ℕ)
extra_end v n = after (codes ");\n") n.1 >>= λ rest. Some (s.Extra v (n.0 % 2 ^ 64), rest)

abbrev pub extra_by : ℕ → ℕ × List ℕ → Option (Stmt × List ℕ)
extra_by v w = after (codes "(0x") w.1 >>= λ r. extra_end v (hex_at r)

unfoldable pub extra_at : Option ℕ → List ℕ → Option (Stmt × List ℕ)
extra_at v bytes = v >>= λ v. extra_by v (decimal_at bytes)

unfoldable pub divide_at : Scope → Option ℕ → StatementDivision → List ℕ → Option (Stmt × List ℕ)
divide_at sc v op bytes = v >>= λ v. expr_to sc (codes ", ") bytes >>= λ a. expr_to sc (codes ");\n") a.1
    >>= λ b. Some (s.Divide v op a.0 b.0, b.1)

-- a load or a store
abbrev pub loaded : Option ℕ → Access × List ℕ → Scope → Option (Stmt × List ℕ)
loaded None a sc = ended (codes " = ") a >>= λ a. value_at sc a.1 >>= λ e. Some (s.Store a.0.space a.0.address e.0, e.1)
loaded (Some v) a sc = ended (codes ";\n") a >>= λ a. Some (s.Load v a.0.space a.0.address, a.1)

-- behind the word, and behind a target or without one
unfoldable pub right_by : Scope → Option ℕ → Right → List ℕ → Option (Stmt × List ℕ)
right_by sc v R.Pointed bytes = pointed_at sc bytes >>= λ a. loaded v a sc
right_by sc v R.Memory bytes = memory_at sc bytes >>= λ a. loaded v a sc
right_by sc v R.Named bytes = named_call sc v bytes
right_by sc v R.Bare bytes = bare_call sc v bytes
right_by sc v R.Indirect bytes = indirect_call sc v bytes
right_by sc v R.Other bytes = other_call sc v bytes
right_by sc v R.Extra bytes = extra_at v bytes
right_by sc v (R.Divide op) bytes = divide_at sc v op bytes

-- ---- simple statements

abbrev pub assigned_by : Scope → ℕ → List ℕ → Option (Stmt × List ℕ)
assigned_by sc v bytes = chosen (right_at bytes) (λ w. right_by sc (Some v) w.0 w.1)
    (value_at sc bytes >>= λ e. Some (s.Assign v e.0, e.1))

unfoldable pub target_at : Scope → List ℕ → Option (Stmt × List ℕ)
target_at sc bytes = variable_at sc bytes >>= λ v. after (codes " = ") v.1 >>= assigned_by sc v.0

unfoldable pub effect_at : Scope → List ℕ → Option (Stmt × List ℕ)
effect_at sc bytes = chosen (right_at bytes) (λ w. right_by sc None w.0 w.1) (target_at sc bytes)

abbrev pub number_by : List ℕ → ℕ × List ℕ → Option (ℕ × List ℕ)
number_by word n = after word n.1 >>= λ rest. Some (n.0 % 2 ^ 32, rest)

abbrev pub number_at : List ℕ → List ℕ → Option (ℕ × List ℕ)
number_at word bytes = number_by word (decimal_at bytes)

-- ---- statements with bodies

abbrev pub Statements : Type 0
Statements = List ℕ → Option (Stmt × List ℕ)

-- in a row; the switch's own break stands in no row of an arm
abbrev pub not_own : Bool → List ℕ → Bool
not_own false bytes = true
not_own true bytes = chosen (after (codes "break;\n") bytes) (λ rest. false) true

abbrev pub inside_by : Bool → Statements → List ℕ → Option (Stmt × List ℕ)
inside_by arm stmt bytes = if not_own arm bytes then stmt bytes else None

abbrev pub spaced_by : Bool → Statements → List ℕ → Option (Stmt × List ℕ)
spaced_by arm stmt bytes = inside_by arm stmt (past_spaces bytes)

abbrev pub body_by : Bool → Statements → List ℕ → List Stmt × List ℕ
body_by arm stmt bytes = many_by (spaced_by arm stmt) (length bytes) bytes

abbrev pub closing : {A : Type 0} → List ℕ → A × List ℕ → Option (A × List ℕ)
closing word x = ended word (x.0, past_spaces x.1)

-- up to a brace
abbrev pub closed_by : Statements → List ℕ → Option (List Stmt × List ℕ)
closed_by stmt bytes = closing (codes "}\n") (body_by false stmt bytes)

abbrev pub head_at : Scope → List ℕ → Option (Expr × List ℕ)
head_at sc bytes = expr_to sc (codes ") {\n") bytes

abbrev pub else_by : Statements → Expr → List Stmt × List ℕ → Option (Stmt × List ℕ)
else_by stmt c b =
    chosen (after (codes "} else {\n") (past_spaces b.1))
    (λ rest. closed_by stmt rest >>= λ d. Some (s.IfElse c b.0 d.0, d.1))
    (closing (codes "}\n") b >>= λ b. Some (s.If c b.0, b.1))

unfoldable pub if_by : Scope → Statements → List ℕ → Option (Stmt × List ℕ)
if_by sc stmt bytes = head_at sc bytes >>= λ c. else_by stmt c.0 (body_by false stmt c.1)

unfoldable pub while_by : Scope → Statements → List ℕ → Option (Stmt × List ℕ)
while_by sc stmt bytes = head_at sc bytes >>= λ c. closed_by stmt c.1 >>= λ b. Some (s.While c.0 b.0, b.1)

unfoldable pub loop_by : Statements → List ℕ → Option (Stmt × List ℕ)
loop_by stmt bytes = closed_by stmt bytes >>= λ b. Some (s.Loop b.0, b.1)

abbrev pub until_by : Scope → List Stmt × List ℕ → Option (Stmt × List ℕ)
until_by sc b = closing (codes "} while (") b >>= λ b. expr_to sc (codes ");\n") b.1
    >>= λ c. Some (s.DoWhile b.0 c.0, c.1)

unfoldable pub do_by : Scope → Statements → List ℕ → Option (Stmt × List ℕ)
do_by sc stmt bytes = until_by sc (body_by false stmt bytes)

-- ---- switches

abbrev pub case_by : ℕ × List ℕ → Option (ℕ × List ℕ)
case_by n = ended (codes ":\n") n

unfoldable pub case_at : List ℕ → Option (ℕ × List ℕ)
case_at bytes = after (codes "case 0x") (past_spaces bytes) >>= λ rest. case_by (hex_at rest)

abbrev pub further_cases : List ℕ → List ℕ × List ℕ
further_cases bytes = many_by case_at (length bytes) bytes

-- one case or more
unfoldable pub cases_at : List ℕ → Option (List ℕ × List ℕ)
cases_at bytes = case_at bytes >>= λ n. Some (put_first n.0 (further_cases n.1))

-- behind the switch's own break, if it stands here
abbrev pub past_break : List ℕ → List ℕ
past_break bytes = or_else bytes (after (codes "break;\n") (past_spaces bytes))

abbrev pub arm_of : List ℕ → List Stmt × List ℕ → Arm × List ℕ
arm_of cases b = (record { cases = cases; body = b.0 }, past_break b.1)

unfoldable pub arm_by : Statements → List ℕ → Option (Arm × List ℕ)
arm_by stmt bytes = cases_at bytes >>= λ c. Some (arm_of c.0 (body_by true stmt c.1))

abbrev pub arms_by : Statements → List ℕ → List Arm × List ℕ
arms_by stmt bytes = many_by (arm_by stmt) (length bytes) bytes

-- up to a brace
abbrev pub all_arms_by : Statements → List ℕ → Option (List Arm × List ℕ)
all_arms_by stmt bytes = closing (codes "}\n") (arms_by stmt bytes)

unfoldable pub switch_by : Scope → Statements → List ℕ → Option (Stmt × List ℕ)
switch_by sc stmt bytes = head_at sc bytes >>= λ c. all_arms_by stmt c.1 >>= λ a. Some (s.Switch c.0 a.0, a.1)

-- ---- all statements

-- behind the word, by a reader of the statements inside
unfoldable pub line_by : Scope → Statements → Line → List ℕ → Option (Stmt × List ℕ)
line_by sc stmt L.If bytes = if_by sc stmt bytes
line_by sc stmt L.Loop bytes = loop_by stmt bytes
line_by sc stmt L.While bytes = while_by sc stmt bytes
line_by sc stmt L.Do bytes = do_by sc stmt bytes
line_by sc stmt L.Switch bytes = switch_by sc stmt bytes
line_by sc stmt L.Break bytes = Some (s.Break, bytes)
line_by sc stmt L.Goto bytes = number_at (codes ";\n") bytes >>= λ n. Some (s.Goto n.0, n.1)
line_by sc stmt L.Return bytes = Some (s.Return None, bytes)
line_by sc stmt L.Give bytes = value_at sc bytes >>= λ e. Some (s.Return (Some e.0), e.1)
line_by sc stmt L.Label bytes = number_at (codes ":\n") bytes >>= λ n. Some (s.Label n.0, n.1)

unfoldable pub statement_by : Scope → Statements → List ℕ → Option (Stmt × List ℕ)
statement_by sc stmt bytes = chosen (line_at bytes) (λ w. line_by sc stmt w.0 w.1) (effect_at sc bytes)

-- a statement behind its spaces, within so many levels
unfoldable pub statement_at : Scope → ℕ → List ℕ → Option (Stmt × List ℕ)
statement_at sc zero bytes = None
statement_at sc (suc n) bytes = statement_by sc (statement_at sc n) bytes
