-- The texts of statements with several bodies.
use Rattle.std.proofs.Common.{◌≡◌, ℕ, List, ◌++◌, sym, ap, ◌∙◌}
use Rattle.std.specs.Prelude.{codes}
use Rattle.cmeaning.specs.declared.tree.Arm.{Arm, fold_out-Arm}
use Rattle.cmeaning.specs.declared.tree.Expr.{Expr}
use Rattle.cmeaning.specs.declared.tree.Stmt.{Stmt, fold-roll-Stmt}
use Rattle.cmeaning.specs.declared.tree.Stmt.TheOpen.{Stmt-F}
use Rattle.cmeaning.specs.declared.tree.Stmt.TheVariants as s
use Rattle.ctext.specs.Names.{Scope}
use Rattle.ctext.specs.Expressions.{form}
use Rattle.ctext.specs.Statements.{Lines, lines, lines_step, arm_step, body_text, body_breaks, arm_text, arms_text, case_lines, break_line, deeper}

-- the text of an if with two bodies, by the texts of these
pub lines_if_else : (sc : Scope) (e : Expr) (xs ys : List Stmt) (d : List ℕ)
    → (lines sc (s.IfElse e xs ys)).text d
    ≡ codes "if (" ++ ((form sc e).test
    ++ (codes ") {\n" ++ (body_text sc xs (deeper d)
    ++ (d ++ (codes "} else {\n" ++ (body_text sc ys (deeper d) ++ (d ++ codes "}\n")))))))
unfolding lines body_text
lines_if_else sc e xs ys d = ap (λ (l : Lines). l.text d)
    (ap (lines sc) (sym (s.rolls-IfElse e xs ys))
    ∙ fold-roll-Stmt Lines (List ℕ → List ℕ) (lines_step sc) arm_step (Stmt-F.IfElse e xs ys))

-- the text of a switch, by that of its arms
pub lines_switch : (sc : Scope) (e : Expr) (arms : List Arm) (d : List ℕ)
    → (lines sc (s.Switch e arms)).text d
    ≡ codes "switch (" ++ ((form sc e).plain ++ (codes ") {\n" ++ (arms_text sc arms d ++ (d ++ codes "}\n"))))
unfolding lines arm_text arms_text
lines_switch sc e arms d = ap (λ (l : Lines). l.text d)
    (ap (lines sc) (sym (s.rolls-Switch e arms))
    ∙ fold-roll-Stmt Lines (List ℕ → List ℕ) (lines_step sc) arm_step (Stmt-F.Switch e arms))

-- the text of an arm, by its case lines, its statements and its break
pub arm_lines : (sc : Scope) (arm : Arm) (d : List ℕ)
    → arm_text sc arm d ≡ case_lines arm.cases d
    ++ (body_text sc arm.body (deeper d) ++ break_line (body_breaks sc arm.body) (deeper d))
unfolding lines arm_text body_text body_breaks
arm_lines sc arm d = ap (λ (t : List ℕ → List ℕ). t d)
    (fold_out-Arm Lines (List ℕ → List ℕ) (lines_step sc) arm_step arm)
