-- The rules of statements with bodies, and of a switch arm by arm.
use Rattle.std.proofs.Common.{◌≡◌, ℕ, ◌&&◌, Bool, List, [], ◌∷◌, ◌++◌, map, true, false, refl, sym, ap, ◌∙◌}
use Rattle.cmeaning.specs.declared.tree.CFunction.{CFunction}
use Rattle.cmeaning.specs.declared.tree.Expr.{Expr}
use Rattle.cmeaning.specs.declared.tree.Arm.{Arm}
use Rattle.cmeaning.specs.declared.tree.Stmt.{Stmt, fold-roll-Stmt, roll-Stmt, map-Stmt}
use Rattle.cmeaning.specs.declared.tree.Stmt.TheFolds.{fold_out-Arm}
use Rattle.cmeaning.specs.declared.tree.Stmt.TheOpen.{Stmt-F}
use Rattle.cmeaning.specs.declared.tree.Stmt.TheVariants as S
use Rattle.cmeaning.specs.Do.{widths_in}
use Rattle.cmeaning.specs.Shape.{shape_of, is_condition}
use Rattle.cmeaning.specs.Valid.{Rule, Cased, rule_step, cased_step, rule_of, cased_of, cases_of, all_cases, has_case, all_hold, arms_hold, are_cases_of}
use Rattle.cmeaning.specs.Arms.{arms_right}

-- of a statement that is a layer
pub rule_of_layer : (f : CFunction) (labels : ℕ) (s : Stmt) (y : Stmt-F Stmt Arm) → roll-Stmt y ≡ s
    → rule_of f labels s ≡ rule_step f labels (map-Stmt Stmt Arm Rule Cased (rule_of f labels) (cased_of f labels) y)
unfolding rule_of cased_of
rule_of_layer f labels s y is = ap (rule_of f labels) (sym is)
    ∙ fold-roll-Stmt Rule Cased (rule_step f labels) cased_step y

pub cased_is : (f : CFunction) (labels : ℕ) (a : Arm)
    → cased_of f labels a ≡ record { cases = a.cases; body = map (rule_of f labels) a.body }
unfolding cased_of rule_of
cased_is f labels a = fold_out-Arm Rule Cased (rule_step f labels) cased_step a

cases_are : (f : CFunction) (labels : ℕ) (arms : List Arm) → all_cases (map (cased_of f labels) arms) ≡ cases_of arms
cases_are f labels [] = refl
cases_are f labels (a ∷ rest) = ap (λ c. c.cases ++ all_cases (map (cased_of f labels) rest)) (cased_is f labels a)
    ∙ ap (λ xs. a.cases ++ xs) (cases_are f labels rest)

arms_are : (f : CFunction) (labels : ℕ) (arms : List Arm) (room : ℕ)
    → arms_hold (map (cased_of f labels) arms) room ≡ arms_right f labels arms room
arms_are f labels [] room = refl
arms_are f labels (a ∷ rest) room =
    ap (λ c. has_case c.cases && (all_hold false c.body false room && arms_hold (map (cased_of f labels) rest) room))
    (cased_is f labels a)
    ∙ ap (λ b. has_case a.cases && (all_hold false (map (rule_of f labels) a.body) false room && b))
    (arms_are f labels rest room)

switch_is : (f : CFunction) (labels : ℕ) (e : Expr) (arms : List Arm)
    → rule_of f labels (S.Switch e arms) ≡ rule_step f labels (Stmt-F.Switch e (map (cased_of f labels) arms))
unfolding rule_of cased_of
switch_is f labels e arms = ap (rule_of f labels) (sym (S.rolls-Switch e arms))
    ∙ fold-roll-Stmt Rule Cased (rule_step f labels) cased_step (Stmt-F.Switch e arms)

pub switch_holds : (f : CFunction) (labels : ℕ) (e : Expr) (arms : List Arm) (after_call in_loop : Bool) (room : ℕ)
    → (rule_of f labels (S.Switch e arms)).holds after_call in_loop room
    ≡ are_cases_of (cases_of arms) (shape_of (widths_in f) e) && arms_right f labels arms room
switch_holds f labels e arms after_call in_loop room =
    ap (λ r. r.holds after_call in_loop room) (switch_is f labels e arms)
    ∙ ap (λ xs. are_cases_of xs (shape_of (widths_in f) e) && arms_hold (map (cased_of f labels) arms) room)
    (cases_are f labels arms)
    ∙ ap (λ b. are_cases_of (cases_of arms) (shape_of (widths_in f) e) && b) (arms_are f labels arms room)

pub if_is : (f : CFunction) (labels : ℕ) (s : Stmt) (e : Expr) (body : List Stmt) (xs : List Stmt)
    (after_call in_loop : Bool) (room : ℕ)
    → s ≡ S.If e body
    → xs ≡ body
    → is_condition (shape_of (widths_in f) e) && all_hold false (map (rule_of f labels) xs) in_loop room
    ≡ (rule_of f labels s).holds after_call in_loop room
unfolding rule_of
if_is f labels s e body xs after_call in_loop room is same =
    ap (λ ys. is_condition (shape_of (widths_in f) e) && all_hold false (map (rule_of f labels) ys) in_loop room) same
    ∙ sym (ap (λ r. r.holds after_call in_loop room)
    (ap (rule_of f labels) (is ∙ sym (S.rolls-If e body))
    ∙ fold-roll-Stmt Rule Cased (rule_step f labels) cased_step (Stmt-F.If e body)))

pub while_is : (f : CFunction) (labels : ℕ) (s : Stmt) (e : Expr) (body : List Stmt) (xs : List Stmt)
    (after_call in_loop : Bool) (room : ℕ)
    → s ≡ S.While e body
    → xs ≡ body
    → is_condition (shape_of (widths_in f) e) && all_hold false (map (rule_of f labels) xs) true room
    ≡ (rule_of f labels s).holds after_call in_loop room
unfolding rule_of
while_is f labels s e body xs after_call in_loop room is same =
    ap (λ ys. is_condition (shape_of (widths_in f) e) && all_hold false (map (rule_of f labels) ys) true room) same
    ∙ sym (ap (λ r. r.holds after_call in_loop room)
    (ap (rule_of f labels) (is ∙ sym (S.rolls-While e body))
    ∙ fold-roll-Stmt Rule Cased (rule_step f labels) cased_step (Stmt-F.While e body)))

pub do_while_is : (f : CFunction) (labels : ℕ) (s : Stmt) (body : List Stmt) (e : Expr) (xs : List Stmt)
    (after_call in_loop : Bool) (room : ℕ)
    → s ≡ S.DoWhile body e
    → xs ≡ body
    → is_condition (shape_of (widths_in f) e) && all_hold false (map (rule_of f labels) xs) true room
    ≡ (rule_of f labels s).holds after_call in_loop room
unfolding rule_of
do_while_is f labels s body e xs after_call in_loop room is same =
    ap (λ ys. is_condition (shape_of (widths_in f) e) && all_hold false (map (rule_of f labels) ys) true room) same
    ∙ sym (ap (λ r. r.holds after_call in_loop room)
    (ap (rule_of f labels) (is ∙ sym (S.rolls-DoWhile body e))
    ∙ fold-roll-Stmt Rule Cased (rule_step f labels) cased_step (Stmt-F.DoWhile body e)))

pub if_else_is : (f : CFunction) (labels : ℕ) (s : Stmt) (e : Expr) (body other xs ys : List Stmt)
    (after_call in_loop : Bool) (room : ℕ)
    → s ≡ S.IfElse e body other
    → xs ≡ body
    → ys ≡ other
    → is_condition (shape_of (widths_in f) e)
    && (all_hold false (map (rule_of f labels) xs) in_loop room
    && all_hold false (map (rule_of f labels) ys) in_loop room)
    ≡ (rule_of f labels s).holds after_call in_loop room
unfolding rule_of
if_else_is f labels s e body other xs ys after_call in_loop room is first second =
    ap (λ zs. is_condition (shape_of (widths_in f) e)
    && (all_hold false (map (rule_of f labels) zs) in_loop room
    && all_hold false (map (rule_of f labels) ys) in_loop room)) first
    ∙ ap (λ zs. is_condition (shape_of (widths_in f) e)
    && (all_hold false (map (rule_of f labels) body) in_loop room
    && all_hold false (map (rule_of f labels) zs) in_loop room)) second
    ∙ sym (ap (λ r. r.holds after_call in_loop room)
    (ap (rule_of f labels) (is ∙ sym (S.rolls-IfElse e body other))
    ∙ fold-roll-Stmt Rule Cased (rule_step f labels) cased_step (Stmt-F.IfElse e body other)))

pub loop_is : (f : CFunction) (labels : ℕ) (s : Stmt) (body xs : List Stmt) (after_call in_loop : Bool) (room : ℕ)
    → s ≡ S.Loop body
    → xs ≡ body
    → all_hold false (map (rule_of f labels) xs) true room ≡ (rule_of f labels s).holds after_call in_loop room
unfolding rule_of
loop_is f labels s body xs after_call in_loop room is same =
    ap (λ ys. all_hold false (map (rule_of f labels) ys) true room) same
    ∙ sym (ap (λ r. r.holds after_call in_loop room)
    (ap (rule_of f labels) (is ∙ sym (S.rolls-Loop body))
    ∙ fold-roll-Stmt Rule Cased (rule_step f labels) cased_step (Stmt-F.Loop body)))

pub switch_rule : (f : CFunction) (labels : ℕ) (s : Stmt) (e : Expr) (arms xs : List Arm) (after_call in_loop : Bool)
    (room : ℕ)
    → s ≡ S.Switch e arms
    → xs ≡ arms
    → are_cases_of (cases_of xs) (shape_of (widths_in f) e) && arms_right f labels xs room
    ≡ (rule_of f labels s).holds after_call in_loop room
switch_rule f labels s e arms xs after_call in_loop room is same =
    ap (λ ys. are_cases_of (cases_of ys) (shape_of (widths_in f) e) && arms_right f labels ys room) same
    ∙ sym (switch_holds f labels e arms after_call in_loop room)
    ∙ ap (λ z. (rule_of f labels z).holds after_call in_loop room) (sym is)
