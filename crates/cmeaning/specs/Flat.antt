-- Flat code: the steps that a function's body stands for, in the order of its text. This project's own, after C23
-- (6.8, statements and blocks).
-- A simple statement and a return are one step each, and a label is none. An if is a test that leads past its body, then
-- the body. An if with else is a test, the first body, a jump past the second, and the second. A while is a test, the
-- body and a jump to the test. A do-while is the body and a test. An endless loop is the body and a jump to its
-- beginning. A break and a goto are a jump each. A switch is a switch, then the arms, each with a jump past the switch
-- where its text has a `break;` at its end.
use Rattle.std.specs.Prelude.{ℕ, suc, ◌+◌, ◌==◌, Bool, true, false, not, if◌then◌else◌, List, [], ◌∷◌, ◌++◌, map, Option}
use Rattle.cmeaning.specs.declared.tree.Expr.{Expr}
use Rattle.cmeaning.specs.declared.tree.Stmt.{Stmt, fold-Stmt}
use Rattle.cmeaning.specs.declared.tree.Stmt.TheOpen.{Stmt-F, Arm-F}
use Rattle.cmeaning.specs.declared.tree.Stmt.TheVariants as S
use Rattle.cmeaning.specs.declared.tree.CFunction.{CFunction}
pub use Rattle.cmeaning.specs.Callees.{returns_by}
use Rattle.cmeaning.specs.Leaves.{ends_in_break, last_of, leaves_step}

-- A step. Positions count from 0 and name steps of the same flat code; the one past the last step ends the run
-- Undefined.
-- Do: a simple statement, and on.
-- Test: to `yes` where the value isn't 0, and else to `no`.
-- Jump: to a position.
-- Choose: to the position of the case that has the value, and else to `other`.
-- Give: the end of the function, with the value of an expression or none.
pub data Flat : Type 0 where
  Do : Stmt → Flat
  Test : Expr → (yes no : ℕ) → Flat
  Jump : ℕ → Flat
  Choose : Expr → (cases : List (ℕ × ℕ)) → (other : ℕ) → Flat
  Give : Option Expr → Flat

-- What a statement makes.
-- span: how many steps.
-- leaves: whether it leaves, so that an arm that ends in it has no `break;` in its text.
-- labels: the labels in it with their positions, by the position where it begins.
-- steps: the steps, by the position of each label, the position behind the innermost loop, and the one where it begins.
pub record Piece : Type 0 where
  pub span : ℕ
  pub leaves : Bool
  pub labels : ℕ → List (ℕ × ℕ)
  pub steps : (ℕ → ℕ) → ℕ → ℕ → List Flat

-- ---- statements one after another

abbrev pub spans : List Piece → ℕ
spans [] = 0
spans (x ∷ xs) = x.span + spans xs

abbrev pub all_labels : List Piece → ℕ → List (ℕ × ℕ)
all_labels [] p = []
all_labels (x ∷ xs) p = x.labels p ++ all_labels xs (p + x.span)

abbrev pub all_steps : List Piece → (ℕ → ℕ) → ℕ → ℕ → List Flat
all_steps [] place out p = []
all_steps (x ∷ xs) place out p = x.steps place out p ++ all_steps xs place out (p + x.span)

abbrev pub last_leaves : Bool → List Piece → Bool
last_leaves b xs = last_of (λ (x : Piece). x.leaves) b xs

-- ---- arms of a switch

pub record Branch : Type 0 where
  pub cases : List ℕ
  pub body : List Piece

-- whether the arm's text ends with `break;`
abbrev pub breaks : Branch → Bool
breaks a = ends_in_break (λ (x : Piece). x.leaves) a.body

abbrev pub arm_span : Branch → ℕ
arm_span a = if breaks a then suc (spans a.body) else spans a.body

abbrev pub arm_spans : List Branch → ℕ
arm_spans [] = 0
arm_spans (a ∷ rest) = arm_span a + arm_spans rest

abbrev pub arm_labels : List Branch → ℕ → List (ℕ × ℕ)
arm_labels [] p = []
arm_labels (a ∷ rest) p = all_labels a.body p ++ arm_labels rest (p + arm_span a)

-- each value with a position
abbrev pub cases_at : ℕ → List ℕ → List (ℕ × ℕ)
cases_at p [] = []
cases_at p (v ∷ vs) = (v, p) ∷ cases_at p vs

abbrev pub arm_cases : List Branch → ℕ → List (ℕ × ℕ)
arm_cases [] p = []
arm_cases (a ∷ rest) p = cases_at p a.cases ++ arm_cases rest (p + arm_span a)

-- `past` is the position past the switch
abbrev pub arm_steps : List Branch → (ℕ → ℕ) → ℕ → ℕ → ℕ → List Flat
arm_steps [] place out past p = []
arm_steps (a ∷ rest) place out past p = all_steps a.body place out p
    ++ ((if breaks a then Jump past ∷ [] else []) ++ arm_steps rest place out past (p + arm_span a))

-- ---- statements

abbrev pub single : Bool → Flat → Piece
single leaves s = record { span = 1; leaves = leaves; labels = λ p. []; steps = λ place out p. s ∷ [] }

abbrev pub does_leave : (ℕ → Bool) → Stmt-F Piece Branch → Bool
does_leave returns s = leaves_step returns s

-- by whether the callee at an address returns
abbrev pub piece_step : (ℕ → Bool) → Stmt-F Piece Branch → Piece
piece_step returns (Stmt-F.Assign v e) = single (does_leave returns (Stmt-F.Assign v e)) (Do (S.Assign v e))
piece_step returns (Stmt-F.Load v space address) =
    single (does_leave returns (Stmt-F.Load v space address)) (Do (S.Load v space address))
piece_step returns (Stmt-F.Store space address e) =
    single (does_leave returns (Stmt-F.Store space address e)) (Do (S.Store space address e))
piece_step returns (Stmt-F.Call v callee args) =
    single (does_leave returns (Stmt-F.Call v callee args)) (Do (S.Call v callee args))
piece_step returns (Stmt-F.CallInd v callee args) =
    single (does_leave returns (Stmt-F.CallInd v callee args)) (Do (S.CallInd v callee args))
piece_step returns (Stmt-F.Other v index args) =
    single (does_leave returns (Stmt-F.Other v index args)) (Do (S.Other v index args))
piece_step returns (Stmt-F.Extra v offset) =
    single (does_leave returns (Stmt-F.Extra v offset)) (Do (S.Extra v offset))
piece_step returns (Stmt-F.Divide v op a b) =
    single (does_leave returns (Stmt-F.Divide v op a b)) (Do (S.Divide v op a b))
piece_step returns (Stmt-F.If c body) = record {
  span = suc (spans body);
  leaves = does_leave returns (Stmt-F.If c body);
  labels = λ p. all_labels body (suc p);
  steps = λ place out p. Test c (suc p) (suc p + spans body) ∷ all_steps body place out (suc p);
}
piece_step returns (Stmt-F.IfElse c body other) = record {
  span = suc (spans body + suc (spans other));
  leaves = does_leave returns (Stmt-F.IfElse c body other);
  labels = λ p. all_labels body (suc p) ++ all_labels other (suc (suc p + spans body));
  steps = λ place out p. Test c (suc p)
      (suc (suc p + spans body)) ∷ (all_steps body place out (suc p)
      ++ Jump (suc (suc p + spans body) + spans other) ∷ all_steps other place out (suc (suc p + spans body)));
}
piece_step returns (Stmt-F.While c body) = record {
  span = suc (spans body + 1);
  leaves = does_leave returns (Stmt-F.While c body);
  labels = λ p. all_labels body (suc p);
  steps = λ place out p. Test c (suc p)
      (suc (suc p + spans body)) ∷ (all_steps body place (suc (suc p + spans body)) (suc p) ++ Jump p ∷ []);
}
piece_step returns (Stmt-F.DoWhile body c) = record {
  span = spans body + 1;
  leaves = does_leave returns (Stmt-F.DoWhile body c);
  labels = λ p. all_labels body p;
  steps = λ place out p. all_steps body place (suc (p + spans body)) p ++ Test c p (suc (p + spans body)) ∷ [];
}
piece_step returns (Stmt-F.Loop body) = record {
  span = spans body + 1;
  leaves = does_leave returns (Stmt-F.Loop body);
  labels = λ p. all_labels body p;
  steps = λ place out p. all_steps body place (suc (p + spans body)) p ++ Jump p ∷ [];
}
piece_step returns Stmt-F.Break = record {
  span = 1;
  leaves = does_leave returns Stmt-F.Break;
  labels = λ p. [];
  steps = λ place out p. Jump out ∷ [];
}
piece_step returns (Stmt-F.Switch e arms) = record {
  span = suc (arm_spans arms);
  leaves = does_leave returns (Stmt-F.Switch e arms);
  labels = λ p. arm_labels arms (suc p);
  steps = λ place out p. Choose e (arm_cases arms (suc p)) (suc p + arm_spans arms) ∷ arm_steps arms place out
      (suc p + arm_spans arms) (suc p);
}
piece_step returns (Stmt-F.Goto n) = record {
  span = 1;
  leaves = does_leave returns (Stmt-F.Goto n);
  labels = λ p. [];
  steps = λ place out p. Jump (place n) ∷ [];
}
piece_step returns (Stmt-F.Label n) = record {
  span = 0;
  leaves = does_leave returns (Stmt-F.Label n);
  labels = λ p. (n, p) ∷ [];
  steps = λ place out p. [];
}
piece_step returns (Stmt-F.Return e) = single (does_leave returns (Stmt-F.Return e)) (Give e)

abbrev pub branch_step : Arm-F Piece Branch → Branch
branch_step a = record { cases = a.cases; body = a.body }

unfoldable pub piece_of : (ℕ → Bool) → Stmt → Piece
piece_of returns s = fold-Stmt Piece Branch (piece_step returns) branch_step s

abbrev pub pieces_of : (ℕ → Bool) → List Stmt → List Piece
pieces_of returns body = map (piece_of returns) body

-- ---- functions

-- the second of the first pair that begins with a number, or else a default
abbrev pub found_in : List (ℕ × ℕ) → ℕ → ℕ → ℕ
found_in [] default n = default
found_in (x ∷ rest) default n = if x.0 == n then x.1 else found_in rest default n

-- A goto without a label, or a break outside a loop, leads past the last step.
abbrev pub flat_body : List Piece → List Flat
flat_body body = all_steps body (found_in (all_labels body 0) (spans body)) (spans body) 0

unfoldable pub flat_of : CFunction → List Flat
flat_of f = flat_body (pieces_of (returns_by f.callees) f.body)
