-- Gotos of statements, by their parts.
use Rattle.std.proofs.Common.{◌≡◌, ◌∙◌, ◌+◌, ◌<◌, ℕ, List, drop, length, map, ap, sym, arith}
use Rattle.std.proofs.Math.ListN.{get_or}
use Rattle.cmeaning.specs.declared.tree.Arm.{Arm}
use Rattle.cmeaning.specs.declared.tree.Expr.{Expr}
use Rattle.cmeaning.specs.declared.tree.Stmt.{Stmt, fold-roll-Stmt, map-Stmt, roll-Stmt}
use Rattle.cmeaning.specs.declared.tree.Stmt.TheFolds.{fold_out-Arm}
use Rattle.cmeaning.specs.declared.tree.Stmt.TheOpen.{Stmt-F}
use Rattle.cmeaning.specs.declared.tree.Stmt.TheVariants as S
use Rattle.pcode_model.proofs.Members.{rest_at}
use Rattle.summary.specs.Gotos.{all, arm_step, in_arm, in_arms, in_body, in_stmt, stmt_step}

-- a statement that is a layer
of_layer : (s : Stmt) (l : Stmt-F Stmt Arm)
    → roll-Stmt l ≡ s
    → in_stmt s ≡ stmt_step (map-Stmt Stmt Arm ℕ ℕ in_stmt in_arm l)
unfolding in_stmt in_arm
of_layer s l is = ap in_stmt (sym is) ∙ fold-roll-Stmt ℕ ℕ stmt_step arm_step l

pub in_if_else : (c : Expr) (body other : List Stmt) → in_stmt (S.IfElse c body other) ≡ in_body body + in_body other
in_if_else c body other = of_layer (S.IfElse c body other) (Stmt-F.IfElse c body other) (S.rolls-IfElse c body other)

pub in_switch : (e : Expr) (arms : List Arm) → in_stmt (S.Switch e arms) ≡ in_arms arms
in_switch e arms = of_layer (S.Switch e arms) (Stmt-F.Switch e arms) (S.rolls-Switch e arms)

pub in_arm_body : (a : Arm) → in_arm a ≡ in_body a.body
unfolding in_arm in_stmt
in_arm_body a = fold_out-Arm ℕ ℕ stmt_step arm_step a

-- The turn of a loop that counts: what was counted and what the rest has are the whole.
pub turn : {X : Type 0} (part : X → ℕ) (xs : List X) (i : ℕ) (x : X) (sum n whole : ℕ)
    → i < length xs
    → x ≡ get_or xs i x
    → n ≡ sum + part x
    → sum + all (map part (drop i xs)) ≡ whole
    → n + all (map part (drop (i + 1) xs)) ≡ whole
turn part xs i x sum n whole within is total before =
    let e : all (map part (drop i xs)) ≡ part x + all (map part (drop (i + 1) xs)) =
    ap (λ ys. all (map part ys)) (rest_at xs i x within is) in
    omega (arith, e)
