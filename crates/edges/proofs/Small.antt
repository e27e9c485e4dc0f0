-- What the small blocks show, by computation, and what is live in them.
use Rattle.std.proofs.Common.{◌≡◌, ℕ, ◌<◌, List, [], ◌∷◌, Some, refl, sym, ap, ◌∙◌, subst, inl, inr, arith}
use Rattle.bits_core.specs.Value.{limit, add}
use Rattle.cmeaning.specs.declared.tree.ArithmeticOp.TheVariants.{Add}
use Rattle.cmeaning.specs.declared.tree.Expr.{Expr}
use Rattle.cmeaning.specs.declared.tree.Expr.TheVariants as E
use Rattle.cmeaning.specs.declared.tree.Stmt.{Stmt}
use Rattle.cmeaning.specs.declared.tree.Stmt.TheVariants as S
use Rattle.cmeaning.specs.Examples.{one}
use Rattle.cmeaning.specs.Examples as example
use Rattle.cmeaning.proofs.Value.{value_of_const, value_of_var, value_of_arithmetic, width_of_const, width_of_var, width_of_arithmetic}
use Rattle.cmeaning.proofs.Do.{do_assign}
use Rattle.blockcode.specs.declared.code.Exit.TheVariants as X
use Rattle.parts.specs.Exprs.{Arithmetic, reads, reads_all, depth}
use Rattle.parts.specs.Stmts.{args_of, IsAssign}
use Rattle.parts.proofs.Nodes.{by_parts, reads_var, reads_two, depth_const, depth_var, depth_one, depth_two}
use Rattle.parts.proofs.Values.{reads_self}
use Rattle.parts.proofs.Parts.{assign_is}
use Rattle.edges.specs.Exits.{exit_args, Onto, leads}
use Rattle.edges.specs.Run.{exit_at}
use Rattle.edges.specs.Live.{Live, Read, Past, Leave, Onward, Clobbers, ByStmt}
use Rattle.edges.specs.Small.{LostCopy, AroundLoop, TwoParameters, lost, count_up, around}

-- statements and expressions
ruleset steps = (
  do_assign,
  value_of_const,
  value_of_var,
  value_of_arithmetic,
  width_of_const,
  width_of_var,
  width_of_arithmetic,
)

reads_own : (v : ℕ) → 0 < reads_all (E.Var v ∷ []) v
reads_own v = let r = reads_self v in omega (arith, r)

-- what an assignment reads
reads_of : (v : ℕ) (e : Expr) (w : ℕ) → 0 < reads e w → 0 < reads_all (args_of (S.Assign v e)) w
reads_of v e w r =
    let P : List Expr → Type 0 = λ es. 0 < reads_all es w in
    subst P (sym (assign_is v e).args) (omega (arith, r))

-- ---- a lost copy

abbrev head_depth : List Expr → ℕ
head_depth [] = 0
head_depth (e ∷ es) = depth e

positive : (e : Expr) → 0 < depth e
positive e = by_parts (λ e. 0 < depth e)
    (λ c. let d = depth_const c in omega (arith, d))
    (λ x. let d = depth_var x in omega (arith, d))
    (λ k a h. let d = depth_one k a in omega (arith, d))
    (λ k a b h i. let d = depth_two k a b in omega (arith, d))
    e

-- a sum is no variable
no_copy : (v w x : ℕ) (a b : Expr) → IsAssign v (E.Var w) (S.Assign x (E.Arithmetic Add a b)) → ⊥
no_copy v w x a b is =
    let e = E.Arithmetic Add a b in
    let same : depth e ≡ depth (E.Var w) = ap head_depth (sym (assign_is x e).args ∙ is.args) in
    let deep = depth_two (Arithmetic Add) a b in
    let flat = depth_var w in
    omega (arith, same, deep, flat, positive a)

lost_clobbers : Clobbers lost 2 1
lost_clobbers =
    ByStmt 1 count_up [] ([], refl) (assign_is 2 (E.Arithmetic Add (E.Var 1) one)).target
    (no_copy 2 1 2 (E.Var 1) one)
    (Onward 1 2 1 1 (2 ∷ [], refl) refl (Leave 2 1 (reads_own 1)))

pub lost_copy : LostCopy
unfolding add limit
lost_copy = record {
  apart = λ l e. simp steps;
  as_one = λ l e. simp steps;
  interfere = λ l e. inr (inl lost_clobbers);
}

-- ---- around a loop

no_return : (e : Expr) (ns : List ℕ) (c : ℕ) → leads (X.Return (Some e)) ns ≡ Onto c → ⊥
no_return e [] c h = cc
no_return e (n ∷ ns) c h = cc

dead_behind : (b : ℕ) (rest : List Stmt) (v : ℕ) → Live around b rest v → b ≡ 1 → rest ≡ [] → v ≡ 1 → ⊥
dead_behind b rest v (Read c a r w read) at none is = absurd (cc)
dead_behind b rest v (Past c a r w other live) at none is = absurd (cc)
dead_behind b rest v (Leave c w read) at none is =
    let P : ℕ → Type 0 = λ z. 0 < reads_all (exit_args (exit_at around z)) w in
    let Q : ℕ → Type 0 = λ z. 0 < reads_all (E.Var 2 ∷ []) z in
    let there : 0 < reads_all (E.Var 2 ∷ []) 1 = subst Q is (subst P at read) in
    let unread = reads_var 2 1 in
    omega (arith, there, unread)
dead_behind b rest v (Onward c d w u to through live) at none is =
    let P : ℕ → Type 0 = λ z. leads (exit_at around z) to.0 ≡ Onto d in
    no_return (E.Var 2) to.0 d (subst P at to.1)

pub around_loop : AroundLoop
around_loop = record {
  gives = λ l e. simp steps;
  live = Onward 0 0 1 1 (1 ∷ [], refl) refl
      (Read 0 (S.Assign 2 (E.Var 1)) (S.Assign 1 example.zero ∷ []) 1 (reads_of 2 (E.Var 1) 1 (reads_self 1)));
  not_behind = λ live. dead_behind 1 [] 1 live refl refl refl;
  without = λ l e. simp steps;
}

-- ---- two parameters

reads_sum : (a b : Expr) (v : ℕ) → 0 < reads a v → 0 < reads_all (E.Arithmetic Add a b ∷ []) v
reads_sum a b v r = let s = reads_two (Arithmetic Add) a b v in omega (arith, r, s)

reads_sum_right : (a b : Expr) (v : ℕ) → 0 < reads b v → 0 < reads_all (E.Arithmetic Add a b ∷ []) v
reads_sum_right a b v r = let s = reads_two (Arithmetic Add) a b v in omega (arith, r, s)

pub two_parameters : TwoParameters
unfolding add limit
two_parameters = record {
  gives = λ l e. simp steps;
  interfere = λ l e. inr (inr (
    (Leave 0 0 (reads_sum (E.Var 0) (E.Var 1) 0 (reads_self 0)), (1, refl)),
    (Leave 0 1 (reads_sum_right (E.Var 0) (E.Var 1) 1 (reads_self 1)), (2, refl)),
  ));
}
