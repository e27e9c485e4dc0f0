-- The operands of a node in either order.
use Rattle.std.proofs.Common.{◌≡◌, inl, inr, ℕ, Some, refl, sym, ◌∙◌, subst}
use Rattle.std.proofs.lemmas.Bool.{eq-eqb}
use Rattle.bits_core.specs.declared.word.Word.{Word}
use Rattle.cmeaning.specs.declared.tree.OverflowOp.{OverflowOp}
use Rattle.cmeaning.specs.declared.tree.Expr.{Expr}
use Rattle.cmeaning.specs.declared.tree.Expr.TheVariants as E
use Rattle.rules.specs.Size.{size_of}
use Rattle.rules.specs.Letters.{IsNoConstant}
use Rattle.rules.specs.Table.{F2, F2_test}
use Rattle.rules.proofs.Nodes as N
use Rattle.rules.proofs.Has.{alike}
use Rattle.rule_views.specs.declared.nodes.Pair.{Pair}
use Rattle.rule_views.specs.declared.nodes.Pair.TheVariants as P
use Rattle.rule_views.specs.declared.row.Row.TheVariants as R
use Rattle.rule_views.specs.declared.view.Arg.TheVariants as A
use Rattle.rule_views.specs.declared.view.Made.TheVariants as M
use Rattle.rule_views.specs.Nodes.{pair_node}
use Rattle.rule_views.specs.Rows.{RuleOf}
use Rattle.rule_views.specs.Sees.{Sight, IsSized, IsConstant, NoConstant}
use Rattle.rule_views.specs.Fires.{FiredOfPair}
use Rattle.rule_views.proofs.Fire.{alike_operands, alike_tested}
use Rattle.rule_find.specs.Found.{Commutes, ChangesOver, NoneOver}

-- ---- the operands of a node that commutes agree in either order

alike_flags : (ws : ℕ → ℕ) (op : OverflowOp) (x y : Expr) → IsSized ws (E.Overflow op x y)
    → (w : ℕ) × ((size_of ws x ≡ Some w) × (size_of ws y ≡ Some w))
alike_flags ws op x y h =
    let t = alike (λ v w. 1) (size_of ws x) (size_of ws y) h.0 (sym (N.size_of_overflow ws op x y) ∙ h.1) in
    (t.0, (t.1.0, t.1.1))

pub turned_sized : (ws : ℕ → ℕ) (p : Pair) (x y : Expr) → Commutes p → IsSized ws (pair_node p x y)
    → IsSized ws (pair_node p y x)
turned_sized ws (P.Arithmetic op) x y k h =
    let t = alike_operands ws op x y h in
    (t.0, N.size_of_arithmetic ws op y x ∙ rw (t.1.0, t.1.1, eq-eqb t.0 t.0 refl) refl)
turned_sized ws (P.Compare op) x y k h =
    let t = alike_tested ws op x y h in
    (1, N.size_of_compare ws op y x ∙ rw (t.1.0, t.1.1, eq-eqb t.0 t.0 refl) refl)
turned_sized ws (P.Overflow op) x y k h =
    let t = alike_flags ws op x y h in
    (1, N.size_of_overflow ws op y x ∙ rw (t.1.0, t.1.1, eq-eqb t.0 t.0 refl) refl)
turned_sized ws (P.Division op) x y k h = absurd k
turned_sized ws (P.SignedDivision op) x y k h = absurd k
turned_sized ws (P.Shift op) x y k h = absurd k
turned_sized ws (P.SignedCompare op) x y k h = absurd k
turned_sized ws P.Concat x y k h = absurd k

-- ---- a constant on the left

over_rule : (ws : ℕ → ℕ) (p : Pair) (c : Word) (x : Expr) → ChangesOver p → IsNoConstant x
    → RuleOf R.F2 ws (pair_node p (E.Const c) x) (pair_node p x (E.Const c))
over_rule ws (P.Arithmetic op) c x k n = (F2 op c x k n, refl)
over_rule ws (P.Compare op) c x k n = (F2_test op c x k n, refl)
over_rule ws (P.Division op) c x k n = absurd k
over_rule ws (P.SignedDivision op) c x k n = absurd k
over_rule ws (P.Shift op) c x k n = absurd k
over_rule ws (P.SignedCompare op) c x k n = absurd k
over_rule ws P.Concat c x k n = absurd k
over_rule ws (P.Overflow op) c x k n = absurd k

module _ {T : Type 0} (sees : Sight T) (a b : T) where
  pub no_left : NoConstant sees a → NoneOver sees a b
  no_left n = inl n

  pub both : (d : Word) → IsConstant sees b d → NoneOver sees a b
  both d k = inr (d, k)

  pub over_fires : (p : Pair) (c : Word) → ChangesOver p → IsConstant sees a c → NoConstant sees b
      → FiredOfPair (RuleOf R.F2) sees p a b (M.Pair p (A.Place b) (A.Const c))
  over_fires p c k m n = record {
    fires = λ vs x y sized s t. (
        let other : IsNoConstant y = λ d is. n vs d (subst (sees vs b) is t) in
        record {
          x = E.Const c;
          y = y;
          r = pair_node p y (E.Const c);
          left = m.seen vs x s;
          right = t;
          rule = over_rule vs.widths p c y k other;
          makes = (y, (E.Const c, (refl, t, refl)));
        });
  }
