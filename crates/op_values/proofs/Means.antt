-- An expression that has a width and a value, and how one over it has them.
use Rattle.std.proofs.Common.{◌≡◌, ℕ, zero, suc, ◌*◌, ◌/◌, ◌%◌, ◌^◌, ◌<◌, ◌≤◌, Bool, true, false, Option, Some, refl, sym, ap, ◌∙◌, subst, arith}
use Rattle.std.specs.Prelude.{◌==◌, cond}
use Rattle.std.specs.Int.Count.{ones, ones_step, ones-ones, count_leading_zeros}
use Rattle.std.proofs.Math.Nat.{mod-eq_of_lt, pow-suc}
use Rattle.std.proofs.lemmas.Nat.{leading_le}
use Rattle.std.proofs.lemmas.Bool.Decides.{nat_tests}
use Rattle.bits_core.specs.declared.ops.Unary.TheVariants as U
use Rattle.bits_core.specs.Value.{limit, zext, popcount, lzcount, unary_value}
use Rattle.bits_core.proofs.Limits.{limit_is, limit_least}
use Rattle.cmeaning.specs.declared.tree.ExtendOp.TheVariants.{Zext}
use Rattle.cmeaning.specs.declared.tree.Expr.{Expr}
use Rattle.cmeaning.specs.declared.tree.Expr.TheVariants as E
use Rattle.cmeaning.specs.Value.{with_value, with_values, width_of, value_of}
use Rattle.cmeaning.proofs.Value.{width_of_const, value_of_const, width_of_extend, value_of_extend}
use Rattle.op_values.specs.Nodes.{nearest, width_by, word_by, constant, widened}

-- the expression has this width and this value
pub record Means (ws : ℕ → ℕ) (env : ℕ → Option ℕ) (e : Expr) (w n : ℕ) : Type 0 where
  pub width : width_of ws e ≡ w
  pub value : value_of ws env e ≡ Some n

-- A width of 1 to 16 bytes is taken as it is.
pub nearest_is : (w : ℕ) → 0 < w → w ≤ 16 → nearest w ≡ w
nearest_is w some small = omega arith

module _ (ws : ℕ → ℕ) (env : ℕ → Option ℕ) where
  pub constant_means : (w n : ℕ) → 0 < w → w ≤ 16 → n < limit w → Means ws env (constant w n) w n
  constant_means w n some small below =
      let e = nearest_is w some small in
      record {
        width = width_of_const ws (word_by w n) ∙ e;
        value = value_of_const ws env (word_by w n) ∙ ap (λ k. Some (n % limit k)) e
            ∙ ap (λ k. Some k) (mod-eq_of_lt below);
      }

  -- by one operand's width and value
  pub one : (e d : Expr) (f : ℕ → ℕ → ℕ) (w n : ℕ)
      → value_of ws env d ≡ with_value (value_of ws env e) (λ x. Some (f (width_of ws e) x))
      → Means ws env e w n
      → value_of ws env d ≡ Some (f w n)
  one e d f w n is m = is ∙ ap (λ o. with_value o (λ x. Some (f (width_of ws e) x))) m.value
      ∙ ap (λ u. Some (f u n)) m.width

  -- and by two
  pub two : (c d e : Expr) (f : ℕ → ℕ → ℕ → ℕ → ℕ) (u v a b : ℕ)
      → value_of ws env c ≡ with_values (value_of ws env d) (value_of ws env e)
      (λ x y. Some (f (width_of ws d) x (width_of ws e) y))
      → Means ws env d u a
      → Means ws env e v b
      → value_of ws env c ≡ Some (f u a v b)
  two c d e f u v a b is m n =
      is
      ∙ ap (λ o. with_values o (value_of ws env e) (λ x y. Some (f (width_of ws d) x (width_of ws e) y))) m.value
      ∙ ap (λ o. with_value o (λ y. Some (f (width_of ws d) a (width_of ws e) y))) n.value
      ∙ ap (λ w. Some (f w a (width_of ws e) b)) m.width
      ∙ ap (λ w. Some (f u a w b)) n.width

-- ---- counts

ones_below : (k n : ℕ) → n < 2 ^ k → ones n ≤ k
ones_below zero n h = let z : n ≡ 0 = omega arith in let P : ℕ → Type 0 = λ x. ones x ≤ 0 in let o : ones 0 ≡ 0 =
    ones-ones 0 in subst P (sym z) (omega (arith, o))
ones_below (suc k) n h =
    let s : 2 ^ suc k ≡ 2 ^ k * 2 = pow-suc 2 k in
    let l : n / 2 < 2 ^ k = omega (arith, h, s) in
    omega (arith, ones_step n, ones_below k (n / 2) l)

count_kept : (n w : ℕ) → 0 < w → n < 256 → n % 256 ≡ n % limit w
count_kept n w some small = let l : n < limit w = omega (arith, small, limit_least w some) in mod-eq_of_lt small
    ∙ sym (mod-eq_of_lt l)

pub popcount_kept : (v w a : ℕ) → 0 < w → v ≤ 16 → a < limit v → popcount 1 a ≡ popcount w a
unfolding popcount
popcount_kept v w a some small below =
    let l : ones a ≤ 8 * v = ones_below (8 * v) a (let P : ℕ → Type 0 = λ n. a < n in subst P (limit_is v) below) in
    ap (λ n. ones a % n) (limit_is 1) ∙ count_kept (ones a) w some (omega (arith, l))

pub lzcount_kept : (v w a : ℕ) → 0 < w → v ≤ 16 → lzcount v 1 a ≡ lzcount v w a
unfolding lzcount
lzcount_kept v w a some small =
    ap (λ n. count_leading_zeros (8 * v) a % n) (limit_is 1)
    ∙ count_kept (count_leading_zeros (8 * v) a) w some (omega (arith, leading_le (8 * v) a))

module _ (ws : ℕ → ℕ) (env : ℕ → Option ℕ) where
  widened_by : (t : Bool) (w n : ℕ) (e : Expr)
      → (w == 1) ≡ t
      → 0 < w
      → w ≤ 16
      → Means ws env e 1 n
      → Means ws env (cond t e (E.Extend Zext (width_by w) e)) w n
  unfolding zext
  widened_by true w n e is some small m =
      let o : 1 ≡ w = grind (arith, nat_tests) in
      record { width = m.width ∙ o; value = m.value }
  widened_by false w n e is some small m = record {
    width = width_of_extend ws Zext (width_by w) e ∙ nearest_is w some small;
    value = one ws env e (E.Extend Zext (width_by w) e) (λ u x. unary_value U.ZeroExtend u x (nearest w)) 1 n
        (value_of_extend ws env Zext (width_by w) e) m;
  }

  pub widened_means : (w n : ℕ) (e : Expr) → 0 < w → w ≤ 16 → Means ws env e 1 n → Means ws env (widened w e) w n
  widened_means w n e some small m = widened_by (w == 1) w n e refl some small m
