-- The value of an address is the byte address that the offset counts, in its space.
use Rattle.std.proofs.Common.{◌≡◌, ℕ, ◌+◌, ◌-◌, ◌*◌, ◌%◌, ◌<◌, ◌≤◌, Bool, true, false, Option, refl, sym, ap, ◌∙◌, arith}
use Rattle.std.specs.Prelude.{◌==◌, cond, nat_lt}
use Rattle.std.proofs.lemmas.Bool.Decides.{nat_tests}
use Rattle.bits_core.specs.declared.ops.Unary.TheVariants as U
use Rattle.bits_core.specs.declared.ops.Binary.TheVariants as B
use Rattle.bits_core.specs.Value.{limit, mul, zext, binary_value, unary_value}
use Rattle.bits_core.proofs.Limits.{limit_least}
use Rattle.laws.proofs.Parts.{narrower}
use Rattle.cmeaning.specs.declared.tree.ArithmeticOp.TheVariants.{Mul}
use Rattle.cmeaning.specs.declared.tree.ExtendOp.TheVariants.{Zext}
use Rattle.cmeaning.specs.declared.tree.Expr.{Expr}
use Rattle.cmeaning.specs.declared.tree.Expr.TheVariants as E
use Rattle.cmeaning.proofs.Value.{width_of_arithmetic, value_of_arithmetic, width_of_extend, value_of_extend}
use Rattle.op_values.specs.Nodes.{nearest, width_by, constant, address_node}
use Rattle.op_values.proofs.Means.{Means, nearest_is, constant_means, one, two}

-- The expression's value is a byte address, modulo a space whose offsets have s bytes.
pub record Addresses (ws : ℕ → ℕ) (env : ℕ → Option ℕ) (s : ℕ) (e : Expr) (at : ℕ) : Type 0 where
  pub width : ℕ
  pub word : ℕ
  pub means : Means ws env e width word
  pub is : word % limit s ≡ at % limit s

low_of : (n s w : ℕ) → s ≤ w → n % limit w % limit s ≡ n % limit s
low_of n s w h =
    let e : w ≡ (w - s) + s = omega arith in
    ap (λ j. n % limit j % limit s) e ∙ narrower n (w - s) s

module _ (ws : ℕ → ℕ) (env : ℕ → Option ℕ) (s k : ℕ) (some : 0 < s) (small : s ≤ 16) (few : k < 256) where
  scaled : (w a : ℕ) (e : Expr)
      → 0 < w
      → w ≤ 16
      → s ≤ w
      → Means ws env e w a
      → Addresses ws env s (E.Arithmetic Mul e (constant w k)) (a * k)
  unfolding mul
  scaled w a e wide narrow h m =
      let fits : k < limit w = omega (arith, few, limit_least w wide) in
      let c = constant_means ws env w k wide narrow fits in
      record {
        width = w;
        word = a * k % limit w;
        means = record {
          width = width_of_arithmetic ws Mul e (constant w k) ∙ m.width;
          value = two ws env (E.Arithmetic Mul e (constant w k)) e (constant w k)
              (λ u x v y. binary_value B.Multiply u x v y u) w w a k (value_of_arithmetic ws env Mul e (constant w k))
              m c;
        };
        is = low_of (a * k) s w h;
      }

  extended : (w a : ℕ) (e : Expr) → Means ws env e w a → Means ws env (E.Extend Zext (width_by s) e) s a
  unfolding zext
  extended w a e m = record {
    width = width_of_extend ws Zext (width_by s) e ∙ nearest_is s some small;
    value = one ws env e (E.Extend Zext (width_by s) e) (λ u x. unary_value U.ZeroExtend u x (nearest s)) w a
        (value_of_extend ws env Zext (width_by s) e) m;
  }

  wider_by : (t : Bool) (w a : ℕ) (e : Expr)
      → nat_lt w s ≡ t
      → 0 < w
      → w ≤ 16
      → Means ws env e w a
      → Addresses ws env s
      (cond t (E.Arithmetic Mul (E.Extend Zext (width_by s) e) (constant s k)) (E.Arithmetic Mul e (constant w k)))
      (a * k)
  wider_by true w a e is wide narrow m =
      scaled s a (E.Extend Zext (width_by s) e) some small (omega arith) (extended w a e m)
  wider_by false w a e is wide narrow m = scaled w a e wide narrow (grind (arith, nat_tests)) m

  address_by : (t : Bool) (w a : ℕ) (e : Expr)
      → (k == 1) ≡ t
      → 0 < w
      → w ≤ 16
      → Means ws env e w a
      → Addresses ws env s (cond t e (cond (nat_lt w s)
      (E.Arithmetic Mul (E.Extend Zext (width_by s) e) (constant s k)) (E.Arithmetic Mul e (constant w k)))) (a * k)
  address_by true w a e is wide narrow m =
      let one : k ≡ 1 = grind (arith, nat_tests) in
      let alone : a ≡ a * 1 = omega arith in
      let same : a ≡ a * k = alone ∙ ap (λ j. a * j) (sym one) in
      record { width = w; word = a; means = m; is = ap (λ n. n % limit s) same }
  address_by false w a e is wide narrow m = wider_by (nat_lt w s) w a e refl wide narrow m

  -- The address of words of k bytes in a space whose offsets have s bytes.
  pub address_means : (w a : ℕ) (e : Expr)
      → 0 < w
      → w ≤ 16
      → Means ws env e w a
      → Addresses ws env s (address_node s k w e) (a * k)
  address_means w a e wide narrow m = address_by (k == 1) w a e refl wide narrow m
