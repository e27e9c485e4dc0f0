-- The value of a part of a word is SUBPIECE's.
use Rattle.std.proofs.Common.{◌≡◌, ℕ, ◌+◌, ◌-◌, ◌<◌, ◌≤◌, Bool, true, false, Option, Some, refl, sym, ap, ◌∙◌, subst, arith}
use Rattle.std.specs.Prelude.{◌==◌, cond, nat_le}
use Rattle.std.proofs.lemmas.Bool.Decides.{nat_tests}
use Rattle.bits_core.specs.declared.ops.Unary.TheVariants as U
use Rattle.bits_core.specs.declared.ops.Binary.TheVariants as B
use Rattle.bits_core.specs.Value.{limit, part, zext, binary_value, unary_value}
use Rattle.bits_core.proofs.Limits.{limit_pos}
use Rattle.laws.proofs.Parts.{part_whole, part_out, part_over}
use Rattle.cmeaning.specs.declared.tree.ExtendOp.TheVariants.{Zext}
use Rattle.cmeaning.specs.declared.tree.Expr.{Expr}
use Rattle.cmeaning.specs.declared.tree.Expr.TheVariants as E
use Rattle.cmeaning.proofs.Value.{width_of_part, value_of_part, width_of_extend, value_of_extend}
use Rattle.op_values.specs.Nodes.{nearest, width_by, constant, within_node, part_node}
use Rattle.op_values.proofs.Means.{Means, nearest_is, constant_means, one}

module _ (ws : ℕ → ℕ) (env : ℕ → Option ℕ) (u k : ℕ) (a : ℕ) (e : Expr) (below : a < limit u)
    (m : Means ws env e u a) where
  within_by : (t : Bool) (w : ℕ)
      → (w == u) ≡ t
      → k + w ≤ u
      → 0 < w
      → w ≤ 16
      → Means ws env (cond t e (E.Part k (width_by w) e)) w (part a k w)
  within_by true w is in' some small =
      let same : u ≡ w = grind (arith, nat_tests) in
      let none : k ≡ 0 = omega arith in
      let P : ℕ → Type 0 = λ j. a < limit j in
      record {
        width = m.width ∙ same;
        value = m.value
            ∙ ap (λ n. Some n) (sym (part_whole a w (subst P same below)) ∙ ap (λ j. part a j w) (sym none));
      }
  within_by false w is in' some small = record {
    width = width_of_part ws k (width_by w) e ∙ nearest_is w some small;
    value = one ws env e (E.Part k (width_by w) e) (λ v x. binary_value B.Subpiece v x 1 k (nearest w)) u a
        (value_of_part ws env k (width_by w) e) m
        ∙ ap (λ j. Some (part a k j)) (nearest_is w some small);
  }

  within_means : (w : ℕ)
      → k + w ≤ u
      → 0 < w
      → w ≤ 16
      → Means ws env (within_node u k w e) w (part a k w)
  within_means w in' some small = within_by (w == u) w refl in' some small

  extended_means : (w n : ℕ) (d : Expr)
      → 0 < w
      → w ≤ 16
      → (v : ℕ)
      → Means ws env d v n
      → Means ws env (E.Extend Zext (width_by w) d) w (zext n)
  extended_means w n d some small v h = record {
    width = width_of_extend ws Zext (width_by w) d ∙ nearest_is w some small;
    value = one ws env d (E.Extend Zext (width_by w) d) (λ u x. unary_value U.ZeroExtend u x (nearest w)) v n
        (value_of_extend ws env Zext (width_by w) d) h;
  }

  over_by : (t : Bool) (w : ℕ)
      → nat_le w (u - k) ≡ t
      → k < u
      → 0 < w
      → w ≤ 16
      → Means ws env
      (cond t (within_node u k w e) (E.Extend Zext (width_by w) (within_node u k (u - k) e))) w (part a k w)
  over_by true w is in' some small = within_means w (grind (arith, nat_tests)) some small
  over_by false w is in' some small =
      let past : u < k + w = grind (arith, nat_tests) in
      let P : ℕ → Type 0 =
      λ n. Means ws env (E.Extend Zext (width_by w) (within_node u k (u - k) e)) w n in
      subst P (sym (part_over u a k w below (omega arith) (omega (arith, past))))
      (extended_means w (part a k (u - k)) (within_node u k (u - k) e) some small (u - k)
      (within_means (u - k) (omega arith) (omega arith) (omega (arith, past))))

  part_by : (t : Bool) (w : ℕ)
      → nat_le u k ≡ t
      → 0 < w
      → w ≤ 16
      → Means ws env (cond t (constant w 0) (cond (nat_le w (u - k)) (within_node u k w e)
      (E.Extend Zext (width_by w) (within_node u k (u - k) e)))) w (part a k w)
  part_by true w is some small =
      let P : ℕ → Type 0 = λ n. Means ws env (constant w 0) w n in
      subst P (sym (part_out u a k w below (grind (arith, nat_tests))))
      (constant_means ws env w 0 some small (limit_pos w))
  part_by false w is some small = over_by (nat_le w (u - k)) w refl (grind (arith, nat_tests)) some small

pub part_means : (ws : ℕ → ℕ) (env : ℕ → Option ℕ) (u k w a : ℕ) (e : Expr)
    → 0 < w
    → w ≤ 16
    → a < limit u
    → Means ws env e u a
    → Means ws env (part_node u k w e) w (part a k w)
part_means ws env u k w a e some small below m = part_by ws env u k a e below m (nat_le u k) w refl some small
