-- The negation of a condition, and what it is for.
use Rattle.std.specs.Prelude.{◌≡◌, ℕ, ◌+◌, ◌≤◌, Bool, true, not, Option, Some}
use Rattle.bits_core.specs.declared.word.Word.{Word}
use Rattle.laws.specs.Condition.{taken}
use Rattle.cmeaning.specs.declared.tree.CompareOp.TheVariants.{Eq}
use Rattle.cmeaning.specs.declared.tree.Expr.{Expr}
use Rattle.cmeaning.specs.declared.tree.Expr.TheVariants as E
use Rattle.cmeaning.specs.Shape.{shape_of, is_condition}
use Rattle.cmeaning.specs.Value.{value_of}
use Rattle.rules.specs.Size.{size_of, depth_of, AreWords}
use Rattle.rules.specs.Letters.{Negated}

-- Of a condition of w bytes: the comparison negated, or a comparison of anything else with 0.
pub data IsNegation (w : ℕ) : Expr → Expr → Type 0 where
  OfComparison : (e n : Expr) → Negated e n → IsNegation w e n
  OfOther : (e : Expr) (z : Word) → ((n : Expr) → Negated e n → ⊥) → z.width.bytes ≡ w → z.value ≡ 0
      → IsNegation w e (E.Compare Eq e (E.Const z))

-- the value b is taken exactly where a isn't
abbrev pub Opposed : ℕ → Option ℕ → Type 0
Opposed a o = (b : ℕ) × ((o ≡ Some b) × (taken b ≡ not (taken a)))

pub record Negates (ws : ℕ → ℕ) (e n : Expr) : Type 0 where
  -- one byte, and the other truth value
  pub size : size_of ws n ≡ Some 1
  pub value : (env : ℕ → Option ℕ)
      → AreWords ws env
      → (a : ℕ)
      → value_of ws env e ≡ Some a
      → Opposed a (value_of ws env n)
  -- at most one level more, and still a condition
  pub depth : depth_of n ≤ depth_of e + 1
  pub condition : is_condition (shape_of ws e) ≡ true → is_condition (shape_of ws n) ≡ true
