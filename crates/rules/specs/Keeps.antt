-- What a rewrite keeps: the width, the value where there was one, and at most the depth.
use Rattle.std.specs.Prelude.{◌≡◌, ℕ, ◌≤◌, Option, Some}
use Rattle.cmeaning.specs.declared.tree.Expr.{Expr}
use Rattle.cmeaning.specs.Value.{value_of}
use Rattle.rules.specs.Size.{size_of, depth_of, AreWords}
use Rattle.rules.specs.Readings.{Reading, IsReading, value_by}

pub record Keeps (ws : ℕ → ℕ) (l r : Expr) : Type 0 where
  pub size : (w : ℕ) → size_of ws l ≡ Some w → size_of ws r ≡ Some w
  -- however divisions read
  pub value_by : (d : Reading) → IsReading d → (env : ℕ → Option ℕ) → AreWords ws env
      → (w n : ℕ) → size_of ws l ≡ Some w → value_by d ws env l ≡ Some n → value_by d ws env r ≡ Some n
  -- and so in C
  pub value : (env : ℕ → Option ℕ) → AreWords ws env
      → (w n : ℕ) → size_of ws l ≡ Some w → value_of ws env l ≡ Some n → value_of ws env r ≡ Some n
  pub depth : depth_of r ≤ depth_of l
