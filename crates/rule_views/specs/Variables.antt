-- The variables of what is seen: how wide they are and, where it is asked, what they hold.
use Rattle.std.specs.Prelude.{ℕ, Option}
use Rattle.rules.specs.Readings.{Reading}

-- what each variable holds, if anything, and how divisions read
pub record Values : Type 0 where
  pub reading : Reading
  pub env : ℕ → Option ℕ

-- With values, a graph's place is seen only where they obey the equations of its nodes, so it reads as its value.
pub record Variables : Type 0 where
  pub widths : ℕ → ℕ
  pub values : Option Values
