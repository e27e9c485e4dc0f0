-- The value of an expression by how its divisions read. In C a signed quotient that doesn't fit has no value, and among
-- p-code's operations it wraps: the rules serve both, and so whatever reading has the quotient where it has a value.
use Rattle.std.specs.Prelude.{◌≡◌, ℕ, Option, Some}
use Rattle.bits_core.specs.declared.ops.Divide.{Divide}
use Rattle.bits_core.specs.Value.{divide_value, quotient_or_rest}
use Rattle.cmeaning.specs.declared.tree.Expr.{Expr, fold-Expr}
use Rattle.cmeaning.specs.declared.tree.Expr.TheOpen.{Expr-F}
use Rattle.cmeaning.specs.Value.{division_of, signed_division_of, with_values, signed_quotient, Meaning, meaning_step}

-- a quotient or a remainder of two words of a width, if it has a value
abbrev pub Quotients : Type 0
Quotients = Divide → ℕ → ℕ → ℕ → Option ℕ

-- of unsigned and of signed words
pub record Reading : Type 0 where
  pub plain : Quotients
  pub signed : Quotients

pub record IsReading (r : Reading) : Type 0 where
  pub plain : (op : Divide) (w a b n : ℕ) → r.plain op w a b ≡ Some n → quotient_or_rest op w a b ≡ n
  pub signed : (op : Divide) (w a b n : ℕ) → r.signed op w a b ≡ Some n → quotient_or_rest op w a b ≡ n

-- as C's text reads
abbrev pub as_c : Reading
as_c = record { plain = divide_value; signed = signed_quotient }

-- as p-code's operations do
abbrev pub as_ops : Reading
as_ops = record { plain = divide_value; signed = divide_value }

abbrev pub quotient_step : Quotients → Divide → Meaning → Meaning → Meaning
quotient_step q op a b =
    record { width = a.width; value = λ env. with_values (a.value env) (b.value env) (q op a.width) }

abbrev pub reading_step : Reading → (ℕ → ℕ) → Expr-F Meaning → Meaning
reading_step r ws (Expr-F.Division op a b) = quotient_step r.plain (division_of op) a b
reading_step r ws (Expr-F.SignedDivision op a b) = quotient_step r.signed (signed_division_of op) a b
reading_step r ws l = meaning_step ws l

unfoldable pub read_as : Reading → (ℕ → ℕ) → Expr → Meaning
read_as r ws e = fold-Expr Meaning (reading_step r ws) e

-- the value by a reading, given the widths of the variables and what they hold
abbrev pub value_by : Reading → (ℕ → ℕ) → (ℕ → Option ℕ) → Expr → Option ℕ
value_by r ws env e = (read_as r ws e).value env
