-- The value of a division by a constant, as an expression and as a statement.
use Rattle.std.proofs.Common.{◌≡◌, ◌≢◌, ℕ, ◌-◌, true, false, Option, Some, None, refl, ap, ◌∙◌, arith}
use Rattle.std.specs.Prelude.{◌==◌, ◌&&◌, cond, not}
use Rattle.std.proofs.lemmas.Bool.{and_parts}
use Rattle.std.proofs.lemmas.Bool.Decides.{nat_tests}
use Rattle.bits_core.specs.declared.ops.Divide.{Divide}
use Rattle.bits_core.specs.declared.ops.Divide.TheVariants as D
use Rattle.bits_core.specs.Value.{limit, half, divide_value, quotient_or_rest}
use Rattle.laws.proofs.Division.{divide_some}
use Rattle.cmeaning.specs.declared.tree.DivisionOp.{DivisionOp}
use Rattle.cmeaning.specs.declared.tree.DivisionOp.TheVariants.{Div, Rem}
use Rattle.cmeaning.specs.declared.tree.SignedDivisionOp.{SignedDivisionOp}
use Rattle.cmeaning.specs.declared.tree.SignedDivisionOp.TheVariants.{SDiv, SRem}
use Rattle.cmeaning.specs.declared.tree.Expr.{Expr}
use Rattle.cmeaning.specs.declared.tree.Expr.TheVariants as E
use Rattle.cmeaning.specs.Do.{divide_of}
use Rattle.cmeaning.specs.Value.{division_of, signed_division_of, signed_quotient, with_value, with_values, width_of, value_of}
use Rattle.cmeaning.proofs.Value.{width_of_division, value_of_division, width_of_signed_division, value_of_signed_division}
use Rattle.op_values.specs.Nodes.{divides_by, division_node, statement_of}
use Rattle.op_values.proofs.Means.{Means}

-- the statement's operation is the division's
pub statement_is : (op : Divide) → divide_of (statement_of op) ≡ op
statement_is D.Quotient = refl
statement_is D.Remainder = refl
statement_is D.SignedQuotient = refl
statement_is D.SignedRemainder = refl

not_zero : (b : ℕ) → not (b == 0) ≡ true → b ≢ 0
not_zero b h = grind (arith, nat_tests)

-- the divisor isn't 0
pub divides_some : (op : Divide) (w b : ℕ) → divides_by op w b ≡ true → b ≢ 0
divides_some D.Quotient w b h = not_zero b h
divides_some D.Remainder w b h = not_zero b h
divides_some D.SignedQuotient w b h = not_zero b (and_parts _ _ h).0
divides_some D.SignedRemainder w b h = not_zero b (and_parts _ _ h).0

-- a signed quotient by another divisor than all ones has a value
signed_has : (op : Divide) (w a b : ℕ)
    → not (b == limit w - 1) ≡ true
    → signed_quotient op w a b ≡ divide_value op w a b
signed_has op w a b h =
    let t : (a == half w && b == limit w - 1) ≡ false = grind (arith, nat_tests) in
    ap (λ c. cond c None (divide_value op w a b)) t

module _ (ws : ℕ → ℕ) (env : ℕ → Option ℕ) (w a b : ℕ) (d e : Expr) (m : Means ws env d w a)
    (n : Means ws env e w b) where
  -- by the values of both
  both : (c : Expr) (f : ℕ → ℕ → ℕ → Option ℕ) (o : Option ℕ)
      → value_of ws env c ≡ with_values (value_of ws env d) (value_of ws env e) (f (width_of ws d))
      → f w a b ≡ o
      → value_of ws env c ≡ o
  both c f o is has =
      is
      ∙ ap (λ x. with_values x (value_of ws env e) (f (width_of ws d))) m.value
      ∙ ap (λ x. with_value x (f (width_of ws d) a)) n.value
      ∙ ap (λ v. f v a b) m.width
      ∙ has

  unsigned_means : (op : DivisionOp)
      → b ≢ 0
      → Means ws env (E.Division op d e) w (quotient_or_rest (division_of op) w a b)
  unsigned_means op some = record {
    width = width_of_division ws op d e ∙ m.width;
    value = both (E.Division op d e) (divide_value (division_of op))
        (Some (quotient_or_rest (division_of op) w a b)) (value_of_division ws env op d e)
        (divide_some (division_of op) w a b some);
  }

  signed_means : (op : SignedDivisionOp)
      → b ≢ 0
      → not (b == limit w - 1) ≡ true
      → Means ws env (E.SignedDivision op d e) w (quotient_or_rest (signed_division_of op) w a b)
  signed_means op some other = record {
    width = width_of_signed_division ws op d e ∙ m.width;
    value = both (E.SignedDivision op d e) (signed_quotient (signed_division_of op))
        (Some (quotient_or_rest (signed_division_of op) w a b)) (value_of_signed_division ws env op d e)
        (signed_has (signed_division_of op) w a b other ∙ divide_some (signed_division_of op) w a b some);
  }

  -- By a constant that makes it an expression.
  pub division_means : (op : Divide)
      → divides_by op w b ≡ true
      → Means ws env (division_node op d e) w (quotient_or_rest op w a b)
  division_means D.Quotient h = unsigned_means Div (not_zero b h)
  division_means D.Remainder h = unsigned_means Rem (not_zero b h)
  division_means D.SignedQuotient h = signed_means SDiv (not_zero b (and_parts _ _ h).0) (and_parts _ _ h).1
  division_means D.SignedRemainder h = signed_means SRem (not_zero b (and_parts _ _ h).0) (and_parts _ _ h).1
