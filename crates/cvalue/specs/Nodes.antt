-- What each kind of node means, by what its operands mean.
use Rattle.std.specs.Prelude.{ℕ, ◌+◌, Some}
use Rattle.bits_core.specs.declared.word.Width.{Width}
use Rattle.bits_core.specs.declared.ops.Binary.TheVariants as B
use Rattle.bits_core.specs.Value.{binary_value, divide_value}
use Rattle.cmeaning.specs.declared.tree.UnaryOp.{UnaryOp}
use Rattle.cmeaning.specs.declared.tree.ArithmeticOp.{ArithmeticOp}
use Rattle.cmeaning.specs.declared.tree.DivisionOp.{DivisionOp}
use Rattle.cmeaning.specs.declared.tree.SignedDivisionOp.{SignedDivisionOp}
use Rattle.cmeaning.specs.declared.tree.ShiftOp.{ShiftOp}
use Rattle.cmeaning.specs.declared.tree.CompareOp.{CompareOp}
use Rattle.cmeaning.specs.declared.tree.SignedCompareOp.{SignedCompareOp}
use Rattle.cmeaning.specs.declared.tree.ExtendOp.{ExtendOp}
use Rattle.cmeaning.specs.declared.tree.OverflowOp.{OverflowOp}
use Rattle.cmeaning.specs.declared.tree.CountOp.{CountOp}
use Rattle.cmeaning.specs.Value.{unary_of, arithmetic_of, division_of, signed_division_of, shift_of, compare_of, signed_compare_of, extend_of, overflow_of, count_of, with_value, with_values, signed_quotient, Meaning, of_one, of_two}

abbrev pub unary : UnaryOp → Meaning → Meaning
unary op a = of_one (unary_of op) a.width a

abbrev pub extend : ExtendOp → Width → Meaning → Meaning
extend op w a = of_one (extend_of op) w.bytes a

abbrev pub count : CountOp → Meaning → Meaning
count op a = of_one (count_of op) 1 a

abbrev pub part : ℕ → Width → Meaning → Meaning
part dropped w a =
    record {
      width = w.bytes;
      value = λ env. with_value (a.value env) (λ x. Some (binary_value B.Subpiece a.width x 1 dropped w.bytes));
    }

abbrev pub arithmetic : ArithmeticOp → Meaning → Meaning → Meaning
arithmetic op a b = of_two (arithmetic_of op) a.width a b

abbrev pub shift : ShiftOp → Meaning → Meaning → Meaning
shift op a b = of_two (shift_of op) a.width a b

abbrev pub compare : CompareOp → Meaning → Meaning → Meaning
compare op a b = of_two (compare_of op) 1 a b

abbrev pub signed_compare : SignedCompareOp → Meaning → Meaning → Meaning
signed_compare op a b = of_two (signed_compare_of op) 1 a b

abbrev pub overflow : OverflowOp → Meaning → Meaning → Meaning
overflow op a b = of_two (overflow_of op) 1 a b

abbrev pub concat : Meaning → Meaning → Meaning
concat a b = of_two B.Piece (a.width + b.width) a b

abbrev pub division : DivisionOp → Meaning → Meaning → Meaning
division op a b =
    record
    { width = a.width; value = λ env. with_values (a.value env) (b.value env) (divide_value (division_of op) a.width) }

abbrev pub signed_division : SignedDivisionOp → Meaning → Meaning → Meaning
signed_division op a b =
    record {
      width = a.width;
      value = λ env. with_values (a.value env) (b.value env) (signed_quotient (signed_division_of op) a.width);
    }
