-- The text of an expression. This project's own: the operators are those of C23, and the calls in capitals are described
-- where an expression's value is defined.
use Rattle.std.specs.Prelude.{ℕ, zero, suc, ◌+◌, ◌*◌, ◌^◌, min, Bool, true, false, nat_lt, if◌then◌else◌, List, [], ◌∷◌, ◌++◌, codes, Option, Some, None}
use Rattle.std.specs.Fmt.{decimal}
use Rattle.cmeaning.specs.declared.tree.UnaryOp.{UnaryOp}
use Rattle.cmeaning.specs.declared.tree.UnaryOp.TheVariants as U
use Rattle.cmeaning.specs.declared.tree.ArithmeticOp.{ArithmeticOp}
use Rattle.cmeaning.specs.declared.tree.ArithmeticOp.TheVariants as A
use Rattle.cmeaning.specs.declared.tree.DivisionOp.{DivisionOp}
use Rattle.cmeaning.specs.declared.tree.DivisionOp.TheVariants as D
use Rattle.cmeaning.specs.declared.tree.SignedDivisionOp.{SignedDivisionOp}
use Rattle.cmeaning.specs.declared.tree.SignedDivisionOp.TheVariants as SD
use Rattle.cmeaning.specs.declared.tree.ShiftOp.{ShiftOp}
use Rattle.cmeaning.specs.declared.tree.ShiftOp.TheVariants as H
use Rattle.cmeaning.specs.declared.tree.CompareOp.{CompareOp}
use Rattle.cmeaning.specs.declared.tree.CompareOp.TheVariants as C
use Rattle.cmeaning.specs.declared.tree.SignedCompareOp.{SignedCompareOp}
use Rattle.cmeaning.specs.declared.tree.SignedCompareOp.TheVariants as SC
use Rattle.cmeaning.specs.declared.tree.ExtendOp.{ExtendOp}
use Rattle.cmeaning.specs.declared.tree.ExtendOp.TheVariants as E
use Rattle.cmeaning.specs.declared.tree.OverflowOp.{OverflowOp}
use Rattle.cmeaning.specs.declared.tree.OverflowOp.TheVariants as O
use Rattle.cmeaning.specs.declared.tree.CountOp.{CountOp}
use Rattle.cmeaning.specs.declared.tree.CountOp.TheVariants as N
use Rattle.cmeaning.specs.declared.tree.Expr.{Expr, fold-Expr}
use Rattle.cmeaning.specs.declared.tree.Expr.TheOpen.{Expr-F}
use Rattle.ctext.specs.declared.expressions.Mode.{Mode}
use Rattle.ctext.specs.declared.expressions.Mode.TheVariants.{Plain, Operand, Signed, Test}
use Rattle.ctext.specs.Names.{Scope, Variable, variable, hex, type_text}

-- The texts of an expression: as it stands alone, unsigned; as an operand, with parentheses where it is of a binary or
-- unary form; as a signed operand; and as a condition. Beside them its width in bytes, and its value where it is a constant.
pub record Form : Type 0 where
  pub width : ℕ
  pub constant : Option ℕ
  pub plain : List ℕ
  pub operand : List ℕ
  pub signed : List ℕ
  pub test : List ℕ

-- something in parentheses
abbrev pub enclosed : List ℕ → List ℕ
enclosed t = 40 ∷ (t ++ 41 ∷ [])

-- something behind a cast
abbrev pub cast : Bool → ℕ → List ℕ → List ℕ
cast signed w t = 40 ∷ (type_text signed w ++ 41 ∷ t)

abbrev pub unsigned_cast : ℕ → List ℕ → List ℕ
unsigned_cast w t = cast false w t

abbrev pub signed_cast : ℕ → List ℕ → List ℕ
signed_cast w t = cast true w t

-- of a binary or unary form
abbrev pub compound : ℕ → List ℕ → Form
compound w t = record {
  width = w;
  constant = None;
  plain = t;
  operand = enclosed t;
  signed = signed_cast w (enclosed t);
  test = t;
}

-- of any other form
abbrev pub simple : ℕ → List ℕ → Form
simple w t = record { width = w; constant = None; plain = t; operand = t; signed = signed_cast w t; test = t }

-- a comparison: as a condition it has neither the cast nor the parentheses of its own
abbrev pub comparison : List ℕ → Form
comparison t = let whole = unsigned_cast 1 (enclosed t) in
    record { width = 1; constant = None; plain = whole; operand = whole; signed = signed_cast 1 whole; test = t }

-- a constant past 64 bits needs a suffix
abbrev pub suffix : ℕ → List ℕ
suffix n = if nat_lt n (2 ^ 64) then [] else codes "uwb"

abbrev pub constant : ℕ → ℕ → Form
constant w n = let t = unsigned_cast w (codes "0x" ++ (hex n ++ suffix n)) in
    record { width = w; constant = Some n; plain = t; operand = t; signed = signed_cast w t; test = t }

-- a signed variable stands as itself where a signed operand is asked, and behind a cast elsewhere
abbrev pub variable_form : Variable → Form
variable_form v = if v.signed then
    (let t = unsigned_cast v.width v.name in
    record { width = v.width; constant = None; plain = t; operand = t; signed = v.name; test = t })
    else simple v.width v.name

abbrev pub unary_sign : UnaryOp → List ℕ
unary_sign U.Neg = codes "-"
unary_sign U.Not = codes "~"

abbrev pub arithmetic_sign : ArithmeticOp → List ℕ
arithmetic_sign A.Add = codes " + "
arithmetic_sign A.Sub = codes " - "
arithmetic_sign A.Mul = codes " * "
arithmetic_sign A.And = codes " & "
arithmetic_sign A.Or = codes " | "
arithmetic_sign A.Xor = codes " ^ "

abbrev pub division_sign : DivisionOp → List ℕ
division_sign D.Div = codes " / "
division_sign D.Rem = codes " % "

abbrev pub signed_division_sign : SignedDivisionOp → List ℕ
signed_division_sign SD.SDiv = codes " / "
signed_division_sign SD.SRem = codes " % "

abbrev pub compare_sign : CompareOp → List ℕ
compare_sign C.Eq = codes " == "
compare_sign C.Ne = codes " != "
compare_sign C.Lt = codes " < "
compare_sign C.Le = codes " <= "

abbrev pub signed_compare_sign : SignedCompareOp → List ℕ
signed_compare_sign SC.SLt = codes " < "
signed_compare_sign SC.SLe = codes " <= "

abbrev pub shift_word : ShiftOp → List ℕ
shift_word H.Shl = codes "SHL"
shift_word H.Shr = codes "SHR"
shift_word H.Sar = codes "SAR"

abbrev pub overflow_word : OverflowOp → List ℕ
overflow_word O.Carry = codes "CARRY"
overflow_word O.SCarry = codes "SCARRY"
overflow_word O.SBorrow = codes "SBORROW"

abbrev pub count_word : CountOp → List ℕ
count_word N.Popcount = codes "POPCOUNT"
count_word N.Lzcount = codes "LZCOUNT"

-- two operands with a sign between them
abbrev pub between : List ℕ → List ℕ → List ℕ → List ℕ
between a sign b = a ++ (sign ++ b)

-- a call of two operands
abbrev pub call_of_two : List ℕ → Form → Form → List ℕ
call_of_two word a b = word ++ (40 ∷ (a.plain ++ (codes ", " ++ (b.plain ++ 41 ∷ []))))

-- the operator of a shift, where it has one, for a count that is below the bits of the left operand
abbrev pub shift_sign : ShiftOp → Option (List ℕ)
shift_sign H.Shl = Some (codes " << ")
shift_sign H.Shr = Some (codes " >> ")
shift_sign H.Sar = None

abbrev pub is_below : Option ℕ → ℕ → Bool
is_below None bits = false
is_below (Some n) bits = nat_lt n bits

abbrev pub shift_by_sign : Option (List ℕ) → ShiftOp → Form → Form → Form
shift_by_sign None op a b = simple a.width (call_of_two (shift_word op) a b)
shift_by_sign (Some sign) op a b = compound a.width (between a.operand sign b.operand)

-- with an operator exactly where the count is a constant below the bits of the left operand
abbrev pub shift_form : ShiftOp → Form → Form → Form
shift_form op a b = shift_by_sign (if is_below b.constant (8 * a.width) then shift_sign op else None) op a b

abbrev pub extend_text : ExtendOp → Form → List ℕ
extend_text E.Zext a = a.operand
extend_text E.Sext a = a.signed

-- the part that is left after k low bytes are dropped
abbrev pub part_text : ℕ → ℕ → Form → List ℕ
part_text zero w a = unsigned_cast w a.operand
part_text (suc k) w a = codes "SUB" ++ (decimal w ++ (40 ∷ (a.plain ++ (codes ", 0x" ++ (hex (suc k) ++ 41 ∷ [])))))

-- The texts of one node from those of its operands. A width past 255 bytes counts as 255; no valid expression has more
-- than 16.
abbrev pub form_step : Scope → Expr-F Form → Form
form_step sc (Expr-F.Const word) = constant word.width.bytes word.value
form_step sc (Expr-F.Var n) = variable_form (variable sc n)
form_step sc (Expr-F.Unary op a) = compound a.width (unary_sign op ++ a.operand)
form_step sc (Expr-F.Arithmetic op a b) = compound a.width (between a.operand (arithmetic_sign op) b.operand)
form_step sc (Expr-F.Division op a b) = compound a.width (between a.operand (division_sign op) b.operand)
form_step sc (Expr-F.SignedDivision op a b) =
    simple a.width (unsigned_cast a.width (enclosed (between a.signed (signed_division_sign op) b.signed)))
form_step sc (Expr-F.Shift op a b) = shift_form op a b
form_step sc (Expr-F.Compare op a b) = comparison (between a.operand (compare_sign op) b.operand)
form_step sc (Expr-F.SignedCompare op a b) = comparison (between a.signed (signed_compare_sign op) b.signed)
form_step sc (Expr-F.Extend op w a) = simple w.bytes (unsigned_cast w.bytes (extend_text op a))
form_step sc (Expr-F.Part k w a) = simple w.bytes (part_text k w.bytes a)
form_step sc (Expr-F.Concat a b) = simple (min (a.width + b.width) 255) (call_of_two (codes "CONCAT") a b)
form_step sc (Expr-F.Overflow op a b) = simple 1 (call_of_two (overflow_word op) a b)
form_step sc (Expr-F.Count op a) = simple 1 (count_word op ++ enclosed a.plain)

unfoldable pub form : Scope → Expr → Form
form sc e = fold-Expr Form (form_step sc) e

-- ---- the texts by name

abbrev pub shown : Mode → Form → List ℕ
shown Plain f = f.plain
shown Operand f = f.operand
shown Signed f = f.signed
shown Test f = f.test

-- what stands around a text of a binary or unary form
abbrev pub before : Mode → ℕ → List ℕ
before Plain w = []
before Operand w = codes "("
before Signed w = signed_cast w (codes "(")
before Test w = []

abbrev pub behind : Mode → List ℕ
behind Plain = []
behind Operand = codes ")"
behind Signed = codes ")"
behind Test = []

-- what stands before a text of another form
abbrev pub front : Mode → ℕ → List ℕ
front Plain w = []
front Operand w = []
front Signed w = signed_cast w []
front Test w = []

-- what stands around a comparison
abbrev pub open_test : Mode → List ℕ
open_test Plain = unsigned_cast 1 (codes "(")
open_test Operand = unsigned_cast 1 (codes "(")
open_test Signed = signed_cast 1 (unsigned_cast 1 (codes "("))
open_test Test = []

abbrev pub shut_test : Mode → List ℕ
shut_test Plain = codes ")"
shut_test Operand = codes ")"
shut_test Signed = codes ")"
shut_test Test = []
