-- Reading expressions.
use Rattle.std.specs.Prelude.{ℕ, zero, suc, ◌+◌, ◌%◌, ◌==◌, min, nat_lt, Bool, true, false, if◌then◌else◌, List, codes, Option, Some, None}
use Rattle.bits_core.specs.declared.word.Width.{Width}
use Rattle.cmeaning.specs.declared.tree.UnaryOp.{UnaryOp}
use Rattle.cmeaning.specs.declared.tree.UnaryOp.TheVariants.{Neg, Not}
use Rattle.cmeaning.specs.declared.tree.ArithmeticOp.TheVariants as A
use Rattle.cmeaning.specs.declared.tree.DivisionOp.{DivisionOp}
use Rattle.cmeaning.specs.declared.tree.DivisionOp.TheVariants as D
use Rattle.cmeaning.specs.declared.tree.SignedDivisionOp.TheVariants as SD
use Rattle.cmeaning.specs.declared.tree.ShiftOp.TheVariants as H
use Rattle.cmeaning.specs.declared.tree.CompareOp.{CompareOp}
use Rattle.cmeaning.specs.declared.tree.CompareOp.TheVariants as C
use Rattle.cmeaning.specs.declared.tree.SignedCompareOp.TheVariants as SC
use Rattle.cmeaning.specs.declared.tree.ExtendOp.TheVariants.{Zext, Sext}
use Rattle.cmeaning.specs.declared.tree.OverflowOp.TheVariants as O
use Rattle.cmeaning.specs.declared.tree.CountOp.{CountOp}
use Rattle.cmeaning.specs.declared.tree.CountOp.TheVariants.{Popcount, Lzcount}
use Rattle.cmeaning.specs.declared.tree.Local.{Local}
use Rattle.cmeaning.specs.declared.tree.Expr.{Expr}
use Rattle.cmeaning.specs.declared.tree.Expr.TheVariants as e
use Rattle.ctext.specs.Names.{Scope, Variable, variable}
use Rattle.cread.specs.declared.item.Item.{Item}
use Rattle.cread.specs.declared.item.Sign.{Sign}
use Rattle.cread.specs.declared.item.Sign.TheVariants.{Arithmetic, Division, Shift, Compare}
use Rattle.cread.specs.declared.item.Pair.{Pair}
use Rattle.cread.specs.declared.item.Pair.TheVariants as P
use Rattle.cread.specs.Words.{◌>>=◌, after, ended, chosen, or_else, decimal_at, hex_at}
use Rattle.cread.specs.Names.{width_by, word_by, type_at, variable_at}

-- ---- words and signs

unfoldable pub unary_at : List ℕ → Option (UnaryOp × List ℕ)
unary_at bytes =
    chosen (after (codes "-") bytes) (λ rest. Some (Neg, rest))
    (chosen (after (codes "~") bytes) (λ rest. Some (Not, rest))
    None)

-- of a shift or a comparison
unfoldable pub test_at : List ℕ → Option (Sign × List ℕ)
test_at bytes =
    chosen (after (codes " << ") bytes) (λ rest. Some (Shift H.Shl, rest))
    (chosen (after (codes " >> ") bytes) (λ rest. Some (Shift H.Shr, rest))
    (chosen (after (codes " == ") bytes) (λ rest. Some (Compare C.Eq, rest))
    (chosen (after (codes " != ") bytes) (λ rest. Some (Compare C.Ne, rest))
    (chosen (after (codes " < ") bytes) (λ rest. Some (Compare C.Lt, rest))
    (chosen (after (codes " <= ") bytes) (λ rest. Some (Compare C.Le, rest))
    None)))))

-- the sign between two operands
unfoldable pub sign_at : List ℕ → Option (Sign × List ℕ)
sign_at bytes =
    chosen (after (codes " + ") bytes) (λ rest. Some (Arithmetic A.Add, rest))
    (chosen (after (codes " - ") bytes) (λ rest. Some (Arithmetic A.Sub, rest))
    (chosen (after (codes " * ") bytes) (λ rest. Some (Arithmetic A.Mul, rest))
    (chosen (after (codes " & ") bytes) (λ rest. Some (Arithmetic A.And, rest))
    (chosen (after (codes " | ") bytes) (λ rest. Some (Arithmetic A.Or, rest))
    (chosen (after (codes " ^ ") bytes) (λ rest. Some (Arithmetic A.Xor, rest))
    (chosen (after (codes " / ") bytes) (λ rest. Some (Division D.Div, rest))
    (chosen (after (codes " % ") bytes) (λ rest. Some (Division D.Rem, rest))
    (test_at bytes))))))))

unfoldable pub pair_at : List ℕ → Option (Pair × List ℕ)
pair_at bytes =
    chosen (after (codes "SHL(") bytes) (λ rest. Some (P.Shift H.Shl, rest))
    (chosen (after (codes "SHR(") bytes) (λ rest. Some (P.Shift H.Shr, rest))
    (chosen (after (codes "SAR(") bytes) (λ rest. Some (P.Shift H.Sar, rest))
    (chosen (after (codes "CONCAT(") bytes) (λ rest. Some (P.Concat, rest))
    (chosen (after (codes "CARRY(") bytes) (λ rest. Some (P.Overflow O.Carry, rest))
    (chosen (after (codes "SCARRY(") bytes) (λ rest. Some (P.Overflow O.SCarry, rest))
    (chosen (after (codes "SBORROW(") bytes) (λ rest. Some (P.Overflow O.SBorrow, rest))
    None))))))

unfoldable pub count_at : List ℕ → Option (CountOp × List ℕ)
count_at bytes =
    chosen (after (codes "POPCOUNT(") bytes) (λ rest. Some (Popcount, rest))
    (chosen (after (codes "LZCOUNT(") bytes) (λ rest. Some (Lzcount, rest))
    None)

-- ---- trees made of trees

-- an expression in an unsigned form
abbrev pub item : Expr → ℕ → Item
item t w = record { tree = t; width = w; signed = false }

abbrev pub as_signed : Item → Item
as_signed a = record { tree = a.tree; width = a.width; signed = true }

-- The width says what a cast is.
unfoldable pub resize : Width → Item → Item
resize w a = if w.bytes == a.width then item a.tree a.width
    else (if nat_lt w.bytes a.width then item (e.Part 0 w a.tree) w.bytes
    else (if a.signed then item (e.Extend Sext w a.tree) w.bytes else item (e.Extend Zext w a.tree) w.bytes))

abbrev pub divided : Bool → DivisionOp → Expr → Expr → Expr
divided true D.Div a b = e.SignedDivision SD.SDiv a b
divided true D.Rem a b = e.SignedDivision SD.SRem a b
divided false op a b = e.Division op a b

abbrev pub compared : Bool → CompareOp → Expr → Expr → Expr
compared true C.Lt a b = e.SignedCompare SC.SLt a b
compared true C.Le a b = e.SignedCompare SC.SLe a b
compared true C.Eq a b = e.Compare C.Eq a b
compared true C.Ne a b = e.Compare C.Ne a b
compared false op a b = e.Compare op a b

-- Operands in their signed forms make a signed division or comparison.
abbrev pub joined : Sign → Item → Item → Item
joined (Arithmetic op) a b = item (e.Arithmetic op a.tree b.tree) a.width
joined (Division op) a b = item (divided a.signed op a.tree b.tree) a.width
joined (Shift op) a b = item (e.Shift op a.tree b.tree) a.width
joined (Compare op) a b = item (compared a.signed op a.tree b.tree) 1

abbrev pub paired : Pair → Item → Item → Item
paired (P.Shift op) a b = item (e.Shift op a.tree b.tree) a.width
paired P.Concat a b = item (e.Concat a.tree b.tree) (min (a.width + b.width) 255)
paired (P.Overflow op) a b = item (e.Overflow op a.tree b.tree) 1

-- ---- readers, by one of operands

abbrev pub Reader : Type 0
Reader = List ℕ → Option (Item × List ℕ)

abbrev pub unary_by : Reader → UnaryOp × List ℕ → Option (Item × List ℕ)
unary_by sub op = sub op.1 >>= λ a. Some (item (e.Unary op.0 a.0.tree) a.0.width, a.1)

abbrev pub sign_by : Reader → Item × List ℕ → Option (Item × List ℕ)
sign_by sub a = chosen (sign_at a.1) (λ s. sub s.1 >>= λ b. Some (joined s.0 a.0 b.0, b.1)) (Some a)

abbrev pub binary_by : Reader → List ℕ → Option (Item × List ℕ)
binary_by sub bytes = sub bytes >>= sign_by sub

-- what stands alone, in parentheses or as a condition
unfoldable pub inner_by : Reader → List ℕ → Option (Item × List ℕ)
inner_by sub bytes = chosen (unary_at bytes) (unary_by sub) (binary_by sub bytes)

abbrev pub constant_by : Width → ℕ × List ℕ → Item × List ℕ
constant_by w n = (item (e.Const (word_by w n.0)) w.bytes, or_else n.1 (after (codes "uwb") n.1))

-- behind an unsigned cast
unfoldable pub cast_by : Reader → Width → List ℕ → Option (Item × List ℕ)
cast_by sub w bytes = chosen (after (codes "0x") bytes) (λ rest. Some (constant_by w (hex_at rest)))
    (sub bytes >>= λ a. Some (resize w a.0, a.1))

-- behind a signed cast
abbrev pub signed_by : Reader → List ℕ → Option (Item × List ℕ)
signed_by sub bytes = sub bytes >>= λ a. Some (as_signed a.0, a.1)

abbrev pub typed_by : Reader → Local → List ℕ → Option (Item × List ℕ)
typed_by sub t bytes = if t.signed then signed_by sub bytes else cast_by sub t.width bytes

-- up to a parenthesis
abbrev pub closed_by : Reader → List ℕ → Option (Item × List ℕ)
closed_by sub bytes = inner_by sub bytes >>= ended (codes ")")

-- behind a parenthesis
unfoldable pub paren_by : Reader → List ℕ → Option (Item × List ℕ)
paren_by sub bytes = chosen (type_at bytes) (λ t. after (codes ")") t.1 >>= typed_by sub t.0) (closed_by sub bytes)

-- two operands up to a parenthesis
unfoldable pub pair_by : Reader → Pair × List ℕ → Option (Item × List ℕ)
pair_by sub op = inner_by sub op.1 >>= ended (codes ", ") >>= λ a. closed_by sub a.1
    >>= λ b. Some (paired op.0 a.0 b.0, b.1)

unfoldable pub count_by : Reader → CountOp × List ℕ → Option (Item × List ℕ)
count_by sub op = closed_by sub op.1 >>= λ a. Some (item (e.Count op.0 a.0.tree) 1, a.1)

abbrev pub dropped_by : Width → Item → ℕ × List ℕ → Option (Item × List ℕ)
dropped_by w a k = after (codes ")") k.1 >>= λ rest. Some (item (e.Part (k.0 % 256) w a.tree) w.bytes, rest)

-- how many bytes are dropped, behind the operand
abbrev pub kept_of : Width → Item × List ℕ → Option (Item × List ℕ)
kept_of w a = after (codes ", 0x") a.1 >>= λ s. dropped_by w a.0 (hex_at s)

abbrev pub kept_by : Reader → ℕ × List ℕ → Option (Item × List ℕ)
kept_by sub w = after (codes "(") w.1 >>= inner_by sub >>= kept_of (width_by w.0)

-- behind SUB
unfoldable pub part_by : Reader → List ℕ → Option (Item × List ℕ)
part_by sub bytes = kept_by sub (decimal_at bytes)

abbrev pub variable_item : ℕ → Variable → Item
variable_item n v = record { tree = e.Var n; width = v.width; signed = v.signed }

unfoldable pub named_at : Scope → List ℕ → Option (Item × List ℕ)
named_at sc bytes = variable_at sc bytes >>= λ n. Some (variable_item n.0 (variable sc n.0), n.1)

-- without parentheses
unfoldable pub atom_by : Scope → Reader → List ℕ → Option (Item × List ℕ)
atom_by sc sub bytes =
    chosen (pair_at bytes) (pair_by sub)
    (chosen (count_at bytes) (count_by sub)
    (chosen (after (codes "SUB") bytes) (part_by sub)
    (named_at sc bytes)))

unfoldable pub operand_by : Scope → Reader → List ℕ → Option (Item × List ℕ)
operand_by sc sub bytes = chosen (after (codes "(") bytes) (paren_by sub) (atom_by sc sub bytes)

-- an operand, within so many levels
unfoldable pub operand_at : Scope → ℕ → List ℕ → Option (Item × List ℕ)
operand_at sc zero bytes = None
operand_at sc (suc n) bytes = operand_by sc (operand_at sc n) bytes

-- A level of a tree takes at most three levels of the reader, and a signed form one more.
unfoldable pub expr_at : Scope → List ℕ → Option (Expr × List ℕ)
expr_at sc bytes = inner_by (operand_at sc 200) bytes >>= λ a. Some (a.0.tree, a.1)

-- an expression up to a word
abbrev pub expr_to : Scope → List ℕ → List ℕ → Option (Expr × List ℕ)
expr_to sc word bytes = expr_at sc bytes >>= ended word
