-- The values of p-code's integer and boolean operations, after the P-Code Reference Manual, with this project's own
-- sizes and answers where the manual leaves them open.
-- A word of w bytes is a number below `limit w`. Widths are in bytes, shift counts in bits.
use Rattle.std.specs.Prelude.{◌≡◌, ℕ, ◌+◌, ◌-◌, ◌*◌, ◌/◌, ◌%◌, ◌^◌, ◌<◌, Bool, true, false, not, nat_lt, nat_le, ◌==◌, ◌&&◌, ℤ, pos, negsuc, neg_ℤ, ◌+ℤ◌, ◌-ℤ◌, Option, Some, None, bit_and, bit_or, bit_xor, count_ones, int_lt, int_le, int_div, int_rem, if◌then◌else◌}
use Rattle.std.specs.Int.{int_shr}
use Rattle.std.specs.Int.Count.{count_leading_zeros}
use Rattle.bits_core.specs.declared.ops.Unary.{Unary}
use Rattle.bits_core.specs.declared.ops.Unary.TheVariants as U
use Rattle.bits_core.specs.declared.ops.Binary.{Binary}
use Rattle.bits_core.specs.declared.ops.Binary.TheVariants as B
use Rattle.bits_core.specs.declared.ops.Divide.{Divide}
use Rattle.bits_core.specs.declared.ops.Divide.TheVariants as D

-- ---- words

-- how many words there are of w bytes
unfoldable pub limit : ℕ → ℕ
limit w = 256 ^ w

-- the least word whose sign bit is set, 2 to the bits less 1
unfoldable pub half : ℕ → ℕ
half w = limit w / 2

-- the signed number that a word means in two's complement
abbrev pub signed : ℕ → ℕ → ℤ
signed w a = if nat_lt a (half w) then pos a else pos a -ℤ pos (limit w)

-- the word that means a signed number; a number that doesn't fit wraps, modulo 2 to the bits
abbrev pub word : ℕ → ℤ → ℕ
word w (pos n) = n % limit w
word w (negsuc n) = limit w - 1 - n % limit w

-- whether a signed number is one that a word means: at least -half and below half
abbrev pub fits : ℕ → ℤ → Bool
fits w z = int_le (neg_ℤ (pos (half w))) z && int_lt z (pos (half w))

-- what a test gives: 1 for true and 0 for false
abbrev pub flag : Bool → ℕ
flag true = 1
flag false = 0

-- ---- arithmetic, modulo 2 to the bits

-- INT_2COMP
unfoldable pub neg : ℕ → ℕ → ℕ
neg w a = (limit w - a) % limit w

-- INT_ADD
unfoldable pub add : ℕ → ℕ → ℕ → ℕ
add w a b = (a + b) % limit w

-- INT_SUB
unfoldable pub sub : ℕ → ℕ → ℕ → ℕ
sub w a b = (a + (limit w - b)) % limit w

-- INT_MULT
unfoldable pub mul : ℕ → ℕ → ℕ → ℕ
mul w a b = a * b % limit w

-- INT_DIV, by a divisor other than 0
unfoldable pub div : ℕ → ℕ → ℕ
div a b = a / b

-- INT_REM, likewise
unfoldable pub rem : ℕ → ℕ → ℕ
rem a b = a % b

-- INT_SDIV: toward zero. Only the least signed value by -1 doesn't fit, and gives the least value.
unfoldable pub sdiv : ℕ → ℕ → ℕ → ℕ
sdiv w a b = word w (int_div (signed w a) (signed w b))

-- INT_SREM: with the dividend's sign
unfoldable pub srem : ℕ → ℕ → ℕ → ℕ
srem w a b = word w (int_rem (signed w a) (signed w b))

-- ---- bits

-- INT_NEGATE: each bit the other way
unfoldable pub complement : ℕ → ℕ → ℕ
complement w a = limit w - 1 - a

-- INT_LEFT by n bits: the bits that leave are lost
unfoldable pub left : ℕ → ℕ → ℕ → ℕ
left w a n = a * 2 ^ n % limit w

-- INT_RIGHT by n bits
unfoldable pub right : ℕ → ℕ → ℕ
right a n = a / 2 ^ n

-- INT_SRIGHT by n bits: the signed number divided by 2 to the n, rounded down, which copies the sign bit
unfoldable pub sright : ℕ → ℕ → ℕ → ℕ
sright w a n = word w (int_shr (signed w a) n)

-- POPCOUNT, reduced to the output's width w
unfoldable pub popcount : ℕ → ℕ → ℕ
popcount w a = count_ones a % limit w

-- LZCOUNT of a word of v bytes, reduced to the output's width w; all bits for the word 0
unfoldable pub lzcount : ℕ → ℕ → ℕ → ℕ
lzcount v w a = count_leading_zeros (8 * v) a % limit w

-- ---- tests

-- INT_EQUAL
unfoldable pub eq : ℕ → ℕ → ℕ
eq a b = flag (a == b)

-- INT_NOTEQUAL
unfoldable pub ne : ℕ → ℕ → ℕ
ne a b = flag (not (a == b))

-- INT_LESS, unsigned
unfoldable pub lt : ℕ → ℕ → ℕ
lt a b = flag (nat_lt a b)

-- INT_LESSEQUAL, unsigned
unfoldable pub le : ℕ → ℕ → ℕ
le a b = flag (nat_le a b)

-- INT_SLESS
unfoldable pub slt : ℕ → ℕ → ℕ → ℕ
slt w a b = flag (int_lt (signed w a) (signed w b))

-- INT_SLESSEQUAL
unfoldable pub sle : ℕ → ℕ → ℕ → ℕ
sle w a b = flag (int_le (signed w a) (signed w b))

-- INT_CARRY: the unsigned sum doesn't fit
unfoldable pub carry : ℕ → ℕ → ℕ → ℕ
carry w a b = flag (nat_le (limit w) (a + b))

-- INT_SCARRY: the signed sum doesn't fit
unfoldable pub scarry : ℕ → ℕ → ℕ → ℕ
scarry w a b = flag (not (fits w (signed w a +ℤ signed w b)))

-- INT_SBORROW: the signed difference doesn't fit
unfoldable pub sborrow : ℕ → ℕ → ℕ → ℕ
sborrow w a b = flag (not (fits w (signed w a -ℤ signed w b)))

-- ---- wider and narrower words

-- INT_ZEXT
unfoldable pub zext : ℕ → ℕ
zext a = a

-- INT_SEXT of a word of v bytes to w bytes
unfoldable pub sext : ℕ → ℕ → ℕ → ℕ
sext v w a = word w (signed v a)

-- PIECE: the high part a, and the low part b of v bytes
unfoldable pub concat : ℕ → ℕ → ℕ → ℕ
concat v a b = a * limit v + b

-- SUBPIECE: the w low bytes of a, after k low bytes are dropped; zeros past its top
unfoldable pub part : ℕ → ℕ → ℕ → ℕ
part a k w = a / limit k % limit w

-- ---- the operations by their names

-- the size rule: the widths v of the input and w of the output
abbrev pub IsUnarySized : Unary → ℕ → ℕ → Type 0
IsUnarySized U.Copy v w = v ≡ w
IsUnarySized U.Negate v w = v ≡ w
IsUnarySized U.Complement v w = v ≡ w
IsUnarySized U.ZeroExtend v w = v < w
IsUnarySized U.SignExtend v w = v < w
IsUnarySized U.CountOnes v w = Unit {0}
IsUnarySized U.CountLeadingZeros v w = Unit {0}
IsUnarySized U.BoolNegate v w = (v ≡ 1) × (w ≡ 1)

-- the value at an input a of width v, with an output of width w. BOOL_NEGATE is exclusive-or with 1.
abbrev pub unary_value : Unary → ℕ → ℕ → ℕ → ℕ
unary_value U.Copy v a w = a
unary_value U.Negate v a w = neg w a
unary_value U.Complement v a w = complement w a
unary_value U.ZeroExtend v a w = zext a
unary_value U.SignExtend v a w = sext v w a
unary_value U.CountOnes v a w = popcount w a
unary_value U.CountLeadingZeros v a w = lzcount v w a
unary_value U.BoolNegate v a w = bit_xor a 1

-- the size rule: the widths u and v of the inputs and w of the output
abbrev pub IsBinarySized : Binary → ℕ → ℕ → ℕ → Type 0
IsBinarySized B.Piece u v w = w ≡ u + v
IsBinarySized B.Subpiece u v w = Unit {0}
IsBinarySized B.Add u v w = (u ≡ w) × (v ≡ w)
IsBinarySized B.Subtract u v w = (u ≡ w) × (v ≡ w)
IsBinarySized B.Multiply u v w = (u ≡ w) × (v ≡ w)
IsBinarySized B.And u v w = (u ≡ w) × (v ≡ w)
IsBinarySized B.Or u v w = (u ≡ w) × (v ≡ w)
IsBinarySized B.Xor u v w = (u ≡ w) × (v ≡ w)
IsBinarySized B.Equal u v w = (u ≡ v) × (w ≡ 1)
IsBinarySized B.NotEqual u v w = (u ≡ v) × (w ≡ 1)
IsBinarySized B.Less u v w = (u ≡ v) × (w ≡ 1)
IsBinarySized B.LessEqual u v w = (u ≡ v) × (w ≡ 1)
IsBinarySized B.SignedLess u v w = (u ≡ v) × (w ≡ 1)
IsBinarySized B.SignedLessEqual u v w = (u ≡ v) × (w ≡ 1)
IsBinarySized B.Carry u v w = (u ≡ v) × (w ≡ 1)
IsBinarySized B.SignedCarry u v w = (u ≡ v) × (w ≡ 1)
IsBinarySized B.SignedBorrow u v w = (u ≡ v) × (w ≡ 1)
IsBinarySized B.Left u v w = u ≡ w
IsBinarySized B.Right u v w = u ≡ w
IsBinarySized B.SignedRight u v w = u ≡ w
IsBinarySized B.BoolAnd u v w = (u ≡ 1) × (v ≡ 1) × (w ≡ 1)
IsBinarySized B.BoolOr u v w = (u ≡ 1) × (v ≡ 1) × (w ≡ 1)
IsBinarySized B.BoolXor u v w = (u ≡ 1) × (v ≡ 1) × (w ≡ 1)

-- the value at inputs a of width u and b of width v, with an output of width w. BOOL_AND, BOOL_OR and BOOL_XOR are
-- bitwise; SUBPIECE has the number of dropped bytes as its second input.
abbrev pub binary_value : Binary → ℕ → ℕ → ℕ → ℕ → ℕ → ℕ
binary_value B.Piece u a v b w = concat v a b
binary_value B.Subpiece u a v b w = part a b w
binary_value B.Add u a v b w = add w a b
binary_value B.Subtract u a v b w = sub w a b
binary_value B.Multiply u a v b w = mul w a b
binary_value B.And u a v b w = bit_and a b
binary_value B.Or u a v b w = bit_or a b
binary_value B.Xor u a v b w = bit_xor a b
binary_value B.Equal u a v b w = eq a b
binary_value B.NotEqual u a v b w = ne a b
binary_value B.Less u a v b w = lt a b
binary_value B.LessEqual u a v b w = le a b
binary_value B.SignedLess u a v b w = slt u a b
binary_value B.SignedLessEqual u a v b w = sle u a b
binary_value B.Carry u a v b w = carry u a b
binary_value B.SignedCarry u a v b w = scarry u a b
binary_value B.SignedBorrow u a v b w = sborrow u a b
binary_value B.Left u a v b w = left w a b
binary_value B.Right u a v b w = right a b
binary_value B.SignedRight u a v b w = sright w a b
binary_value B.BoolAnd u a v b w = bit_and a b
binary_value B.BoolOr u a v b w = bit_or a b
binary_value B.BoolXor u a v b w = bit_xor a b

-- the quotient or remainder at inputs a and b of width w, where b isn't 0
abbrev pub quotient_or_rest : Divide → ℕ → ℕ → ℕ → ℕ
quotient_or_rest D.Quotient w a b = div a b
quotient_or_rest D.SignedQuotient w a b = sdiv w a b
quotient_or_rest D.Remainder w a b = rem a b
quotient_or_rest D.SignedRemainder w a b = srem w a b

-- the value of a division or a remainder, which has none where the divisor b is 0
abbrev pub divide_value : Divide → ℕ → ℕ → ℕ → Option ℕ
divide_value op w a b = if b == 0 then None else Some (quotient_or_rest op w a b)
