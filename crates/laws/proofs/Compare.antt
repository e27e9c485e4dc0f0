-- Laws of comparisons, carries and borrows.
use Rattle.std.proofs.Common.{◌≡◌, ℕ, ◌<◌, ◌≤◌, sym, ap, ◌∙◌, arith, Bool, true, false, bit_and, bit_or, bit_xor}
use Rattle.std.proofs.lemmas.Bool.Decides.{nat_tests}
use Rattle.std.proofs.lemmas.Int.{ints}
use Rattle.std.specs.Int.Bits.{xor_assoc, xor_self, xor_zero_l, xor_zero_r}
use Rattle.bits_core.specs.Value.{limit, slt, sle, sborrow, scarry, carry, add, sub, ne, eq, lt, le, flag}
use Rattle.bits_core.proofs.Limits.{halves, sub_cases, add_cases}
use Rattle.bits_core.proofs.Signed.{signed_cases}

-- F2
pub eq_comm : (x y : ℕ) → eq x y ≡ eq y x
unfolding eq
eq_comm x y = grind (arith, nat_tests)

pub ne_comm : (x y : ℕ) → ne x y ≡ ne y x
unfolding ne
ne_comm x y = grind (arith, nat_tests)

-- what a test gives is at most 1
pub flag_most : (b : Bool) → flag b ≤ 1
flag_most true = omega arith
flag_most false = omega arith

pub eq_most : (x y : ℕ) → eq x y ≤ 1
unfolding eq
eq_most x y = flag_most _

pub ne_most : (x y : ℕ) → ne x y ≤ 1
unfolding ne
ne_most x y = flag_most _

pub lt_most : (x y : ℕ) → lt x y ≤ 1
unfolding lt
lt_most x y = flag_most _

pub le_most : (x y : ℕ) → le x y ≤ 1
unfolding le
le_most x y = flag_most _

pub slt_most : (w x y : ℕ) → slt w x y ≤ 1
unfolding slt
slt_most w x y = flag_most _

pub sle_most : (w x y : ℕ) → sle w x y ≤ 1
unfolding sle
sle_most w x y = flag_most _

pub carry_most : (w x y : ℕ) → carry w x y ≤ 1
unfolding carry
carry_most w x y = flag_most _

pub scarry_most : (w x y : ℕ) → scarry w x y ≤ 1
unfolding scarry
scarry_most w x y = flag_most _

pub sborrow_most : (w x y : ℕ) → sborrow w x y ≤ 1
unfolding sborrow
sborrow_most w x y = flag_most _

-- B1: v ^ 1 and v != 1 are v == 0, which is the comparison negated
pub xor_one : (v : ℕ) → v ≤ 1 → bit_xor v 1 ≡ eq v 0
unfolding eq
xor_one v h = grind (arith, nat_tests)

pub ne_one : (v : ℕ) → v ≤ 1 → ne v 1 ≡ eq v 0
unfolding eq ne
ne_one v h = grind (arith, nat_tests)

pub not_eq : (x y : ℕ) → eq (eq x y) 0 ≡ ne x y
unfolding eq ne
not_eq x y = grind (arith, nat_tests)

pub not_ne : (x y : ℕ) → eq (ne x y) 0 ≡ eq x y
unfolding eq ne
not_ne x y = grind (arith, nat_tests)

pub not_lt : (x y : ℕ) → eq (lt x y) 0 ≡ le y x
unfolding eq lt le
not_lt x y = grind (arith, nat_tests)

pub not_le : (x y : ℕ) → eq (le x y) 0 ≡ lt y x
unfolding eq lt le
not_le x y = grind (arith, nat_tests)

pub not_slt : (w x y : ℕ) → eq (slt w x y) 0 ≡ sle w y x
unfolding eq slt sle
not_slt w x y = grind (arith, nat_tests, ints)

pub not_sle : (w x y : ℕ) → eq (sle w x y) 0 ≡ slt w y x
unfolding eq slt sle
not_sle w x y = grind (arith, nat_tests, ints)

-- B2
pub ne_zero : (v : ℕ) → v ≤ 1 → ne v 0 ≡ v
unfolding ne
ne_zero v h = grind (arith, nat_tests)

pub eq_one : (v : ℕ) → v ≤ 1 → eq v 1 ≡ v
unfolding eq
eq_one v h = grind (arith, nat_tests)

-- C1
pub sub_eq_zero : (w x y : ℕ) → x < limit w → y < limit w → eq (sub w x y) 0 ≡ eq x y
unfolding eq
sub_eq_zero w x y p q = grind (arith, nat_tests, sub_cases)

pub sub_ne_zero : (w x y : ℕ) → x < limit w → y < limit w → ne (sub w x y) 0 ≡ ne x y
unfolding ne
sub_ne_zero w x y p q = grind (arith, nat_tests, sub_cases)

xor_none : (x y : ℕ) → bit_xor x y ≡ 0 → x ≡ y
xor_none x y h =
    let e : bit_xor (bit_xor x y) y ≡ x = xor_assoc x y y ∙ ap (λ n. bit_xor x n) (xor_self y) ∙ xor_zero_r x in
    sym e ∙ ap (λ n. bit_xor n y) h ∙ xor_zero_l y

pub xor_eq_zero : (x y : ℕ) → eq (bit_xor x y) 0 ≡ eq x y
unfolding eq
xor_eq_zero x y = grind (arith, nat_tests, xor_none x y, xor_self)

pub xor_ne_zero : (x y : ℕ) → ne (bit_xor x y) 0 ≡ ne x y
unfolding ne
xor_ne_zero x y = grind (arith, nat_tests, xor_none x y, xor_self)

-- C2
pub add_eq : (w x c d : ℕ) → x < limit w → c < limit w → d < limit w → eq (add w x c) d ≡ eq x (sub w d c)
unfolding eq
add_eq w x c d p q r = grind (arith, nat_tests, sub_cases, add_cases)

pub add_ne : (w x c d : ℕ) → x < limit w → c < limit w → d < limit w → ne (add w x c) d ≡ ne x (sub w d c)
unfolding ne
add_ne w x c d p q r = grind (arith, nat_tests, sub_cases, add_cases)

pub sub_eq : (w x c d : ℕ) → x < limit w → c < limit w → d < limit w → eq (sub w x c) d ≡ eq x (add w d c)
unfolding eq
sub_eq w x c d p q r = grind (arith, nat_tests, sub_cases, add_cases)

pub sub_ne : (w x c d : ℕ) → x < limit w → c < limit w → d < limit w → ne (sub w x c) d ≡ ne x (add w d c)
unfolding ne
sub_ne w x c d p q r = grind (arith, nat_tests, sub_cases, add_cases)

-- C3
pub slt_by_borrow : (w x y : ℕ) → 0 < w → x < limit w → y < limit w → ne (slt w (sub w x y) 0) (sborrow w x y) ≡ slt w x y
unfolding ne slt sborrow
slt_by_borrow w x y some p q = grind (arith, nat_tests, signed_cases, sub_cases, halves)

pub sle_by_borrow : (w x y : ℕ) → 0 < w → x < limit w → y < limit w → eq (slt w (sub w x y) 0) (sborrow w x y) ≡ sle w y x
unfolding eq slt sle sborrow
sle_by_borrow w x y some p q = grind (arith, nat_tests, signed_cases, sub_cases, halves)

-- C4
pub eq_or_lt : (x y : ℕ) → bit_or (eq x y) (lt x y) ≡ le x y
unfolding eq lt le
eq_or_lt x y = grind (arith, nat_tests)

pub eq_or_slt : (w x y : ℕ) → x < limit w → y < limit w → bit_or (eq x y) (slt w x y) ≡ sle w x y
unfolding eq slt sle
eq_or_slt w x y p q = grind (arith, nat_tests, signed_cases)

-- C5
pub ne_and_le : (x y : ℕ) → bit_and (ne x y) (le x y) ≡ lt x y
unfolding ne lt le
ne_and_le x y = grind (arith, nat_tests)

pub ne_and_sle : (w x y : ℕ) → x < limit w → y < limit w → bit_and (ne x y) (sle w x y) ≡ slt w x y
unfolding ne slt sle
ne_and_sle w x y p q = grind (arith, nat_tests, signed_cases)

-- C6, with the 0 on either side but for the borrow
pub carry_none : (w x : ℕ) → x < limit w → carry w x 0 ≡ 0
unfolding carry
carry_none w x p = grind (arith, nat_tests)

pub scarry_none : (w x : ℕ) → 0 < w → x < limit w → scarry w x 0 ≡ 0
unfolding scarry
scarry_none w x some p = grind (arith, nat_tests, signed_cases, halves)

pub sborrow_none : (w x : ℕ) → 0 < w → x < limit w → sborrow w x 0 ≡ 0
unfolding sborrow
sborrow_none w x some p = grind (arith, nat_tests, signed_cases, halves)

pub carry_comm : (w x y : ℕ) → carry w x y ≡ carry w y x
unfolding carry
carry_comm w x y = grind (arith, nat_tests)

pub scarry_comm : (w x y : ℕ) → scarry w x y ≡ scarry w y x
unfolding scarry
scarry_comm w x y = grind (arith, nat_tests, ints)

-- C7
pub lt_zero : (x : ℕ) → lt x 0 ≡ 0
unfolding lt
lt_zero x = grind (arith, nat_tests)

pub le_from_zero : (x : ℕ) → le 0 x ≡ 1
unfolding le
le_from_zero x = grind (arith, nat_tests)

pub lt_one : (x : ℕ) → lt x 1 ≡ eq x 0
unfolding lt eq
lt_one x = grind (arith, nat_tests)

pub le_zero : (x : ℕ) → le x 0 ≡ eq x 0
unfolding le eq
le_zero x = grind (arith, nat_tests)

-- C8
pub eq_self : (x : ℕ) → eq x x ≡ 1
unfolding eq
eq_self x = grind (arith, nat_tests)

pub ne_self : (x : ℕ) → ne x x ≡ 0
unfolding ne
ne_self x = grind (arith, nat_tests)

pub lt_self : (x : ℕ) → lt x x ≡ 0
unfolding lt
lt_self x = grind (arith, nat_tests)

pub le_self : (x : ℕ) → le x x ≡ 1
unfolding le
le_self x = grind (arith, nat_tests)

pub slt_self : (w x : ℕ) → slt w x x ≡ 0
unfolding slt
slt_self w x = grind (arith, nat_tests, ints)

pub sle_self : (w x : ℕ) → sle w x x ≡ 1
unfolding sle
sle_self w x = grind (arith, nat_tests, ints)
