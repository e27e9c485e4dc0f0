-- Laws of sums, differences, negations and products.
use Rattle.std.proofs.Common.{◌≡◌, ℕ, ◌+◌, ◌-◌, ◌%◌, ◌<◌, ap, arith}
use Rattle.std.proofs.Math.Nat.{mod-lt, add_comm, mul_comm, mod-eq_of_lt, zero-mod}
use Rattle.bits_core.specs.Value.{limit, add, sub, neg, mul, complement}
use Rattle.bits_core.proofs.Limits.{limit_pos, sub_cases, add_cases, neg_cases}

-- each is a word
pub add_word : (w a b : ℕ) → add w a b < limit w
unfolding add
add_word w a b = mod-lt (a + b) (limit_pos w)

pub sub_word : (w a b : ℕ) → sub w a b < limit w
unfolding sub
sub_word w a b = mod-lt (a + (limit w - b)) (limit_pos w)

pub neg_word : (w a : ℕ) → neg w a < limit w
unfolding neg
neg_word w a = mod-lt (limit w - a) (limit_pos w)

-- F2
pub sum_comm : (w a b : ℕ) → add w a b ≡ add w b a
unfolding add
sum_comm w a b = ap (λ n. n % limit w) (add_comm a b)

pub product_comm : (w a b : ℕ) → mul w a b ≡ mul w b a
unfolding mul
product_comm w a b = ap (λ n. n % limit w) (mul_comm a b)

-- A1
pub add_zero : (w x : ℕ) → x < limit w → add w x 0 ≡ x
add_zero w x p = grind (arith, add_cases, limit_pos)

pub sub_zero : (w x : ℕ) → x < limit w → sub w x 0 ≡ x
sub_zero w x p = grind (arith, sub_cases, limit_pos)

-- A2
pub mul_one : (w x : ℕ) → x < limit w → mul w x 1 ≡ x
unfolding mul
mul_one w x p = grind (arith, mod-eq_of_lt)

-- A3
pub mul_zero : (w x : ℕ) → mul w x 0 ≡ 0
unfolding mul
mul_zero w x = grind (arith, zero-mod)

-- A4
pub sub_self : (w x : ℕ) → x < limit w → sub w x x ≡ 0
sub_self w x p = grind (arith, sub_cases)

-- A5
pub add_add : (w x c d : ℕ) → x < limit w → c < limit w → d < limit w → add w (add w x c) d ≡ add w x (add w c d)
add_add w x c d p q r = grind (arith, add_cases, add_word)

pub sub_sub : (w x c d : ℕ) → x < limit w → c < limit w → d < limit w → sub w (sub w x c) d ≡ sub w x (add w c d)
sub_sub w x c d p q r = grind (arith, add_cases, sub_cases, add_word, sub_word)

pub sub_add : (w x c d : ℕ) → x < limit w → c < limit w → d < limit w → sub w (add w x c) d ≡ add w x (sub w c d)
sub_add w x c d p q r = grind (arith, add_cases, sub_cases, add_word, sub_word)

pub add_sub : (w x c d : ℕ) → x < limit w → c < limit w → d < limit w → add w (sub w x c) d ≡ add w x (sub w d c)
add_sub w x c d p q r = grind (arith, add_cases, sub_cases, add_word, sub_word)

-- A7
pub neg_neg : (w x : ℕ) → x < limit w → neg w (neg w x) ≡ x
neg_neg w x p = grind (arith, neg_cases, neg_word)

pub complement_complement : (w x : ℕ) → x < limit w → complement w (complement w x) ≡ x
unfolding complement
complement_complement w x p = omega arith

-- A8
pub add_neg : (w x y : ℕ) → x < limit w → y < limit w → add w x (neg w y) ≡ sub w x y
add_neg w x y p q = grind (arith, neg_cases, neg_word, add_cases, sub_cases)

pub sub_neg : (w x y : ℕ) → x < limit w → y < limit w → sub w x (neg w y) ≡ add w x y
sub_neg w x y p q = grind (arith, neg_cases, neg_word, add_cases, sub_cases)
