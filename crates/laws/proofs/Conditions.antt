-- The negation of a condition is taken where the condition isn't.
use Rattle.std.proofs.Common.{◌≡◌, ℕ, refl, arith, Bool, true, false, not}
use Rattle.std.proofs.lemmas.Bool.Decides.{nat_tests}
use Rattle.std.proofs.lemmas.Int.{ints}
use Rattle.bits_core.specs.Value.{flag, eq, ne, lt, le, slt, sle}
use Rattle.laws.specs.Condition.{taken}

pub taken_flag : (b : Bool) → taken (flag b) ≡ b
taken_flag true = refl
taken_flag false = refl

-- Eq and Ne change places
pub taken_eq : (x y : ℕ) → taken (ne x y) ≡ not (taken (eq x y))
unfolding eq ne
taken_eq x y = grind (arith, nat_tests)

pub taken_ne : (x y : ℕ) → taken (eq x y) ≡ not (taken (ne x y))
unfolding eq ne
taken_ne x y = grind (arith, nat_tests)

-- Lt(x,y) becomes Le(y,x) and Le(x,y) becomes Lt(y,x)
pub taken_lt : (x y : ℕ) → taken (le y x) ≡ not (taken (lt x y))
unfolding lt le
taken_lt x y = grind (arith, nat_tests)

pub taken_le : (x y : ℕ) → taken (lt y x) ≡ not (taken (le x y))
unfolding lt le
taken_le x y = grind (arith, nat_tests)

pub taken_slt : (w x y : ℕ) → taken (sle w y x) ≡ not (taken (slt w x y))
unfolding slt sle
taken_slt w x y = grind (arith, nat_tests, ints)

pub taken_sle : (w x y : ℕ) → taken (slt w y x) ≡ not (taken (sle w x y))
unfolding slt sle
taken_sle w x y = grind (arith, nat_tests, ints)

-- any other condition v becomes Eq(v, 0)
pub taken_other : (v : ℕ) → taken (eq v 0) ≡ not (taken v)
unfolding eq
taken_other v = grind (arith, nat_tests)
