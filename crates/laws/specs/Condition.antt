-- Conditions, as branches and C's `if` read them.
use Rattle.std.specs.Prelude.{ℕ, Bool, not, ◌==◌}

-- a condition is taken where its value isn't 0
abbrev pub taken : ℕ → Bool
taken v = not (v == 0)
