-- Indices of relative branches. This project's own.
use Rattle.std.specs.Prelude.{◌≡◌, ℕ, ℤ, negsuc}

abbrev pub IsNegative : ℤ → Type 0
IsNegative z = (n : ℕ) × (z ≡ negsuc n)
