-- The sequence of draws.
use Rattle.std.proofs.Common.{◌≡◌, ◌+◌, ◌*◌, ◌%◌, ℕ}
use Rattle.std.proofs.Math.Nat.{mod-add-mod}

-- A product and a sum that each wrap are the sum of the product that wraps once.
pub wrapped : (s m c w : ℕ) → (s * m % w + c) % w ≡ (s * m + c) % w
wrapped s m c w = mod-add-mod (s * m) w c
