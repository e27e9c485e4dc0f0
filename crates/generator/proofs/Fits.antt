-- What is drawn fits.
use Rattle.std.proofs.Common.{◌<◌, ◌^◌, ◌/◌, ◌%◌, ◌+◌, ◌*◌, ℕ, arith}
use Rattle.generator.specs.Draws.{before, drawn_after, drawn_at, next}
use Rattle.generator.specs.Fit.{AreFit, IsFit}

-- the upper bits of what is below 2^64
top_small : (x : ℕ) → x % 2 ^ 64 / 2 ^ 33 < 2 ^ 31
top_small x = omega arith

after_fits : (s : ℕ) → IsFit (drawn_after s)
after_fits s = record {
  first = omega arith;
  second = omega arith;
  word = top_small (next s * 6364136223846793005 + 1442695040888963407);
}

-- What is drawn for any number fits.
pub drawn_fits : (number : ℕ) → AreFit (drawn_at number)
drawn_fits number i = after_fits (before number i)
