-- Draws that fit: the numbers of eight registers, and words of 31 bits.
use Rattle.std.specs.Prelude.{ℕ, ◌<◌, ◌^◌}
use Rattle.generator.specs.declared.draws.Drawn.{Drawn}

pub record IsFit (d : Drawn) : Type 0 where
  pub first : d.first < 8
  pub second : d.second < 8
  pub word : d.word < 2 ^ 31

abbrev pub AreFit : (ℕ → Drawn) → Type 0
AreFit draws = (i : ℕ) → IsFit (draws i)
