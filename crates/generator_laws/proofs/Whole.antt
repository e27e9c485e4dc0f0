-- A generated listing is one that is taken.
use Rattle.std.proofs.Common.{ℕ, refl}
use Rattle.generator.specs.declared.draws.Drawn.{Drawn}
use Rattle.generator.specs.Draws.{drawn_at}
use Rattle.generator.specs.Generated.{generated, listing_of}
use Rattle.generator.specs.Fit.{AreFit}
use Rattle.generator_laws.specs.Taken.{IsTaken}
use Rattle.generator_laws.proofs.Accessed.{few_atoms}
use Rattle.generator.proofs.Fits.{drawn_fits}
use Rattle.generator_laws.proofs.Flowing.{few_starts, no_fault}
use Rattle.generator_laws.proofs.Obeys.{built, obeys}

-- The listing of any draws that fit has all that is asked of a listing.
pub drawn_taken : (draws : ℕ → Drawn) → AreFit draws → IsTaken (listing_of draws)
drawn_taken draws fit = record {
  stack = refl;
  ops = obeys draws fit;
  built = built draws;
  flow = no_fault draws;
  blocks = few_starts draws;
  atoms = few_atoms draws fit;
}

-- So has the listing with any number.
pub generated_taken : (number : ℕ) → IsTaken (generated number)
unfolding generated
generated_taken number = drawn_taken (drawn_at number) (drawn_fits number)
