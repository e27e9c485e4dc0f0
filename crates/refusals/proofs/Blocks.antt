-- Blocks and where they begin.
use Rattle.std.proofs.Common.{◌≡◌, ◌≤◌, List, [], ◌∷◌, length, length-append, refl, arith}
use Rattle.pcode_model.specs.declared.flow.Block.{Block}
use Rattle.pcode_model.specs.declared.flow.Exit.{Exit}
use Rattle.pcode_model.specs.declared.listing.Listing.{Listing}
use Rattle.pcode_model.specs.declared.listing.Place.{Place}
use Rattle.pcode_model.specs.Flow.{AllRun, IsFlow, RunsBlock, first_in, starts_of}
use Rattle.pcode_model.specs.Limits.{max_blocks}
use Rattle.refusals.specs.Good.{HasFewBlocks}

module _ (l : Listing) where
  block_start : (starts : List Place) (ps : List Place) (e : Exit)
      → RunsBlock l [] starts ps e
      → length (first_in ps) ≡ 1
  block_start starts [] e h = absurd h
  block_start starts (p ∷ ps) e h = refl

  starts_count : (starts : List Place) (blocks : List Block)
      → AllRun l [] starts blocks
      → length (starts_of blocks) ≡ length blocks
  starts_count starts [] h = refl
  starts_count starts (b ∷ rest) h =
      omega (
        arith,
        length-append (first_in b.places) (starts_of rest),
        block_start starts b.places b.exit h.0,
        starts_count starts rest h.1,
      )

  -- As many blocks begin as there are.
  pub few_starts : (blocks : List Block) → IsFlow l [] blocks → length blocks ≤ max_blocks → HasFewBlocks l
  few_starts blocks flow few = (
    starts_of blocks,
    (flow.starts, omega (arith, few, starts_count (starts_of blocks) blocks flow.run)),
  )
