-- What is proved of blocks. Each law is the contract of a function of its name.
use Rattle.std.specs.Prelude.{◌≡◌, ℕ}
use Rattle.machine.specs.TwoWay.{TwoWay}
use Rattle.pcode_model.specs.declared.listing.Listing.{Listing}
use Rattle.pcode_model.specs.World.{Entry}
use Rattle.blockcode.specs.declared.code.Code.{Code}
use Rattle.blockcode.specs.Run.{seen_code}
use Rattle.edges.specs.Run.{Blocks, seen_blocks, blocks_of_code}
use Rattle.edges.specs.Live.{Live, IsStrict, IsDefined, IsSound}
use Rattle.edges.specs.Dead.{PrunedBlocks}
use Rattle.edges.specs.Merge.{MergedBlocks}

-- a code runs as the blocks that it is
abbrev pub CodesRunAsBlocks : Type 0
CodesRunAsBlocks =
    (l : Listing) (k : Code) (e : Entry) (n : ℕ) → seen_code l k e n ≡ seen_blocks l (blocks_of_code k) e n

-- where what is live at the entry has a word, the run never ends Undefined
abbrev pub StrictIsDefined : Type 0
StrictIsDefined = (l : Listing) (k : Blocks) (e : Entry) → IsSound k → IsStrict l k e → IsDefined l k e

-- The second blocks show what the first show, and are defined where they are.
pub record Shows (l : Listing) (k m : Blocks) (e : Entry) : Type 0 where
  pub runs : TwoWay (seen_blocks l k e) (seen_blocks l m e)
  pub defined : IsDefined l m e

-- without what isn't live, in chains too
abbrev pub WithoutDead : Type 0
WithoutDead =
    (l : Listing) (k m : Blocks) (e : Entry) → PrunedBlocks (Live k) k m → IsDefined l k e → Shows l k m e

-- under names that keep apart what is live
abbrev pub UnderNames : Type 0
UnderNames =
    (l : Listing) (k m : Blocks) (name : ℕ → ℕ) (e : Entry)
    → MergedBlocks k name m
    → IsDefined l k e
    → Shows l k m e
