-- The numbers of a code's blocks. This project's own.
use Rattle.std.specs.Prelude.{ℕ, ◌-◌, ◌^◌, ◌<◌, List, [], ◌∷◌, length}
use Rattle.blockcode.specs.declared.code.Arm.{Arm}
use Rattle.blockcode.specs.declared.code.Exit.{Exit}
use Rattle.blockcode.specs.declared.code.Exit.TheVariants as X
use Rattle.blockcode.specs.declared.code.Block.{Block}
use Rattle.blockcode.specs.declared.code.Code.{Code}

abbrev pub ArmsBelow : ℕ → List Arm → Type 0
ArmsBelow n [] = Unit {0}
ArmsBelow n (a ∷ rest) = (a.to < n) × ArmsBelow n rest

-- the blocks that an exit names are below a number
abbrev pub ExitBelow : ℕ → Exit → Type 0
ExitBelow n (X.Return e) = Unit {0}
ExitBelow n (X.Jump to) = to < n
ExitBelow n (X.Test c taken other) = (taken < n) × (other < n)
ExitBelow n (X.Switch e arms) = ArmsBelow n arms
ExitBelow n X.Stop = Unit {0}

abbrev pub ExitsBelow : ℕ → List Block → Type 0
ExitsBelow n [] = Unit {0}
ExitsBelow n (b ∷ rest) = ExitBelow n b.exit × ExitsBelow n rest

-- the entry and the exits name blocks of the code, and these are fewer than 2^32
pub record AreNumbered (k : Code) : Type 0 where
  pub few : length k.blocks < 2 ^ 32 - 1
  pub entry : k.entry < length k.blocks
  pub exits : ExitsBelow (length k.blocks) k.blocks
