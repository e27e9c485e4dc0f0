-- A code that begins in a block to which no edge leads. This project's own.
use Rattle.std.specs.Prelude.{ℕ, suc, ◌==◌, ◌||◌, Bool, false, nat_lt, if◌then◌else◌, List, [], ◌∷◌, map}
use Rattle.std.specs.List.{insert}
use Rattle.blockcode.specs.declared.code.Arm.{Arm}
use Rattle.blockcode.specs.declared.code.Exit.{Exit}
use Rattle.blockcode.specs.declared.code.Exit.TheVariants as X
use Rattle.blockcode.specs.declared.code.Block.{Block}
use Rattle.blockcode.specs.declared.code.Code.{Code}

-- ---- whether an edge leads to a block

abbrev pub arm_names : ℕ → List Arm → Bool
arm_names n [] = false
arm_names n (a ∷ rest) = (a.to == n) || arm_names n rest

-- the exit names the block
abbrev pub names : ℕ → Exit → Bool
names n (X.Return e) = false
names n (X.Jump to) = to == n
names n (X.Test c taken other) = (taken == n) || (other == n)
names n (X.Switch e arms) = arm_names n arms
names n X.Stop = false

-- an exit of these blocks does
abbrev pub some_names : ℕ → List Block → Bool
some_names n [] = false
some_names n (b ∷ rest) = names n b.exit || some_names n rest

-- ---- with a block of its own

-- the number of a block once one more stands before the entry's
abbrev pub shifted : ℕ → ℕ → ℕ
shifted entry b = if nat_lt b entry then b else suc b

abbrev pub shifted_arm : ℕ → Arm → Arm
shifted_arm entry a = record { value = a.value; to = shifted entry a.to }

abbrev pub shifted_exit : ℕ → Exit → Exit
shifted_exit n (X.Return e) = X.Return e
shifted_exit n (X.Jump to) = X.Jump (shifted n to)
shifted_exit n (X.Test c taken other) = X.Test c (shifted n taken) (shifted n other)
shifted_exit n (X.Switch e arms) = X.Switch e (map (shifted_arm n) arms)
shifted_exit n X.Stop = X.Stop

abbrev pub shifted_block : ℕ → Block → Block
shifted_block n b = record { body = b.body; exit = shifted_exit n b.exit }

-- an empty block, which jumps to the one behind it
abbrev pub first_block : ℕ → Block
first_block n = record { body = []; exit = X.Jump (suc n) }

-- with an empty block directly before the entry's, where a run begins
abbrev pub entered : Code → Code
entered k = record {
  variables = k.variables;
  blocks = insert (map (shifted_block k.entry) k.blocks) k.entry (first_block k.entry);
  entry = k.entry;
}

-- the code, with such a block where an edge leads to the entry's
abbrev pub begun_apart : Code → Code
begun_apart k = if some_names k.entry k.blocks then entered k else k
