-- The greatest counts of what is accepted. This project's own.
use Rattle.std.specs.Prelude.{ℕ}

-- blocks, without the empty one that may stand before the entry
abbrev pub max_blocks : ℕ
max_blocks = 2048

-- ranges of storage that become variables
abbrev pub max_atoms : ℕ
max_atoms = 1024

-- bytes of an input
abbrev pub max_input : ℕ
max_input = 4194304
