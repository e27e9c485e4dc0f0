-- A word and its bytes. The space that holds a word has one of two orders: the byte at the word's offset is the
-- least significant one (little end first) or the most significant one (big end first), and the further bytes
-- follow in order of significance.
use Rattle.std.specs.Prelude.{ℕ, zero, suc, ◌+◌, ◌-◌, ◌*◌, ◌/◌, ◌%◌, Bool, List, [], ◌∷◌, reverse, if◌then◌else◌}

-- the number that bytes make, the least significant first
abbrev pub number : List ℕ → ℕ
number [] = 0
number (b ∷ bs) = number bs * 256 + b

-- the w low bytes of n, the least significant first
abbrev pub bytes : ℕ → ℕ → List ℕ
bytes zero n = []
bytes (suc w) n = n % 256 ∷ bytes w (n / 256)

-- the w bytes of a word n in memory order; `big` says that the space has the big end first
abbrev pub word_bytes : Bool → ℕ → ℕ → List ℕ
word_bytes big w n = if big then reverse (bytes w n) else bytes w n

-- the word that bytes in memory order make
abbrev pub word_of : Bool → List ℕ → ℕ
word_of big bs = number (if big then reverse bs else bs)

-- where the n bytes above the k low bytes of a word of w bytes begin, in memory order
abbrev pub place_of_part : Bool → ℕ → ℕ → ℕ → ℕ
place_of_part big w k n = if big then w - (k + n) else k
