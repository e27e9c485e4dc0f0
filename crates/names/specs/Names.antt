-- Names, by their numbers.
use Rattle.std.specs.Prelude.{◌+◌, ℕ, List, [], ◌∷◌, Option, Some, None, if◌then◌else◌}
use Rattle.std.specs.Str.{bytes_eq}

-- where a name stands first among names, which are those from k on
abbrev pub place_from : ℕ → List ℕ → List (List ℕ) → Option ℕ
place_from k name [] = None
place_from k name (known ∷ names) = if bytes_eq known name then Some k else place_from (k + 1) name names

abbrev pub place_in : List ℕ → List (List ℕ) → Option ℕ
place_in name names = place_from 0 name names
