-- By what the heads of a block are sorted.
use Rattle.std.specs.Prelude.{ℕ, List, [], ◌∷◌, ◌++◌, Option, Some, None}
use Rattle.opgraph.specs.declared.code.Code.{Code}
use Rattle.sorting.specs.declared.ranked.Ranked.{Ranked}
use Rattle.sorting.specs.Order.{by_key}
use Rattle.ssa_model.specs.Roles.{Role, Joins, Starts, role_of}
use Rattle.ssa_model.specs.Outline.{Rows, only, role_at}
use Rattle.ssa_model.specs.Starting.{is_start, start_rank, storage_rank}

abbrev pub role_from : Option Code → Option Role
role_from None = None
role_from (Some code) = Some (role_of code)

-- the atom of a MULTIEQUAL
abbrev pub atom_if : Option Role → Option ℕ
atom_if (Some (Joins atom)) = Some atom
atom_if role = None

-- the rank of an entry value's storage
abbrev pub rank_if : Option Role → Option ℕ
rank_if (Some (Starts s)) = Some (storage_rank s)
rank_if role = None

-- the entry values among some ops, by their storages
abbrev pub starts_of : Rows → List ℕ → List ℕ
starts_of rows xs = by_key (λ x. start_rank (role_at rows x)) (only (λ x. is_start (role_at rows x)) xs)

-- a number behind others, where it has a rank
abbrev pub added : List Ranked → Option ℕ → ℕ → List Ranked
added rs None x = rs
added rs (Some n) x = rs ++ record { rank = n; number = x } ∷ []
