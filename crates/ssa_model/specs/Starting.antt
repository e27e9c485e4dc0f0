-- The entry values of a function.
use Rattle.std.specs.Prelude.{ℕ, ◌+◌, ◌-◌, ◌^◌, Bool, true, false, pos, negsuc, List, [], ◌∷◌, ◌++◌, Option, Some}
use Rattle.pcode_model.specs.declared.storage.ParamStorage.{ParamStorage}
use Rattle.pcode_model.specs.declared.storage.ParamStorage.TheVariants.{Register, Unique, Stack}
use Rattle.opgraph.specs.Graph.{Graph, op_at, block_at}
use Rattle.sorting.specs.Order.{by_key}
use Rattle.ssa_model.specs.declared.form.Parts.{Parts}
use Rattle.ssa_model.specs.Roles.{Role, Starts}
use Rattle.ssa_model.specs.Outline.{ids, only, role_at}

abbrev pub is_start : Option Role → Bool
is_start (Some (Starts s)) = true
is_start role = false

-- Storages by rising numbers: registers, then unique space, then the stack, each by rising offsets. An offset in the
-- first two is below 2^64, and one of the stack from -2^63 on below 2^63.
abbrev pub storage_rank : ParamStorage → ℕ
storage_rank (Register offset) = offset
storage_rank (Unique offset) = 2 ^ 64 + offset
storage_rank (Stack (pos n)) = 2 ^ 65 + 2 ^ 63 + n
storage_rank (Stack (negsuc n)) = 2 ^ 65 + 2 ^ 63 - (n + 1)

-- of an entry value the rank of its storage, 0 of another op
abbrev pub start_rank : Option Role → ℕ
start_rank (Some (Starts s)) = storage_rank s
start_rank role = 0

abbrev pub all_ops : Graph → List ℕ → List ℕ
all_ops g [] = []
all_ops g (b ∷ bs) = block_at g b ++ all_ops g bs

-- the entry values of the function, by their storages
abbrev pub starting : Parts → List ℕ
starting p =
    let rows = op_at p.graph in
    by_key (λ x. start_rank (role_at rows x)) (only (λ x. is_start (role_at rows x)) (all_ops p.graph (ids p.blocks)))
