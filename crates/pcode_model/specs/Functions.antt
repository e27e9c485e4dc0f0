-- Functions by their addresses.
use Rattle.std.specs.Prelude.{◌==◌, ℕ, Bool}
use Rattle.pcode_model.specs.declared.listing.Function.{Function}

abbrev pub function_address : Function → ℕ
function_address f = f.address

abbrev pub has_address : ℕ → Function → Bool
has_address address f = f.address == address
