-- Ranges of bytes in the spaces of a listing.
use Rattle.std.specs.Prelude.{◌+◌, ◌&&◌, ℕ, Bool, List, nat_lt, slice_get}
use Rattle.pcode_model.specs.declared.listing.Space.{Space}
use Rattle.pcode_model.specs.declared.listing.SpaceKind.{SpaceKind}
use Rattle.pcode_model.specs.Spaces.{kind_in, same_kind, size_in}

-- the space with the number n is of that kind
abbrev pub is_kind : SpaceKind → List Space → ℕ → Bool
is_kind kind spaces n = same_kind kind (kind_in (slice_get spaces n))

-- length bytes from an offset on go past the end of the space with the number n
abbrev pub leaves : List Space → ℕ → ℕ → ℕ → Bool
leaves spaces n offset length = nat_lt (size_in (slice_get spaces n)) (offset + length)

-- two ranges of one space share a byte: each begins before the other's end
abbrev pub meets : ℕ → ℕ → ℕ → ℕ → Bool
meets offset length other other_length = nat_lt offset (other + other_length) && nat_lt other (offset + length)
