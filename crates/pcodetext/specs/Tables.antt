-- What is declared, by its number and by its name.
use Rattle.std.specs.Prelude.{◌==◌, ◌≡◌, ◌<◌, max, slice_index, ◌+◌, ◌&&◌, suc, ℕ, Bool, List, [], ◌∷◌, length, if◌then◌else◌, nat_le}
use Rattle.std.specs.List.{list_any}
use Rattle.std.specs.Str.{bytes_eq}
use Rattle.listing_lines.specs.Text.{Line}
use Rattle.pcode_model.specs.declared.listing.Space.{Space}
use Rattle.pcode_model.specs.declared.listing.Proto.{Proto}
use Rattle.pcode_model.specs.declared.listing.Function.{Function}
use Rattle.pcode_model.specs.declared.listing.Fixed.{Fixed}
use Rattle.pcode_model.specs.Ranges.{meets}
pub use Rattle.names.specs.Names.{place_from, place_in}

abbrev pub space_name : Space → Line
space_name s = s.name

abbrev pub proto_name : Proto → Line
proto_name p = p.name

abbrev pub function_name : Function → Line
function_name f = f.name

abbrev pub has_name : Line → Function → Bool
has_name name f = bytes_eq f.name name

-- some bytes of that space stand at the offset or after it
abbrev pub begins_late : ℕ → ℕ → Fixed → Bool
begins_late space offset f = f.space == space && nat_le offset f.offset

abbrev pub stands_after : List Fixed → ℕ → ℕ → Bool
stands_after fixed space offset = list_any (begins_late space offset) fixed

-- a byte of a range has a place in the space already
abbrev pub shares : ℕ → ℕ → ℕ → Fixed → Bool
shares space offset size f = f.space == space && meets offset size f.offset (length f.bytes)

abbrev pub overlaps : List Fixed → ℕ → ℕ → ℕ → Bool
overlaps fixed space offset size = list_any (shares space offset size) fixed

-- one past the greatest offset of bytes in the space, or 0
abbrev pub next_of : ℕ → List Fixed → ℕ
next_of space [] = 0
next_of space (f ∷ fixed) = if f.space == space then max (suc f.offset) (next_of space fixed) else next_of space fixed

-- the greatest end of bytes in the space, or 0
abbrev pub end_of : ℕ → List Fixed → ℕ
end_of space [] = 0
end_of space (f ∷ fixed) =
    if f.space == space then max (f.offset + length f.bytes) (end_of space fixed) else end_of space fixed

-- what two tables by the space's number hold
pub record HasTops (nexts ends : List ℕ) (fixed : List Fixed) : Type 0 where
  pub nexts_length : length nexts ≡ 256
  pub ends_length : length ends ≡ 256
  pub next : (space : ℕ) → space < 256 → slice_index nexts space ≡ next_of space fixed
  pub end : (space : ℕ) → space < 256 → slice_index ends space ≡ end_of space fixed
