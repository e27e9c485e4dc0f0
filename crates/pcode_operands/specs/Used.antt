-- Ranges that are read or written. This project's own.
use Rattle.std.specs.Prelude.{◌≡◌, ◌+◌, ◌<◌, ◌≤◌, ◌^◌, true, false}
use Rattle.pcode_model.specs.declared.listing.Listing.{Listing}
use Rattle.pcode_model.specs.declared.listing.Varnode.{Varnode}
use Rattle.pcode_model.specs.declared.listing.Storage.{Storage}
use Rattle.pcode_model.specs.declared.listing.Storage.TheVariants.{At, Stack}
use Rattle.pcode_model.specs.declared.listing.SpaceKind.TheVariants.{Constant}
use Rattle.pcode_model.specs.Spaces.{kind_of, same_kind, size_of}

-- in a space other than the constant one, at most 2 to the 64 bytes long, and inside it
pub record IsInside (l : Listing) (v : Varnode) : Type 0 where
  pub inside : v.offset + v.size ≤ size_of l v.space
  pub small : size_of l v.space ≤ 2 ^ 64

-- 1 to 16 bytes, inside the space, and a constant fits its size
pub record IsUsed (l : Listing) (v : Varnode) : Type 0 where
  pub some : 0 < v.size
  pub few : v.size ≤ 16
  pub inside : same_kind Constant (kind_of l v.space) ≡ false → IsInside l v
  pub fits : same_kind Constant (kind_of l v.space) ≡ true → v.offset < 256 ^ v.size

-- a register or unique range
pub record IsLocal (l : Listing) (v : Varnode) : Type 0 where
  pub some : 0 < v.size
  pub few : v.size ≤ 16
  pub inside : IsInside l v

abbrev pub IsArgument : Listing → Storage → Type 0
IsArgument l (At v) = IsUsed l v
IsArgument l (Stack offset size) = (0 < size) × (size ≤ 16)

-- the stack pointer: a register range of at most 8 bytes
pub record IsStack (l : Listing) (v : Varnode) : Type 0 where
  pub local : IsLocal l v
  pub narrow : v.size ≤ 8
