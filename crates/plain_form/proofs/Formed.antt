-- What the reader and the rules of operations promise of the ranges of a listing's ops.
use Rattle.std.proofs.Common.{◌≡◌, ◌<◌, ◌≤◌, ◌+◌, ◌^◌, false}
use Rattle.pcode_model.specs.declared.listing.Listing.{Listing}
use Rattle.pcode_model.specs.declared.listing.SpaceKind.TheVariants.{Constant}
use Rattle.pcode_model.specs.declared.listing.Varnode.{Varnode}
use Rattle.pcode_model.specs.Rules.{leaves_space}
use Rattle.pcode_model.specs.Spaces.{kind_of, size_of}

-- an input that isn't an address has 1 to 16 bytes and stays in its space, and a constant is below 256 to its size
pub record IsInput (l : Listing) (v : Varnode) : Type 0 where
  pub some : 0 < v.size
  pub narrow : v.size ≤ 16
  pub stays : leaves_space l v ≡ false
  pub fits : kind_of l v.space ≡ Constant → v.offset < 256 ^ v.size

-- an output has 1 to 16 bytes and stays in its space, and is no constant
pub record IsWritten (l : Listing) (v : Varnode) : Type 0 where
  pub some : 0 < v.size
  pub narrow : v.size ≤ 16
  pub stays : leaves_space l v ≡ false
  pub variable : kind_of l v.space ≡ Constant → ⊥

-- a range has 1 to 16 bytes, and lies inside its space, which has at most 2^64
pub record Inside (l : Listing) (v : Varnode) : Type 0 where
  pub some : 0 < v.size
  pub narrow : v.size ≤ 16
  pub low : v.offset + v.size ≤ 2 ^ 64
  pub inside : v.offset + v.size ≤ size_of l v.space
