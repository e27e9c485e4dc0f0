-- What the rules of a listing leave of an op in a slice. This project's own.
use Rattle.std.specs.Prelude.{◌≡◌, ◌≢◌, ◌+◌, ◌<◌, ◌≤◌, ◌⊎◌, List, [], ◌∷◌, Option, Some, None}
use Rattle.bits_core.specs.declared.ops.Unary.{Unary}
use Rattle.bits_core.specs.declared.ops.Binary.{Binary}
use Rattle.bits_core.specs.declared.ops.Binary.TheVariants as B
use Rattle.bits_core.specs.declared.ops.Divide.{Divide}
use Rattle.bits_core.specs.Value.{IsBinarySized, IsUnarySized, limit}
use Rattle.pcode_model.specs.declared.listing.SpaceKind.TheVariants.{Constant, Register, Unique}
use Rattle.pcode_model.specs.declared.listing.Varnode.{Varnode}
use Rattle.pcode_model.specs.declared.listing.Listing.{Listing}
use Rattle.pcode_model.specs.declared.opcode.Opcode.{Opcode}
use Rattle.pcode_model.specs.declared.opcode.Opcode.TheVariants as O
use Rattle.pcode_model.specs.Spaces.{kind_of, size_of}

-- a constant that fits its size, or a range within its space
pub record IsRead (l : Listing) (v : Varnode) : Type 0 where
  pub some : 0 < v.size
  pub home : kind_of l v.space ≡ Constant → v.space ≡ 0
  pub fits : v.space ≡ 0 → v.offset < limit v.size
  pub inside : v.space ≢ 0 → v.offset + v.size ≤ size_of l v.space

-- a register or unique range within its space
pub record IsLocalRange (l : Listing) (v : Varnode) : Type 0 where
  pub some : 0 < v.size
  pub kind : (kind_of l v.space ≡ Register) ⊎ (kind_of l v.space ≡ Unique)
  pub inside : v.offset + v.size ≤ size_of l v.space

-- by the operation, the output and the inputs
pub data HasShape (l : Listing) : Opcode → Option Varnode → List Varnode → Type 0 where
  One : (op : Unary) (z v : Varnode)
      → IsUnarySized op v.size z.size
      → IsLocalRange l z
      → IsRead l v
      → HasShape l (O.Unary op) (Some z) (v ∷ [])
  Two : (op : Binary) (z v w : Varnode)
      → IsBinarySized op v.size w.size z.size
      → (op ≡ B.Subpiece → w.space ≡ 0)
      → IsLocalRange l z
      → IsRead l v
      → IsRead l w
      → HasShape l (O.Binary op) (Some z) (v ∷ w ∷ [])
  Divides : (op : Divide) (z v w : Varnode)
      → v.size ≡ z.size
      → w.size ≡ z.size
      → IsLocalRange l z
      → IsRead l v
      → IsRead l w
      → HasShape l (O.Divide op) (Some z) (v ∷ w ∷ [])
  Loads : (z space v : Varnode) → IsLocalRange l z → IsRead l v → HasShape l O.Load (Some z) (space ∷ v ∷ [])
  Tests : (to v : Varnode) → IsRead l v → HasShape l O.CBranch None (to ∷ v ∷ [])
