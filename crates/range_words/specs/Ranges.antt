-- Ranges of the register space and the unique space that variables stand for. This project's own.
use Rattle.std.specs.Prelude.{◌≡◌, ◌≢◌, ℕ, ◌+◌, ◌<◌, ◌≤◌, List, Option, Some, slice_get, ◌⊎◌}
use Rattle.pcode_model.specs.declared.listing.Varnode.{Varnode}
use Rattle.pcode_model.specs.declared.listing.Listing.{Listing}
use Rattle.pcode_model.specs.Spaces.{size_of}
use Rattle.pcode_model.specs.Memory.{Bytes}
use Rattle.pcode_model.specs.Step.{local_word}

-- the range lies within its space
abbrev pub IsInside : Listing → Varnode → Type 0
IsInside l a = a.offset + a.size ≤ size_of l a.space

-- the ranges have no byte in common
abbrev pub AreApart : Varnode → Varnode → Type 0
AreApart a b = (a.space ≢ b.space) ⊎ ((a.offset + a.size ≤ b.offset) ⊎ (b.offset + b.size ≤ a.offset))

-- The ranges that variables stand for, by the variables' numbers: each lies within its space, and no two have a byte in
-- common.
pub record IsTable (l : Listing) (ranges : List Varnode) : Type 0 where
  pub inside : (v : ℕ) (a : Varnode) → slice_get ranges v ≡ Some a → IsInside l a
  pub apart : (v w : ℕ) (a b : Varnode) → slice_get ranges v ≡ Some a → slice_get ranges w ≡ Some b → v ≢ w → AreApart a b

-- each variable that stands for a range holds the word of that range
abbrev pub Holds : Listing → List Varnode → Bytes → (ℕ → Option ℕ) → Type 0
Holds l ranges m env = (v : ℕ) (a : Varnode) → slice_get ranges v ≡ Some a → env v ≡ Some (local_word l a m)

-- every byte is one
abbrev pub AreBytes : Bytes → Type 0
AreBytes m = (s o : ℕ) → m s o < 256
