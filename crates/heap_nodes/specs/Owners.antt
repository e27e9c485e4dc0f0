-- Owners of nodes, found by where the nodes lie.
use Rattle.std.specs.Prelude.{◌<◌, Bool, true, false, ◌&&◌, ◌==◌, if◌then◌else◌, List, [], ◌∷◌, map, Option, Some, None}
use Rattle.heap_nodes.specs.declared.owner.Owner.{Owner}
use denote.RawPtr.{Ptr, block_ptr, null_ptr}
use denote.RattleType.{RattleType}
use Rattle.std.specs.List.{IsDistinct}
use Rattle.std.specs.Mem.{type_size}

-- whether two pointers are the same
abbrev pub same_ptr : Ptr → Ptr → Bool
same_ptr (block_ptr b o) (block_ptr c p) = (b == c) && (o == p)
same_ptr (block_ptr b o) null_ptr = false
same_ptr null_ptr (block_ptr c p) = false
same_ptr null_ptr null_ptr = true

module _ {T A : Type 0} where
  -- the value at p
  abbrev pub value_at : Ptr → List (Owner T A) → Option T
  value_at p [] = None
  value_at p (b ∷ bs) = (if same_ptr b.at p then Some b.value else value_at p bs)

  -- the owners, with x at p
  abbrev pub set_at : Ptr → T → List (Owner T A) → List (Owner T A)
  set_at p x [] = []
  set_at p x (b ∷ bs) = (if same_ptr b.at p then record b { value = x } ∷ bs else b ∷ set_at p x bs)

  abbrev pub places : List (Owner T A) → List Ptr
  places = map (λ o. o.at)

-- no pointer comes twice
abbrev pub IsApart : List Ptr → Type 0
IsApart = IsDistinct same_ptr

-- a value of the type takes room
abbrev pub TakesRoom : RattleType → Type 0
TakesRoom R = 0 < type_size R
