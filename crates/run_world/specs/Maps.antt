-- Maps of bytes as functions. This project's own.
use Rattle.std.specs.Prelude.{◌≡◌, ℕ, ◌<◌, Some, None, ◌+◌, ◌-◌, ◌==◌, ◌&&◌, nat_le, nat_lt, if◌then◌else◌, List, Option, slice_get}
use Rattle.std.specs.Ordering.{nat_cmp, ordering_then}
use Rattle.std.specs.BTreeMap.{get}
use Rattle.pcode_model.specs.Memory.{or_else}
use Rattle.run_world.specs.declared.byte_map.ByteMap.{ByteMap}
use Rattle.run_world.specs.declared.offset_map.OffsetMap.{OffsetMap}

-- the byte at an offset of a space, where there is one
abbrev pub at : ByteMap → ℕ → ℕ → Option ℕ
at m s o = get (λ p q. ordering_then (nat_cmp p.0 q.0) (nat_cmp p.1 q.1)) m.bytes (s, o)

-- the byte at an offset, where there is one
abbrev pub at_offset : OffsetMap → ℕ → Option ℕ
at_offset m o = get nat_cmp m.bytes o

-- the byte at an offset of a space, 0 where the map has none
abbrev pub bytes_of : ByteMap → ℕ → ℕ → ℕ
bytes_of m s o = or_else (at m s o) 0

-- the bytes with the first k bytes of a list in a space from an offset on
abbrev pub over : ℕ → ℕ → ℕ → List ℕ → (ℕ → ℕ → Option ℕ) → ℕ → ℕ → Option ℕ
over space offset k bytes f s o =
    if space == s && (nat_le offset o && nat_lt o (offset + k)) then slice_get bytes (o - offset) else f s o

-- the least offset past this one at which the space has a byte
abbrev pub IsNextAfter : ByteMap → ℕ → ℕ → Option ℕ → Type 0
IsNextAfter m space offset None = (o : ℕ) → offset < o → at m space o ≡ None
IsNextAfter m space offset (Some n) = (offset < n) × ((o : ℕ) → offset < o → o < n → at m space o ≡ None)
