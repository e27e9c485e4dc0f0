-- What is known at one place, slot by slot, and what an op makes of it. This project's own.
use Rattle.std.specs.Prelude.{◌≡◌, ℕ, zero, suc, ◌+◌, ◌-◌, ◌%◌, ◌<◌, ◌==◌, ◌&&◌, Bool, true, false, if◌then◌else◌, List, [], ◌∷◌, map, length, Option, Some, None}
use Rattle.bits_core.specs.declared.ops.Unary.TheVariants as U
use Rattle.bits_core.specs.declared.ops.Binary.TheVariants as B
use Rattle.pcode_model.specs.declared.listing.Varnode.{Varnode}
use Rattle.pcode_model.specs.declared.listing.Op.{Op}
use Rattle.pcode_model.specs.declared.listing.Proto.{Proto}
use Rattle.pcode_model.specs.declared.listing.Listing.{Listing}
use Rattle.pcode_model.specs.declared.opcode.Opcode.{Opcode}
use Rattle.pcode_model.specs.declared.opcode.Opcode.TheVariants as O
use Rattle.pcode_model.specs.Spaces.{register_space, unique_space, or}
use Rattle.pcode_model.specs.Places.{Standing, Nothing, Passes, Does}
use Rattle.pcode_model.specs.Step.{callee_at, proto_of, varnode_at, in_some}
use Rattle.frame_facts.specs.Facts.{Known, writes}
use Rattle.frame_facts.specs.Escapes.{is_constant}
use Rattle.frame_known.specs.declared.slots.Slots.{Slots}
use Rattle.frame_known.specs.Slots.{is_wide, key, range_of}

-- the offset that is known of each slot
abbrev pub Row : Type 0
Row = List (Option ℕ)

-- ---- what a row says

abbrev pub offset_in : List ℕ → Row → ℕ → Option ℕ
offset_in [] row n = None
offset_in (k ∷ ks) [] n = None
offset_in (k ∷ ks) (r ∷ row) n = if k == n then r else offset_in ks row n

-- the offset that is known of a range
abbrev pub offset_of : Slots → Row → Varnode → Option ℕ
offset_of s row v = if is_wide s.width v then offset_in s.keys.items row (key v) else None

abbrev pub is_offset : Option ℕ → ℕ → Bool
is_offset None c = false
is_offset (Some d) c = d == c

abbrev pub knows : Slots → Row → Known
knows s row v c = is_offset (offset_of s row v) c

-- each offset is one of so many
abbrev pub IsBelow : ℕ → Option ℕ → Type 0
IsBelow m None = Unit {0}
IsBelow m (Some c) = c < m

abbrev pub AreBelow : ℕ → Row → Type 0
AreBelow m [] = Unit {0}
AreBelow m (r ∷ row) = IsBelow m r × AreBelow m row

-- a row with an entry for each slot
pub record IsRow (s : Slots) (row : Row) : Type 0 where
  pub long : length row ≡ length s.keys.items
  pub below : AreBelow s.offsets row

-- ---- what an op makes of it

-- an offset and so many more, of m offsets
abbrev pub plus : ℕ → Option ℕ → ℕ → Option ℕ
plus m None n = None
plus m (Some b) n = Some ((b + n) % m)

abbrev pub plus_if : Bool → ℕ → Option ℕ → ℕ → Option ℕ
plus_if true m r n = plus m r n
plus_if false m r n = None

abbrev pub first_of : Option ℕ → Option ℕ → Option ℕ
first_of None r = r
first_of (Some c) r = Some c

-- the offset that an op makes, where it makes one
abbrev pub made : Listing → Slots → Row → Opcode → List Varnode → Option ℕ
made l s row (O.Unary U.Copy) vs = offset_of s row (varnode_at vs 0)
made l s row (O.Binary B.Add) vs =
    first_of
    (plus_if (is_constant l (varnode_at vs 1)) s.offsets (offset_of s row (varnode_at vs 0)) (varnode_at vs 1).offset)
    (plus_if (is_constant l (varnode_at vs 0)) s.offsets (offset_of s row (varnode_at vs 1)) (varnode_at vs 0).offset)
made l s row (O.Binary B.Subtract) vs =
    plus_if (is_constant l (varnode_at vs 1)) s.offsets (offset_of s row (varnode_at vs 0))
    (s.offsets - (varnode_at vs 1).offset)
made l s row code vs = None

-- the number stands for this range
abbrev pub is_at : ℕ → Option Varnode → ℕ → Bool
is_at w None n = false
is_at w (Some v) n = is_wide w v && key v == n

abbrev pub after_other : Listing → Slots → Row → Op → ℕ → Option ℕ
after_other l s row op n =
    if is_at s.width op.out n then made l s row op.code op.inputs
    else (if writes op.out (range_of s.width n) then None else offset_in s.keys.items row n)

-- each of so many bytes from an offset on is one of a kept range
abbrev pub all_kept : List Varnode → ℕ → ℕ → Bool
all_kept keep o zero = true
all_kept keep o (suc k) = in_some keep o && all_kept keep (suc o) k

abbrev pub keeps : Listing → List Varnode → Varnode → Bool
keeps l keep v = or (v.space == unique_space l) (v.space == register_space l && all_kept keep v.offset v.size)

-- what a call of a prototype leaves of what is known of a slot
abbrev pub left_by : Listing → Slots → Proto → ℕ → Option ℕ → Option ℕ
left_by l s p n r =
    if is_at s.width l.stack n then plus s.offsets r p.pop
    else (if keeps l p.keep (range_of s.width n) then r else None)

abbrev pub after_call : Listing → Slots → Row → Proto → ℕ → Option ℕ
after_call l s row p n = left_by l s p n (offset_in s.keys.items row n)

-- what is known of a slot after an op
abbrev pub after : Listing → Slots → Row → Op → ℕ → Option ℕ
after l s row op n = of op.code where
  of : Opcode → Option ℕ
  of O.Call = after_call l s row (proto_of l (callee_at l (varnode_at op.inputs 0).offset)) n
  of O.CallInd = after_call l s row (proto_of l None) n
  of code = after_other l s row op n

-- the row after what stands at a place
abbrev pub over_row : Listing → Slots → Row → Standing → Row
over_row l s row Nothing = row
over_row l s row (Passes i) = row
over_row l s row (Does i op) = map (after l s row op) s.keys.items
