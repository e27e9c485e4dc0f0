-- The ranges that may hold an address of the stack, as numbers in rising order. This project's own.
use Rattle.std.specs.Prelude.{◌≡◌, ℕ, ◌+◌, ◌*◌, ◌/◌, ◌%◌, ◌<◌, ◌≤◌, ◌^◌, ◌==◌, ◌&&◌, nat_lt, Bool, true, false, if◌then◌else◌, List, [], ◌∷◌, ◌++◌, length, Option, Some, None}
use Rattle.std.specs.List.{slice_index_or}
use Rattle.std.specs.List.Sorted.{IsStrictlyIncreasing}
use Rattle.bits_core.specs.declared.ops.Unary.TheVariants as U
use Rattle.bits_core.specs.declared.ops.Binary.TheVariants as B
use Rattle.pcode_model.specs.declared.listing.Varnode.{Varnode}
use Rattle.pcode_model.specs.declared.listing.Op.{Op}
use Rattle.pcode_model.specs.declared.listing.Instruction.{Instruction}
use Rattle.pcode_model.specs.declared.listing.Place.{Place}
use Rattle.pcode_model.specs.declared.listing.Listing.{Listing}
use Rattle.pcode_model.specs.declared.opcode.Opcode.{Opcode}
use Rattle.pcode_model.specs.declared.opcode.Opcode.TheVariants as O
use Rattle.pcode_model.specs.Spaces.{register_space, unique_space, or}
use Rattle.pcode_model.specs.Ranges.{leaves}
use Rattle.pcode_model.specs.Places.{Does, standing}
use Rattle.pcode_model.specs.Flow.{IsIn}
use Rattle.frame_facts.specs.Facts.{CanHold, offsets}
use Rattle.frame_known.specs.declared.slots.Slots.{Slots}

-- ---- ranges as numbers

-- a range's space, and in one space its offset
abbrev pub key : Varnode → ℕ
key v = v.space * 2 ^ 64 + v.offset

-- a range of so many bytes, at an offset that a space may have
abbrev pub is_wide : ℕ → Varnode → Bool
is_wide w v = v.size == w && nat_lt v.offset (2 ^ 64)

-- the range of so many bytes that a number stands for
abbrev pub range_of : ℕ → ℕ → Varnode
range_of w n = record { space = n / 2 ^ 64; offset = n % 2 ^ 64; size = w }

-- ---- which ranges are slots

abbrev pub is_local : Listing → ℕ → Bool
is_local l s = or (s == register_space l) (s == unique_space l)

abbrev pub not : Bool → Bool
not true = false
not false = true

-- the range has so many bytes, all in the register space or the unique space
abbrev pub can_hold : Listing → ℕ → Varnode → Bool
can_hold l w v = v.size == w && (is_local l v.space && not (leaves l.spaces v.space v.offset v.size))

-- the ops that may make an address known
abbrev pub makes_address : Opcode → Bool
makes_address (O.Unary U.Copy) = true
makes_address (O.Binary B.Add) = true
makes_address (O.Binary B.Subtract) = true
makes_address code = false

abbrev pub key_in : Listing → ℕ → Option Varnode → List ℕ
key_in l w None = []
key_in l w (Some v) = if can_hold l w v then key v ∷ [] else []

abbrev pub op_keys : Listing → ℕ → Op → List ℕ
op_keys l w op = if makes_address op.code then key_in l w op.out else []

abbrev pub ops_keys : Listing → ℕ → List Op → List ℕ
ops_keys l w [] = []
ops_keys l w (op ∷ ops) = op_keys l w op ++ ops_keys l w ops

abbrev pub code_keys : Listing → ℕ → List Instruction → List ℕ
code_keys l w [] = []
code_keys l w (i ∷ rest) = ops_keys l w i.ops ++ code_keys l w rest

-- the stack pointer before the outputs
abbrev pub all_keys : Listing → Option Varnode → List ℕ
all_keys l None = []
all_keys l (Some sp) = key sp ∷ code_keys l sp.size l.code

-- The slots of a listing: they rise, each can hold an address, and the stack pointer is one, and so is each output of an
-- op that may make an address known.
pub record AreSlots (l : Listing) (s : Slots) : Type 0 where
  pub rising : IsStrictlyIncreasing s.keys.items
  pub count : s.offsets ≡ offsets l
  pub some : 0 < s.offsets
  pub few : s.offsets ≤ 2 ^ 64
  pub low : (n : ℕ) → IsIn n s.keys.items → n < 2 ^ 72
  pub held : (n c : ℕ) → IsIn n s.keys.items → c < offsets l → CanHold l (range_of s.width n) c
  pub stack : (sp : Varnode) → l.stack ≡ Some sp → (sp.size ≡ s.width) × IsIn (key sp) s.keys.items
  pub outputs : (p : Place) (i : Instruction) (op : Op) (v : Varnode) (c : ℕ)
      → standing l p ≡ Does i op
      → makes_address op.code ≡ true
      → op.out ≡ Some v
      → CanHold l v c
      → IsIn (key v) s.keys.items

-- ---- the slot of a range

-- so many of the numbers are below this one
pub record IsLower (ks : List ℕ) (n count : ℕ) : Type 0 where
  pub inside : count ≤ length ks
  pub below : (k : ℕ) → k < count → slice_index_or ks k 0 < n
  pub above : (k : ℕ) → count ≤ k → k < length ks → n ≤ slice_index_or ks k 0

abbrev pub IsNoSlot : Slots → Varnode → Type 0
IsNoSlot s v = v.size ≡ s.width → IsIn (key v) s.keys.items → ⊥

pub record IsSlot (s : Slots) (v : Varnode) (n : ℕ) : Type 0 where
  pub inside : n < length s.keys.items
  pub wide : v.size ≡ s.width
  pub low : v.offset < 2 ^ 64
  pub is : slice_index_or s.keys.items n 0 ≡ key v
