-- The accesses of the frame, the classes that they make by shared bytes, and the frame variables. This project's own.
use Rattle.std.specs.Prelude.{◌≡◌, ℕ, ◌+◌, ◌%◌, ◌^◌, ◌==◌, if◌then◌else◌, List, [], ◌∷◌, Option, Some, None, ◌↔◌, ℤ, pos, neg_ℤ, ◌+ℤ◌, ◌≤ℤ◌, ◌<ℤ◌}
use Rattle.bits_core.specs.Value.{signed}
use Rattle.pcode_model.specs.declared.listing.Varnode.{Varnode}
use Rattle.pcode_model.specs.declared.listing.Op.{Op}
use Rattle.pcode_model.specs.declared.listing.Place.{Place}
use Rattle.pcode_model.specs.declared.listing.Instruction.{Instruction}
use Rattle.pcode_model.specs.declared.listing.Listing.{Listing}
use Rattle.pcode_model.specs.declared.opcode.Opcode.{Opcode}
use Rattle.pcode_model.specs.declared.opcode.Opcode.TheVariants as O
use Rattle.pcode_model.specs.declared.tables.TableAt.{TableAt}
use Rattle.pcode_model.specs.declared.frame.FrameAccess.{FrameAccess}
use Rattle.pcode_model.specs.declared.frame.FrameVariable.{FrameVariable}
use Rattle.pcode_model.specs.Places.{Does, standing}
use Rattle.pcode_model.specs.Step.{Operand, Reads, ReadsStack, operands, size_out, varnode_at}
use Rattle.pcode_model.specs.Flow.{IsIn, Reached}
use Rattle.frame_facts.specs.Facts.{Fact, offsets}
use Rattle.frame_facts.specs.Escapes.{Escapes, is_of_memory}

-- ---- offsets as signed numbers

abbrev pub width_in : Option Varnode → ℕ
width_in None = 0
width_in (Some v) = v.size

-- the bytes of the stack pointer
abbrev pub stack_width : Listing → ℕ
stack_width l = width_in l.stack

-- the signed number that an offset means
abbrev pub signed_offset : Listing → ℕ → ℤ
signed_offset l c = signed (stack_width l) c

-- how far from the entry word an access may begin: less far where the stack pointer has two bytes
abbrev pub frame_limit : ℕ → ℕ
frame_limit w = if w == 2 then 2 ^ 12 else 2 ^ 20

abbrev pub IsWithinLimits : Listing → ℤ → Type 0
IsWithinLimits l o = (neg_ℤ (pos (frame_limit (stack_width l))) ≤ℤ o) × (o ≤ℤ pos (frame_limit (stack_width l)))

-- ---- accesses of the frame

-- An access of memory so many bytes above the address in a range: a LOAD's or STORE's has the number 0, and the one of a
-- call's argument on the stack the argument's.
pub record Reach : Type 0 where
  pub number : ℕ
  pub base : Varnode
  pub above : ℕ
  pub size : ℕ

abbrev pub reach : ℕ → Varnode → ℕ → ℕ → Reach
reach n v o k = record { number = n; base = v; above = o; size = k }

abbrev pub only_memory : Listing → List Varnode → ℕ → List Reach
only_memory l vs k = if is_of_memory l vs then reach 0 (varnode_at vs 1) 0 k ∷ [] else []

-- those of the arguments on the stack, above the stack pointer
abbrev pub stack_reaches : Option Varnode → List Operand → List Reach
stack_reaches None xs = []
stack_reaches (Some sp) [] = []
stack_reaches (Some sp) (Reads v ∷ xs) = stack_reaches (Some sp) xs
stack_reaches (Some sp) (ReadsStack n o k ∷ xs) = reach n sp o k ∷ stack_reaches (Some sp) xs

-- what an op accesses of the first ram space by an address in a range
abbrev pub reaches : Listing → Op → List Reach
reaches l op = of op.code where
  of : Opcode → List Reach
  of O.Load = only_memory l op.inputs (size_out op.out)
  of O.Store = only_memory l op.inputs (varnode_at op.inputs 2).size
  of O.Call = stack_reaches l.stack (operands l op.code op.inputs)
  of O.CallInd = stack_reaches l.stack (operands l op.code op.inputs)
  of code = []

-- An access of the frame: at a reached place, by an address with a fact, within the limits. What a jump table's target
-- loads outside the word that the table switches on is none: `evaluated` has the places of these LOADs.
pub record IsFrameAccess (l : Listing) (t : List TableAt) (evaluated : List Place) (a : FrameAccess) : Type 0 where
  pub reached : Reached l t a.place
  pub instruction : Instruction
  pub op : Op
  pub does : standing l a.place ≡ Does instruction op
  pub by : Reach
  pub is_by : IsIn by (reaches l op)
  pub number : a.argument ≡ by.number
  pub size : a.size ≡ by.size
  pub base : ℕ
  pub fact : Fact l t a.place by.base base
  pub offset : a.offset ≡ signed_offset l ((base + by.above) % offsets l)
  pub within : IsWithinLimits l a.offset
  pub kept : IsIn a.place evaluated → ⊥

-- ---- classes

-- the byte at an offset is one of so many bytes from an offset on
abbrev pub IsByte : ℤ → ℕ → ℤ → Type 0
IsByte from k o = (from ≤ℤ o) × (o <ℤ (from +ℤ pos k))

abbrev pub IsByteOf : FrameAccess → ℤ → Type 0
IsByteOf a o = IsByte a.offset a.size o

abbrev pub ShareByte : FrameAccess → FrameAccess → Type 0
ShareByte a b = (o : ℤ) × (IsByteOf a o × IsByteOf b o)

-- Two accesses of the frame are in one class: a chain of such leads from the one to the other, each of which shares a
-- byte with the next one.
pub data AreJoined (l : Listing) (t : List TableAt) (evaluated : List Place) : FrameAccess → FrameAccess → Type 0 where
  Same : (a : FrameAccess) → IsFrameAccess l t evaluated a → AreJoined l t evaluated a a
  Chained : (a b c : FrameAccess)
      → AreJoined l t evaluated a b
      → IsFrameAccess l t evaluated c
      → ShareByte b c
      → AreJoined l t evaluated a c

-- ---- variables

-- the bytes of the class of an access
pub record IsClass (l : Listing) (t : List TableAt) (evaluated : List Place) (a : FrameAccess) (v : FrameVariable)
    : Type 0 where
  pub access : IsFrameAccess l t evaluated a
  pub bytes : (o : ℤ)
      → IsByte v.offset v.size o ↔ ((b : FrameAccess) × (AreJoined l t evaluated a b × IsByteOf b o))

-- every byte lies below every offset that escapes
abbrev pub IsBelowEscapes : Listing → List TableAt → FrameVariable → Type 0
IsBelowEscapes l t v = (c : ℕ) → Escapes l t c → (v.offset +ℤ pos v.size) ≤ℤ signed_offset l c

-- The range is a frame variable, and the access is one of its.
pub record IsAccessOf (l : Listing) (t : List TableAt) (evaluated : List Place) (v : FrameVariable) (a : FrameAccess)
    : Type 0 where
  pub is_class : IsClass l t evaluated a v
  pub below : IsBelowEscapes l t v

abbrev pub IsFrameVariable : Listing → List TableAt → List Place → FrameVariable → Type 0
IsFrameVariable l t evaluated v = (a : FrameAccess) × IsAccessOf l t evaluated v a

-- Every other access of memory goes by a pointer.
abbrev pub IsVariableAccess : Listing → List TableAt → List Place → FrameAccess → Type 0
IsVariableAccess l t evaluated a = (v : FrameVariable) × IsAccessOf l t evaluated v a
