-- The form of the ops that have statements so far. This project's own.
use Rattle.std.specs.Prelude.{◌≡◌, ℕ, ◌+◌, ◌<◌, ◌≤◌, List, [], ◌∷◌, Option, Some, None, IfSome, ◌⊎◌}
use Rattle.std.specs.List.{AllByRecursion}
use Rattle.bits_core.specs.Value.{limit, IsUnarySized, IsBinarySized}
use Rattle.bits_core.specs.declared.ops.Binary.{Binary}
use Rattle.bits_core.specs.declared.ops.Binary.TheVariants as B
use Rattle.pcode_model.specs.declared.listing.SpaceKind.{SpaceKind}
use Rattle.pcode_model.specs.declared.listing.SpaceKind.TheVariants.{Constant, Ram, Register, Unique}
use Rattle.pcode_model.specs.declared.listing.Varnode.{Varnode}
use Rattle.pcode_model.specs.declared.listing.Listing.{Listing}
use Rattle.pcode_model.specs.declared.listing.Proto.{Proto}
use Rattle.pcode_model.specs.declared.opcode.Opcode.{Opcode}
use Rattle.pcode_model.specs.declared.opcode.Opcode.TheVariants as O
use Rattle.pcode_model.specs.Flow.{IsIn}
use Rattle.pcode_model.specs.Spaces.{first_ram, kind_of, register_space, size_of, word_size}
use Rattle.pcode_model.specs.Step.{Operand, Reads, ReadsStack, all_read, arguments, callee_at, proto_of}
use Rattle.pcode_model.specs.WellFormed.{ShareNothing}
use Rattle.cmeaning.specs.Do.{accessed}
use Rattle.op_code.specs.Cover.{HasCover}
use Rattle.range_words.specs.Own.{frame_range, stack_size}
use Rattle.op_code.specs.Made.{Own, name_of, none_own, offset_bytes}

-- A ram space: a statement names it, and its offsets and words are of so many bytes.
pub record IsMemory (l : Listing) (s : ℕ) : Type 0 where
  pub ram : kind_of l s ≡ Ram
  pub name : accessed l (name_of l s) ≡ s
  pub some : 0 < offset_bytes l s
  pub few : offset_bytes l s ≤ 8
  pub word : word_size l s ≤ 8

abbrev pub IsNarrow : Varnode → Type 0
IsNarrow v = (0 < v.size) × (v.size ≤ 16)

-- it begins in its space
abbrev pub IsDirect : Listing → Varnode → Type 0
IsDirect l v = IsMemory l v.space × (v.offset < size_of l v.space)

abbrev pub IsOperandBy : SpaceKind → Listing → List Varnode → Varnode → Type 0
IsOperandBy Constant l ranges v = v.offset < limit v.size
IsOperandBy Ram l ranges v = IsDirect l v
IsOperandBy Register l ranges v = HasCover ranges v
IsOperandBy Unique l ranges v = HasCover ranges v

-- a constant, a direct range of memory, or a range of variables
abbrev pub IsOperand : Listing → List Varnode → Varnode → Type 0
IsOperand l ranges v = IsNarrow v × IsOperandBy (kind_of l v.space) l ranges v

abbrev pub IsOutputBy : SpaceKind → Listing → List Varnode → Varnode → Type 0
IsOutputBy Constant l ranges v = ⊥
IsOutputBy Ram l ranges v = IsDirect l v
IsOutputBy Register l ranges v = HasCover ranges v
IsOutputBy Unique l ranges v = HasCover ranges v

-- a direct range of memory, or a range of variables
abbrev pub IsOutput : Listing → List Varnode → Varnode → Type 0
IsOutput l ranges v = IsNarrow v × IsOutputBy (kind_of l v.space) l ranges v

-- the second input of SUBPIECE is a constant
abbrev pub IsSecond : Listing → Binary → Varnode → Type 0
IsSecond l B.Subpiece v = kind_of l v.space ≡ Constant
IsSecond l op v = Unit {0}

-- the result of a function is a range of variables
abbrev pub IsLocalBy : SpaceKind → List Varnode → Varnode → Type 0
IsLocalBy Constant ranges v = ⊥
IsLocalBy Ram ranges v = ⊥
IsLocalBy Register ranges v = HasCover ranges v
IsLocalBy Unique ranges v = HasCover ranges v

abbrev pub IsResult : Listing → List Varnode → Option Varnode → Type 0
IsResult l ranges None = Unit {0}
IsResult l ranges (Some v) = IsNarrow v × IsLocalBy (kind_of l v.space) ranges v

-- ---- the frame

-- So many bytes of the frame, from an offset on, are a range of variables.
pub record IsFramed (l : Listing) (ranges : List Varnode) (c k : ℕ) : Type 0 where
  pub below : c < stack_size l
  pub cover : HasCover ranges (frame_range l c k)

-- ---- calls

-- a range of registers
abbrev pub IsGiven : Listing → List Varnode → Varnode → Type 0
IsGiven l ranges v = (v.space ≡ register_space l) × (IsNarrow v × HasCover ranges v)

-- There is a stack pointer, by which the first ram space is addressed.
pub record HasPointer (l : Listing) (ranges : List Varnode) : Type 0 where
  pub pointer : Varnode
  pub is : l.stack ≡ Some pointer
  pub given : IsGiven l ranges pointer
  pub memory : IsMemory l (first_ram l)
  pub wide : stack_size l ≡ limit pointer.size
  pub word : word_size l (first_ram l) ≡ 1

-- an argument on the stack: bytes of the frame, or memory above the stack pointer
abbrev pub IsOnStack : Option ℕ → Listing → List Varnode → ℕ → Type 0
IsOnStack None l ranges k = HasPointer l ranges
IsOnStack (Some c) l ranges k = IsFramed l ranges c k

abbrev pub IsRead : Listing → Own → List Varnode → Operand → Type 0
IsRead l own ranges (Reads v) = IsOperand l ranges v
IsRead l own ranges (ReadsStack n offset size) = ((0 < size) × (size ≤ 16)) × IsOnStack (own n) l ranges size

abbrev pub AllOperands : Listing → Own → List Varnode → List Operand → Type 0
AllOperands l own ranges [] = Unit {0}
AllOperands l own ranges (x ∷ xs) = IsRead l own ranges x × AllOperands l own ranges xs

-- each of these lies in a range of registers, or shares no byte with it
abbrev pub IsSplitBy : Listing → List Varnode → Varnode → Type 0
IsSplitBy l ranges kept = (v : Varnode) → IsIn v ranges → v.space ≡ register_space l
    → ((kept.offset ≤ v.offset) × (v.offset + v.size ≤ kept.offset + kept.size)) ⊎ ShareNothing v kept

-- What is asked of the prototype of a call that is reached.
-- stack: the stack pointer is a range of variables.
-- kept: each variable of a register lies in a kept range or apart from it.
-- apart: no kept range shares a byte with the result, and neither of them one with the stack pointer.
pub record IsCallable (l : Listing) (own : Own) (ranges : List Varnode) (p : Proto) : Type 0 where
  pub args : AllOperands l own ranges (arguments 0 p.args)
  pub gives : IfSome p.gives (IsGiven l ranges)
  pub stack : IfSome l.stack (IsGiven l ranges)
  pub kept : AllByRecursion (IsSplitBy l ranges) p.keep
  pub kept_apart : AllByRecursion (λ kept. IfSome p.gives (ShareNothing kept)) p.keep
  pub kept_off : AllByRecursion (λ kept. IfSome l.stack (ShareNothing kept)) p.keep
  pub gives_off : IfSome p.gives (λ z. IfSome l.stack (ShareNothing z))

-- ---- ops

-- A LOAD goes by a pointer, or reads bytes of the frame.
abbrev pub IsLoad : Option ℕ → Listing → List Varnode → (s z : Varnode) → Type 0
IsLoad None l ranges s z = IsMemory l s.offset
IsLoad (Some c) l ranges s z = (s.offset ≡ first_ram l) × IsFramed l ranges c z.size

-- A STORE goes by a pointer, or writes bytes of the frame.
abbrev pub IsStore : Option ℕ → Listing → List Varnode → (s y : Varnode) → Type 0
IsStore None l ranges s y = IsMemory l s.offset
IsStore (Some c) l ranges s y = (s.offset ≡ first_ram l) × IsFramed l ranges c y.size

abbrev pub IsPlainOp : Listing → Own → List Varnode → Opcode → Option Varnode → List Varnode → Type 0
IsPlainOp l own ranges (O.Unary op) (Some z) (x ∷ []) =
    IsUnarySized op x.size z.size × (IsOperand l ranges x × IsOutput l ranges z)
IsPlainOp l own ranges (O.Binary op) (Some z) (x ∷ y ∷ []) =
    (IsSecond l op y × IsBinarySized op x.size y.size z.size)
    × ((IsOperand l ranges x × IsOperand l ranges y) × IsOutput l ranges z)
IsPlainOp l own ranges (O.Divide op) (Some z) (x ∷ y ∷ []) =
    ((x.size ≡ z.size) × (y.size ≡ z.size)) × ((IsOperand l ranges x × IsOperand l ranges y) × IsOutput l ranges z)
IsPlainOp l own ranges O.Load (Some z) (s ∷ x ∷ []) =
    IsLoad (own 0) l ranges s z × (IsOperand l ranges x × IsOutput l ranges z)
IsPlainOp l own ranges O.Store None (s ∷ x ∷ y ∷ []) =
    IsStore (own 0) l ranges s y × (IsOperand l ranges x × IsOperand l ranges y)
IsPlainOp l own ranges O.Branch None (to ∷ []) = Unit {0}
IsPlainOp l own ranges O.CBranch None (to ∷ x ∷ []) = (x.size ≡ 1) × IsOperand l ranges x
IsPlainOp l own ranges O.Return None (to ∷ []) = IsOperand l ranges to × IsResult l ranges (proto_of l None).gives
IsPlainOp l own ranges O.Call None (to ∷ []) = IsCallable l own ranges (proto_of l (callee_at l to.offset))
IsPlainOp l own ranges O.CallInd None (to ∷ []) = IsOperand l ranges to × IsCallable l own ranges (proto_of l None)
IsPlainOp l own ranges O.CallOther out (index ∷ vs) =
    AllOperands l none_own ranges (all_read vs) × IfSome out (IsOutput l ranges)
IsPlainOp l own ranges code out vs = ⊥
