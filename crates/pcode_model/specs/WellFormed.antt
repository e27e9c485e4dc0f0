-- What holds of every listing that is read: each rule that the reader keeps to. This project's own.
use Rattle.std.specs.Prelude.{◌≡◌, ◌+◌, ◌<◌, ◌≤◌, ◌^◌, ◌⊎◌, ℕ, suc, true, false, List, [], ◌∷◌, length, codes, Option, Some, IfSome, IsSome, if◌then◌else◌, slice_get}
use Rattle.std.specs.List.{AllByRecursion}
use Rattle.listing_lines.specs.Tokens.{is_name}
use Rattle.pcode_model.specs.declared.listing.Fixed.{Fixed}
use Rattle.pcode_model.specs.declared.listing.Function.{Function}
use Rattle.pcode_model.specs.declared.listing.Instruction.{Instruction}
use Rattle.pcode_model.specs.declared.listing.Listing.{Listing}
use Rattle.pcode_model.specs.declared.listing.Op.{Op}
use Rattle.pcode_model.specs.declared.listing.Proto.{Proto}
use Rattle.pcode_model.specs.declared.listing.Space.{Space}
use Rattle.pcode_model.specs.declared.listing.SpaceKind.{SpaceKind}
use Rattle.pcode_model.specs.declared.listing.SpaceKind.TheVariants.{Constant, Ram, Register, Unique}
use Rattle.pcode_model.specs.declared.listing.Storage.{Storage}
use Rattle.pcode_model.specs.declared.listing.Storage.TheVariants.{At, Stack}
use Rattle.pcode_model.specs.declared.listing.Varnode.{Varnode}
use Rattle.pcode_model.specs.Flow.{AreApart}
use Rattle.pcode_model.specs.Ranges.{is_kind, leaves, meets}
use Rattle.pcode_model.specs.Rules.{HasFewOps}
use Rattle.pcode_model.specs.Spaces.{address_bytes, number_of, same_kind}

-- no two of them have one key
abbrev pub AreDistinct : {A K : Type 0} → (A → K) → List A → Type 0
AreDistinct key [] = Unit {0}
AreDistinct key (x ∷ rest) = AllByRecursion (λ y. key x ≡ key y → ⊥) rest × AreDistinct key rest

-- ---- spaces

abbrev pub how_many : SpaceKind → List Space → ℕ
how_many kind [] = 0
how_many kind (s ∷ spaces) = if same_kind kind s.kind then suc (how_many kind spaces) else how_many kind spaces

-- space 0: the constant space has the name `const`, offsets of 8 bytes, little end first, and words of one byte
abbrev pub constant_space : Space
constant_space = record { name = codes "const"; kind = Constant; size = 8; big = false; word = 1 }

-- a declared space: its offsets and its words have 1 to 8 bytes
pub record IsDeclared (s : Space) : Type 0 where
  pub kind : same_kind Constant s.kind ≡ false
  pub some : 1 ≤ s.size
  pub few : s.size ≤ 8
  pub word_some : 1 ≤ s.word
  pub word_few : s.word ≤ 8

-- space 0 is the constant space, and no other one is
abbrev pub AreSpaces : List Space → Type 0
AreSpaces [] = ⊥
AreSpaces (s ∷ declared) = (s ≡ constant_space) × AllByRecursion IsDeclared declared

-- one register space, one unique space and a ram space
pub record IsComplete (spaces : List Space) : Type 0 where
  pub register : how_many Register spaces ≡ 1
  pub unique : how_many Unique spaces ≡ 1
  pub ram : 1 ≤ how_many Ram spaces

-- only a ram space that isn't the first one may have words of several bytes
abbrev pub HaveWords : List Space → Type 0
HaveWords spaces = (n : ℕ) (s : Space) → slice_get spaces n ≡ Some s → (is_kind Ram spaces n ≡ false) ⊎ (n ≡ number_of Ram spaces) → s.word ≡ 1

-- ---- ranges

-- at least one byte, all in the register space, in a size of at most five decimal digits
pub record IsRegister (spaces : List Space) (v : Varnode) : Type 0 where
  pub kind : is_kind Register spaces v.space ≡ true
  pub some : 0 < v.size
  pub few : v.size < 10 ^ 5
  pub inside : leaves spaces v.space v.offset v.size ≡ false

-- the stack pointer is as wide as the first ram space's offsets, and has at least 2 bytes
pub record IsStackPointer (spaces : List Space) (v : Varnode) : Type 0 where
  pub register : IsRegister spaces v
  pub wide : v.size ≡ address_bytes spaces
  pub some : 2 ≤ v.size

-- the range of an argument or a result
pub record IsStorage (spaces : List Space) (v : Varnode) : Type 0 where
  pub register : IsRegister spaces v
  pub few : v.size ≤ 16

abbrev pub IsArgument : List Space → Option Varnode → Storage → Type 0
IsArgument spaces stack (At v) = IsStorage spaces v
IsArgument spaces stack (Stack offset size) = (0 < size) × (size ≤ 16) × (offset ≤ 0xffff) × IsSome stack

-- at least one byte, in a size of at most five decimal digits, at an offset of at most 16 hexadecimal ones; a constant
-- is reduced to its size
pub record IsOperand (v : Varnode) : Type 0 where
  pub some : 0 < v.size
  pub few : v.size < 10 ^ 5
  pub long : v.offset < 2 ^ 64
  pub reduced : v.space ≡ 0 → v.offset < 256 ^ v.size

-- two register ranges share no byte
abbrev pub ShareNothing : Varnode → Varnode → Type 0
ShareNothing v w = meets v.offset v.size w.offset w.size ≡ false

-- ---- what is declared

pub record IsProto (spaces : List Space) (stack : Option Varnode) (p : Proto) : Type 0 where
  pub args : AllByRecursion (IsArgument spaces stack) p.args
  pub args_few : length p.args ≤ 16
  pub gives : IfSome p.gives (IsStorage spaces)
  pub pop : p.pop ≤ 0xffff
  pub keep : AllByRecursion (IsRegister spaces) p.keep
  pub keep_few : length p.keep ≤ 64
  -- the result, the kept ranges and the stack pointer share no byte; kept ranges may share some
  pub result_apart : IfSome p.gives (λ result. IfSome stack (ShareNothing result))
  pub kept_apart : AllByRecursion (λ kept. IfSome stack (ShareNothing kept) × IfSome p.gives (ShareNothing kept)) p.keep

-- an address in the first ram space, and the number of one of so many prototypes
pub record IsFunction (spaces : List Space) (protos : ℕ) (f : Function) : Type 0 where
  pub proto : f.proto < protos
  pub inside : leaves spaces (number_of Ram spaces) f.address 1 ≡ false

pub record IsFixed (spaces : List Space) (f : Fixed) : Type 0 where
  pub kind : is_kind Ram spaces f.space ≡ true
  pub some : 0 < length f.bytes
  pub few : length f.bytes ≤ 4096
  pub bytes : AllByRecursion (λ b. b < 256) f.bytes
  pub inside : leaves spaces f.space f.offset (length f.bytes) ≡ false

-- of read-only bytes in one space, each end before those that follow begin
abbrev pub FixedRise : List Fixed → Type 0
FixedRise [] = Unit {0}
FixedRise (f ∷ rest) = AllByRecursion (λ g. f.space ≡ g.space → f.offset + length f.bytes ≤ g.offset) rest × FixedRise rest

-- ---- names

abbrev pub IsNamedSpace : Space → Type 0
IsNamedSpace s = is_name s.name ≡ true

abbrev pub IsNamedProto : Proto → Type 0
IsNamedProto p = is_name p.name ≡ true

abbrev pub IsNamedFunction : Function → Type 0
IsNamedFunction f = is_name f.name ≡ true

-- each name has the form of a name
pub record AreNamed (l : Listing) : Type 0 where
  pub spaces : AllByRecursion IsNamedSpace l.spaces
  pub protos : AllByRecursion IsNamedProto l.protos
  pub func : IsNamedFunction l.func
  pub callees : AllByRecursion IsNamedFunction l.callees

-- no two spaces, no two prototypes and no two functions have one name, and no two functions have one address; no space
-- is named as an argument on the stack is
pub record AreApartByName (l : Listing) : Type 0 where
  pub spaces : AreDistinct (λ s. s.name) l.spaces
  pub no_stack : AllByRecursion (λ s. s.name ≡ codes "stack" → ⊥) l.spaces
  pub protos : AreDistinct (λ p. p.name) l.protos
  pub functions : AreDistinct (λ f. f.name) (l.func ∷ l.callees)
  pub addresses : AreDistinct (λ f. f.address) (l.func ∷ l.callees)

-- ---- the code

pub record IsOp (op : Op) : Type 0 where
  pub out : IfSome op.out IsOperand
  pub inputs : AllByRecursion IsOperand op.inputs

abbrev pub HasOps : Instruction → Type 0
HasOps i = AllByRecursion IsOp i.ops

-- its length has at most five decimal digits
abbrev pub IsShort : Instruction → Type 0
IsShort i = i.length < 10 ^ 5

-- a range of the constant space or of a declared one
abbrev pub IsKnown : List Space → Varnode → Type 0
IsKnown spaces v = v.space < length spaces

pub record IsKnownOp (spaces : List Space) (op : Op) : Type 0 where
  pub out : IfSome op.out (IsKnown spaces)
  pub inputs : AllByRecursion (IsKnown spaces) op.inputs

abbrev pub HasKnownOps : List Space → Instruction → Type 0
HasKnownOps spaces i = AllByRecursion (IsKnownOp spaces) i.ops

-- ---- limits

-- how many ops instructions have
abbrev pub total_ops : List Instruction → ℕ
total_ops [] = 0
total_ops (i ∷ rest) = length i.ops + total_ops rest

-- the constant space and at most 8 declared ones, and how many there are of the rest
pub record IsLimited (l : Listing) : Type 0 where
  pub spaces : length l.spaces ≤ 9
  pub protos : length l.protos ≤ 64
  pub callees : length l.callees ≤ 1024
  pub ops : total_ops l.code ≤ 16384

-- ---- all of it

-- a listing of version 1 has no words of several bytes and no callee that never returns
pub record IsVersionOne (l : Listing) : Type 0 where
  pub words : AllByRecursion (λ s. s.word ≡ 1) l.spaces
  pub callees : AllByRecursion (λ f. f.returns ≡ true) l.callees

pub record IsWellFormed (l : Listing) : Type 0 where
  pub version : (l.version ≡ 1) ⊎ (l.version ≡ 2)
  pub first_version : l.version ≡ 1 → IsVersionOne l
  pub spaces : AreSpaces l.spaces
  pub complete : IsComplete l.spaces
  pub words : HaveWords l.spaces
  pub stack : IfSome l.stack (IsStackPointer l.spaces)
  pub protos : AllByRecursion (IsProto l.spaces l.stack) l.protos
  pub func : IsFunction l.spaces (length l.protos) l.func
  pub returns : l.func.returns ≡ true
  pub callees : AllByRecursion (IsFunction l.spaces (length l.protos)) l.callees
  pub fixed : AllByRecursion (IsFixed l.spaces) l.fixed
  pub rising : FixedRise l.fixed
  -- at least one instruction; each has a length and ends before the next one begins or where it begins
  pub some : 0 < length l.code
  pub apart : AreApart l.code
  pub short : AllByRecursion IsShort l.code
  pub few : HasFewOps l.code
  pub ops : AllByRecursion HasOps l.code
  pub known : AllByRecursion (HasKnownOps l.spaces) l.code
  pub named : AreNamed l
  pub distinct : AreApartByName l
  pub limited : IsLimited l
