-- What is known of addresses of the stack: before which places which ranges hold the stack pointer's entry word plus an
-- offset. This project's own.
use Rattle.std.specs.Prelude.{◌≡◌, ℕ, ◌+◌, ◌-◌, ◌%◌, ◌<◌, ◌≤◌, ◌==◌, ◌&&◌, Bool, true, false, List, Option, Some, None, ◌⊎◌}
use Rattle.bits_core.specs.declared.ops.Unary.TheVariants as U
use Rattle.bits_core.specs.declared.ops.Binary.TheVariants as B
use Rattle.pcode_model.specs.declared.listing.SpaceKind.TheVariants.{Constant}
use Rattle.pcode_model.specs.declared.listing.Varnode.{Varnode}
use Rattle.pcode_model.specs.declared.listing.Op.{Op}
use Rattle.pcode_model.specs.declared.listing.Place.{Place}
use Rattle.pcode_model.specs.declared.listing.Proto.{Proto}
use Rattle.pcode_model.specs.declared.listing.Listing.{Listing}
use Rattle.pcode_model.specs.declared.opcode.Opcode.{Opcode}
use Rattle.pcode_model.specs.declared.opcode.Opcode.TheVariants as O
use Rattle.pcode_model.specs.declared.tables.TableAt.{TableAt}
use Rattle.pcode_model.specs.Spaces.{kind_of, size_of, first_ram, register_space, unique_space}
use Rattle.pcode_model.specs.Ranges.{meets}
use Rattle.pcode_model.specs.Places.{Standing, Nothing, Passes, Does, standing}
use Rattle.pcode_model.specs.Step.{callee_at, proto_of, varnode_at, in_some, first_place}
use Rattle.pcode_model.specs.Flow.{Reached, LeadsTo}
use Rattle.pcode_model.specs.Atoms.{IsLocal}

-- ---- offsets

-- How many offsets there are: as many as the first ram space has addresses. An offset is a word below that, and a sum of
-- offsets wraps there. Only where offsets are compared they are signed.
abbrev pub offsets : Listing → ℕ
offsets l = size_of l (first_ram l)

-- The range is one of the register space or the unique space, as wide as the stack pointer, and the offset is one.
pub record CanHold (l : Listing) (v : Varnode) (c : ℕ) : Type 0 where
  pub stack : Varnode
  pub is : l.stack ≡ Some stack
  pub wide : v.size ≡ stack.size
  pub is_local : IsLocal l v.space
  pub inside : v.offset + v.size ≤ size_of l v.space
  pub below : c < offsets l

-- which ranges hold the entry word plus which offsets, at one moment
abbrev pub Known : Type 0
Known = Varnode → ℕ → Bool

-- the same before each place
abbrev pub Facts : Type 0
Facts = Place → Known

-- ---- what is known after an op, from what is known before it

-- two ranges share a byte
abbrev pub shares : Varnode → Varnode → Bool
shares v w = v.space == w.space && meets v.offset v.size w.offset w.size

-- an op with this output writes a byte of the range
abbrev pub writes : Option Varnode → Varnode → Bool
writes None v = false
writes (Some out) v = shares out v

abbrev pub IsConstant : Listing → Varnode → Type 0
IsConstant l v = kind_of l v.space ≡ Constant

-- the sum of a range that is known and a constant
abbrev pub IsSum : Listing → Known → Varnode → Varnode → ℕ → Type 0
IsSum l k v n c = IsConstant l n × ((b : ℕ) × ((k v b ≡ true) × (c ≡ (b + n.offset) % offsets l)))

-- such a range less a constant
abbrev pub IsDifference : Listing → Known → Varnode → Varnode → ℕ → Type 0
IsDifference l k v n c =
    IsConstant l n × ((b : ℕ) × ((k v b ≡ true) × (c ≡ (b + (offsets l - n.offset)) % offsets l)))

-- The op gives its output this offset: it copies a range that is known, or adds a constant on either side, or takes one
-- away.
abbrev pub Makes : Listing → Known → Opcode → List Varnode → ℕ → Type 0
Makes l k (O.Unary U.Copy) vs c = k (varnode_at vs 0) c ≡ true
Makes l k (O.Binary B.Add) vs c =
    IsSum l k (varnode_at vs 0) (varnode_at vs 1) c ⊎ IsSum l k (varnode_at vs 1) (varnode_at vs 0) c
Makes l k (O.Binary B.Subtract) vs c = IsDifference l k (varnode_at vs 0) (varnode_at vs 1) c
Makes l k code vs c = ⊥

-- Over an op that isn't a call a range of which it writes no byte stays known, and its output is known as it makes it.
abbrev pub OverOther : Listing → Known → Op → Varnode → ℕ → Type 0
OverOther l k op v c =
    ((writes op.out v ≡ false) × (k v c ≡ true)) ⊎ ((op.out ≡ Some v) × Makes l k op.code op.inputs c)

-- each byte of a register range is one that a call of this prototype keeps, maybe by several kept ranges
pub record IsKept (l : Listing) (p : Proto) (v : Varnode) : Type 0 where
  pub register : v.space ≡ register_space l
  pub each : (o : ℕ) → v.offset ≤ o → o < v.offset + v.size → in_some p.keep o ≡ true

-- the stack pointer, which a call of this prototype leaves higher by the pop count
abbrev pub IsPopped : Listing → Known → Proto → Varnode → ℕ → Type 0
IsPopped l k p v c = (l.stack ≡ Some v) × ((b : ℕ) × ((k v b ≡ true) × (c ≡ (b + p.pop) % offsets l)))

-- Over a call a kept range and a unique range stay known, and so is the stack pointer; no other register range is.
abbrev pub OverCall : Listing → Known → Proto → Varnode → ℕ → Type 0
OverCall l k p v c = ((IsKept l p v ⊎ (v.space ≡ unique_space l)) × (k v c ≡ true)) ⊎ IsPopped l k p v c

abbrev pub OverOp : Listing → Known → Op → Varnode → ℕ → Type 0
OverOp l k op v c = over op.code where
  over : Opcode → Type 0
  over O.Call = OverCall l k (proto_of l (callee_at l (varnode_at op.inputs 0).offset)) v c
  over O.CallInd = OverCall l k (proto_of l None) v c
  over code = OverOther l k op v c

-- What stands at a place passes the offset on to a range, from what is known before it.
abbrev pub Over : Listing → Known → Standing → Varnode → ℕ → Type 0
Over l k Nothing v c = ⊥
Over l k (Passes i) v c = k v c ≡ true
Over l k (Does i op) v c = OverOp l k op v c

-- ---- the facts

-- Each fact is supported: at the function's first place by the entry, where the stack pointer alone is known, and at each
-- place by every edge from a reached place to it.
pub record AreSupported (l : Listing) (t : List TableAt) (f : Facts) : Type 0 where
  pub can : (p : Place) (v : Varnode) (c : ℕ) → f p v c ≡ true → CanHold l v c
  pub first : (v : Varnode) (c : ℕ) → f (first_place l) v c ≡ true → (l.stack ≡ Some v) × (c ≡ 0)
  pub edge : (p q : Place) (v : Varnode) (c : ℕ)
      → Reached l t p
      → LeadsTo l t p q
      → f q v c ≡ true
      → Over l (f p) (standing l p) v c

-- The facts are the greatest supported set: before a place a range holds the entry word plus an offset, where some
-- supported set says so.
abbrev pub Fact : Listing → List TableAt → Place → Varnode → ℕ → Type 0
Fact l t p v c = (f : Facts) × ((f p v c ≡ true) × AreSupported l t f)
