-- Small slices, and the trees in them.
use Rattle.std.specs.Prelude.{◌≡◌, ℕ, Bool, true, false, List, [], ◌∷◌, Option, Some, None, codes}
use Rattle.bits_core.specs.declared.ops.Unary.TheVariants as U
use Rattle.bits_core.specs.declared.ops.Binary.TheVariants as B
use Rattle.pcode_model.specs.declared.listing.SpaceKind.{SpaceKind}
use Rattle.pcode_model.specs.declared.listing.SpaceKind.TheVariants.{Constant, Ram, Register, Unique}
use Rattle.pcode_model.specs.declared.listing.Space.{Space}
use Rattle.pcode_model.specs.declared.listing.Varnode.{Varnode}
use Rattle.pcode_model.specs.declared.listing.Op.{Op}
use Rattle.pcode_model.specs.declared.listing.Instruction.{Instruction}
use Rattle.pcode_model.specs.declared.listing.Place.{Place}
use Rattle.pcode_model.specs.declared.listing.Listing.{Listing}
use Rattle.pcode_model.specs.declared.opcode.Opcode.{Opcode}
use Rattle.pcode_model.specs.declared.opcode.Opcode.TheVariants as O
use Rattle.pcode_model.specs.Places.{place}
use Rattle.table_form.specs.Trees.{Joins, Loads, Tree, Entry, Number, Node, End, More, cut, node_of_one, node_of_two, reading}
use Rattle.table_form.specs.Values.{Gives}
use Rattle.table_form.specs.Slices.{IsSlice, guard_of, length_of, read, target_of, traced}
use Rattle.table_form.specs.Form.{IsGuard, Passes, mask_of}

-- space 1 is ram, 2 the registers, 3 the unique space, with offsets of 4 bytes
abbrev pub space : Bool → SpaceKind → Space
space big kind = record { name = []; kind = kind; size = 4; big = big; word = 1 }

abbrev pub number : ℕ → ℕ → Varnode
number n k = record { space = 0; offset = n; size = k }

abbrev pub register : ℕ → ℕ → Varnode
register o k = record { space = 2; offset = o; size = k }

abbrev pub unique : ℕ → ℕ → Varnode
unique o k = record { space = 3; offset = o; size = k }

abbrev pub op : Opcode → Varnode → List Varnode → Op
op code out inputs = record { code = code; out = Some out; inputs = inputs }

abbrev pub branch : Opcode → List Varnode → Op
branch code inputs = record { code = code; out = None; inputs = inputs }

abbrev pub returning : ℕ → Instruction
returning a = record { address = a; length = 4; ops = branch O.Return (number 0 4 ∷ []) ∷ [] }

-- these ops at 0x1000, and returns at 0x1010 and 0x1020, with addresses in read-only bytes at 0x2000
abbrev pub listing : Bool → Option Varnode → List ℕ → List Op → Listing
listing big stack bytes ops = record {
  version = 2;
  spaces =
      record { name = codes "const"; kind = Constant; size = 8; big = false; word = 1 } ∷ space big Ram ∷ space big Register ∷ space big Unique ∷ [];
  stack = stack;
  protos = record { name = codes "c"; args = []; gives = None; pop = 0; keep = [] } ∷ [];
  func = record { name = codes "f"; address = 0x1000; proto = 0; returns = true };
  callees = [];
  fixed = record { space = 1; offset = 0x2000; bytes = bytes } ∷ [];
  code = record { address = 0x1000; length = 4; ops = ops } ∷ returning 0x1010 ∷ returning 0x1020 ∷ [];
}

-- ---- parts of ranges: what follows these ops at 0x1000

abbrev pub front : List Place
front = place 0x1000 0 ∷ place 0x1000 1 ∷ []

-- the two low bytes of a register and the one in the middle are written
abbrev pub overlap : List Op
overlap =
    op (O.Unary U.Complement) (register 0 2) (register 0x10 2 ∷ [])
    ∷ op (O.Unary U.Copy) (register 1 1) (number 7 1 ∷ [])
    ∷ branch O.BranchInd (register 0 4 ∷ []) ∷ []

abbrev pub complement : Tree
complement = node_of_one U.Complement 2 (Entry 2 0x10 2)

abbrev pub seven : Tree
seven = node_of_one U.Copy 1 (Number 7 1)

-- An extension from 4 bytes to 8, and a copy of it.
abbrev pub extension : List Op
extension =
    op (O.Unary U.ZeroExtend) (register 0 8) (register 0x10 4 ∷ [])
    ∷ op (O.Unary U.Copy) (register 0x20 8) (register 0 8 ∷ [])
    ∷ branch O.BranchInd (register 0 4 ∷ []) ∷ []

abbrev pub extended : Tree
extended = node_of_one U.ZeroExtend 8 (Entry 2 0x10 4)

abbrev pub little : List Op → Listing
little ops = listing false None [] ops

abbrev pub tree_in : Listing → Varnode → Tree
tree_in l v = read l (traced l front) v

pub record WorkedTrees : Type 0 where
  -- a range of three parts, the high one first, by the order of bytes
  pub three_little : tree_in (little overlap) (register 0 4) ≡ Node Joins 4 (More (Entry 2 2 2) (More seven (More (cut complement 0 1) End)))
  pub three_big : tree_in (listing true None [] overlap) (register 0 4) ≡ Node Joins 4 (More (cut complement 1 1) (More seven (More (Entry 2 2 2) End)))
  -- one part alone
  pub one_part : tree_in (little overlap) (register 0 1) ≡ cut complement 0 1
  pub whole : tree_in (little overlap) (register 1 1) ≡ seven
  pub untouched : tree_in (little overlap) (register 2 4) ≡ Entry 2 2 4
  pub constant : tree_in (little overlap) (number 9 4) ≡ Number 9 4
  -- a copy has its input's tree
  pub copied : tree_in (little extension) (register 0x20 8) ≡ extended
  -- the low bytes that were extended, some of them, and a part that goes past them
  pub low : tree_in (little extension) (register 0x20 4) ≡ Entry 2 0x10 4
  pub some_low : tree_in (little extension) (register 0x21 2) ≡ cut (Entry 2 0x10 4) 1 2
  pub past : tree_in (little extension) (register 0x20 5) ≡ cut extended 0 5
  pub high : tree_in (little extension) (register 0x24 4) ≡ cut extended 4 4
  -- low bytes stand last where the big end comes first
  pub low_big : tree_in (listing true None [] extension) (register 0x24 4) ≡ Entry 2 0x10 4
  -- a part as wide as the stack pointer is cut
  pub stack_wide : tree_in (listing false (Some (register 0x40 4)) [] extension) (register 0x20 4) ≡ cut extended 0 4
  pub stack_other : tree_in (listing false (Some (register 0x40 4)) [] extension) (register 0x20 2) ≡ cut (Entry 2 0x10 4) 0 2

-- ---- a guarded slice and a masked one

-- where 1 isn't less than the register, its word picks one of two addresses
abbrev pub picks : List Op
picks =
    op (O.Binary B.Less) (unique 0x20 1) (number 1 4 ∷ register 0 4 ∷ [])
    ∷ branch O.CBranch (record { space = 1; offset = 0x1020; size = 4 } ∷ unique 0x20 1 ∷ [])
    ∷ op (O.Binary B.Multiply) (unique 0x28 4) (register 0 4 ∷ number 4 4 ∷ [])
    ∷ op (O.Binary B.Add) (unique 0x30 4) (unique 0x28 4 ∷ number 0x2000 4 ∷ [])
    ∷ op O.Load (unique 0x38 4) (number 1 4 ∷ unique 0x30 4 ∷ [])
    ∷ branch O.BranchInd (unique 0x38 4 ∷ []) ∷ []

abbrev pub guarded : Listing
guarded = listing false None (0x10 ∷ 0x10 ∷ 0 ∷ 0 ∷ 0x20 ∷ 0x10 ∷ 0 ∷ 0 ∷ []) picks

abbrev pub places : List Place
places = place 0x1000 0 ∷ place 0x1000 1 ∷ place 0x1000 2 ∷ place 0x1000 3 ∷ place 0x1000 4 ∷ []

abbrev pub index : Tree
index = Entry 2 0 4

abbrev pub entry_address : Tree
entry_address = node_of_two B.Add 4 (node_of_two B.Multiply 4 index (Number 4 4)) (Number 0x2000 4)

abbrev pub target : Tree
target = Node (Loads 1) 4 (More entry_address End)

abbrev pub guard : Tree
guard = node_of_two B.Less 1 (Number 1 4) index

-- the low bit of the register picks
abbrev pub mask : Tree
mask = node_of_two B.And 4 index (Number 1 4)

pub record WorkedSlice : Type 0 where
  pub is_slice : IsSlice guarded (place 0x1000 5) places
  pub six : length_of guarded places ≡ 6
  pub guard_is : guard_of guarded places ≡ Some guard
  pub target_is : target_of guarded places (place 0x1000 5) ≡ target
  pub order : reading target ≡ target ∷ entry_address ∷ node_of_two B.Multiply 4 index (Number 4 4) ∷ index ∷ Number 4 4 ∷ Number 0x2000 4 ∷ []
  pub is_guard : IsGuard index guard
  pub zero_passes : Passes guarded (Some guard) index 0
  pub one_passes : Passes guarded (Some guard) index 1
  pub two_fails : Gives guarded index 2 guard 1
  pub first : Gives guarded index 0 target 0x1010
  pub second : Gives guarded index 1 target 0x1020
  pub mask_is : mask_of mask ≡ Some 1
  pub masked : Passes guarded None mask 1
  pub no_mask : mask_of (node_of_two B.And 4 index (Number 1024 4)) ≡ None
  pub first_mask : mask_of (node_of_two B.And 4 (Number 3 4) (Number 1 4)) ≡ Some 3
