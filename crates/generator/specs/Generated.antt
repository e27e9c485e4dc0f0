-- The listing of what is drawn.
use Rattle.std.specs.Prelude.{ℕ, zero, suc, ◌+◌, ◌*◌, ◌%◌, true, false, List, [], ◌∷◌, ◌++◌, codes, Option, Some, None}
use Rattle.bits_core.specs.declared.ops.Unary.TheVariants as U
use Rattle.bits_core.specs.declared.ops.Binary.{Binary}
use Rattle.bits_core.specs.declared.ops.Binary.TheVariants as B
use Rattle.pcode_model.specs.declared.listing.Function.{Function}
use Rattle.pcode_model.specs.declared.listing.Instruction.{Instruction}
use Rattle.pcode_model.specs.declared.listing.Listing.{Listing}
use Rattle.pcode_model.specs.declared.listing.Op.{Op}
use Rattle.pcode_model.specs.declared.listing.Proto.{Proto}
use Rattle.pcode_model.specs.declared.listing.Space.{Space}
use Rattle.pcode_model.specs.declared.listing.SpaceKind.{SpaceKind}
use Rattle.pcode_model.specs.declared.listing.SpaceKind.TheVariants.{Ram, Register, Unique}
use Rattle.pcode_model.specs.declared.listing.Storage.TheVariants.{At}
use Rattle.pcode_model.specs.declared.listing.Varnode.{Varnode}
use Rattle.pcode_model.specs.declared.opcode.Opcode.{Opcode}
use Rattle.pcode_model.specs.declared.opcode.Opcode.TheVariants as O
use Rattle.pcode_model.specs.WellFormed.{constant_space}
use Rattle.listing_print.specs.Printed.{text_of}
use Rattle.generator.specs.declared.draws.Drawn.{Drawn}
use Rattle.generator.specs.declared.draws.Shape.{Shape}
use Rattle.generator.specs.declared.draws.Shape.TheVariants.{Constant, Sum, Xor, Product, Branch, Store, Load, Byte}
use Rattle.generator.specs.Draws.{drawn_at}

-- ---- ranges: the constant space is 0, ram 1, the register space 2, the unique space 3

abbrev pub range : ℕ → ℕ → ℕ → Varnode
range space offset size = record { space = space; offset = offset; size = size }

-- a constant of four bytes
abbrev pub constant : ℕ → Varnode
constant n = range 0 n 4

-- the register of that number
abbrev pub register : ℕ → Varnode
register n = range 2 (4 * n) 4

-- the byte at its offset
abbrev pub low_byte : ℕ → Varnode
low_byte n = range 2 (4 * n) 1

-- what a test writes
abbrev pub flag : Varnode
flag = range 3 0 1

-- the address of the instruction of that number
abbrev pub address : ℕ → ℕ
address i = 0x1000 + 4 * i

-- the place that a drawn word names: one of the 2,001 instructions
abbrev pub target : ℕ → Varnode
target word = range 1 (address (word % 2001)) 4

-- ---- instructions

abbrev pub op : Opcode → Option Varnode → List Varnode → Op
op code out inputs = record { code = code; out = out; inputs = inputs }

abbrev pub combines : Binary → ℕ → ℕ → List Op
combines code a b = op (O.Binary code) (Some (register a)) (register a ∷ register b ∷ []) ∷ []

abbrev pub tests : ℕ → ℕ → ℕ → List Op
tests a b word = op (O.Binary B.Less) (Some flag) (register a ∷ register b ∷ [])
    ∷ op O.CBranch None (target word ∷ flag ∷ []) ∷ []

-- by the shape, the numbers of two registers and a word
abbrev pub ops_by : Shape → ℕ → ℕ → ℕ → List Op
ops_by Constant a b word = op (O.Unary U.Copy) (Some (register a)) (constant word ∷ []) ∷ []
ops_by Sum a b word = combines B.Add a b
ops_by Xor a b word = combines B.Xor a b
ops_by Product a b word = combines B.Multiply a b
ops_by Branch a b word = tests a b word
ops_by Store a b word = op O.Store None (constant 1 ∷ register a ∷ register b ∷ []) ∷ []
ops_by Load a b word = op O.Load (Some (register a)) (constant 1 ∷ register b ∷ []) ∷ []
ops_by Byte a b word = op (O.Binary B.Subpiece) (Some (low_byte a)) (register b ∷ constant 1 ∷ []) ∷ []

abbrev pub ops_of : Drawn → List Op
ops_of d = ops_by d.shape d.first d.second d.word

-- each has a length of 4 bytes
abbrev pub placed : ℕ → List Op → Instruction
placed i ops = record { address = address i; length = 4; ops = ops }

-- the first n of the instructions that are drawn so
unfoldable pub instructions : (ℕ → Drawn) → ℕ → List Instruction
instructions draws zero = []
instructions draws (suc n) = instructions draws n ++ placed n (ops_of (draws n)) ∷ []

-- the last op returns to what the ninth register names
abbrev pub returning : List Op
returning = op O.Return None (register 8 ∷ []) ∷ []

-- 2,000 drawn instructions, and the last one
abbrev pub code_of : (ℕ → Drawn) → List Instruction
code_of draws = instructions draws 2000 ++ placed 2000 returning ∷ []

-- ---- the listing

abbrev pub space : List ℕ → SpaceKind → Space
space name kind = record { name = name; kind = kind; size = 4; big = false; word = 1 }

abbrev pub spaces : List Space
spaces = constant_space ∷ space (codes "ram") Ram ∷ space (codes "register") Register ∷ space (codes "unique") Unique ∷ []

abbrev pub proto : Proto
proto = record {
  name = codes "c";
  args = At (register 0) ∷ At (register 1) ∷ [];
  gives = Some (register 0);
  pop = 0;
  keep = [];
}

abbrev pub function : Function
function = record { name = codes "gen"; address = address 0; proto = 0; returns = true }

-- the listing of any draws
abbrev pub listing_of : (ℕ → Drawn) → Listing
listing_of draws = record {
  version = 1;
  spaces = spaces;
  stack = None;
  protos = proto ∷ [];
  func = function;
  callees = [];
  fixed = [];
  code = code_of draws;
}

-- the listing with this number
unfoldable pub generated : ℕ → Listing
generated number = listing_of (drawn_at number)

-- its text, which is the canonical one
abbrev pub generated_text : ℕ → List ℕ
generated_text number = text_of (generated number)
