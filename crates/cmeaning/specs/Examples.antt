-- Small listings, C functions and entries, for worked runs.
use Rattle.std.specs.Prelude.{ℕ, ◌<◌, ◌==◌, ◌&&◌, if◌then◌else◌, Bool, true, false, List, [], ◌∷◌, codes, Option, Some, None}
use Rattle.std.proofs.Common.{lit<, lit≤}
use Rattle.machine.specs.Trace.{Event, End, Returned, Trace}
use Rattle.bits_core.specs.declared.word.Width.{Width}
use Rattle.bits_core.specs.declared.word.Word.{Word}
use Rattle.bits_core.specs.Value.{limit}
use Rattle.pcode_model.specs.declared.listing.SpaceKind.{SpaceKind}
use Rattle.pcode_model.specs.declared.listing.SpaceKind.TheVariants.{Constant, Ram, Register, Unique}
use Rattle.pcode_model.specs.declared.listing.Space.{Space}
use Rattle.pcode_model.specs.declared.listing.Varnode.{Varnode}
use Rattle.pcode_model.specs.declared.listing.Op.{Op}
use Rattle.pcode_model.specs.declared.listing.Instruction.{Instruction}
use Rattle.pcode_model.specs.declared.listing.Storage.TheVariants.{At}
use Rattle.pcode_model.specs.declared.listing.Function.{Function}
use Rattle.pcode_model.specs.declared.listing.Fixed.{Fixed}
use Rattle.pcode_model.specs.declared.listing.Listing.{Listing}
use Rattle.pcode_model.specs.declared.opcode.Opcode.{Opcode}
use Rattle.pcode_model.specs.declared.opcode.Opcode.TheVariants as O
use Rattle.pcode_model.specs.declared.storage.ParamStorage.TheVariants as P
use Rattle.pcode_model.specs.World.{Answer, Entry}
use Rattle.cmeaning.specs.declared.tree.CalleeDecl.{CalleeDecl}
use Rattle.cmeaning.specs.declared.tree.CName.TheVariants.{Bare}
use Rattle.cmeaning.specs.declared.tree.Expr.{Expr}
use Rattle.cmeaning.specs.declared.tree.Expr.TheVariants as E
use Rattle.cmeaning.specs.declared.tree.Stmt.{Stmt}
use Rattle.cmeaning.specs.declared.tree.CFunction.{CFunction}

-- ---- listings: space 1 is ram with offsets of 8 bytes, space 2 the registers and space 3 the unique space, with offsets
-- of 4 bytes; all of them have the little end first

abbrev pub name_by : SpaceKind → List ℕ
name_by Constant = codes "const"
name_by Ram = codes "ram"
name_by Register = codes "register"
name_by Unique = codes "unique"

abbrev pub space : SpaceKind → ℕ → Space
space kind size = record { name = name_by kind; kind = kind; size = size; big = false; word = 1 }

abbrev pub varnode : ℕ → ℕ → ℕ → Varnode
varnode space offset size = record { space = space; offset = offset; size = size }

-- the argument, a register of 4 bytes, and the result, another
abbrev pub argument : Varnode
argument = varnode 2 0x38 4

abbrev pub result : Varnode
result = varnode 2 0x0 4

abbrev pub constant : ℕ → ℕ → Varnode
constant n size = varnode 0 n size

abbrev pub sets : Opcode → Varnode → List Varnode → Op
sets code out inputs = record { code = code; out = Some out; inputs = inputs }

abbrev pub does : Opcode → List Varnode → Op
does code inputs = record { code = code; out = None; inputs = inputs }

abbrev pub returns : Op
returns = does O.Return (varnode 2 0x288 8 ∷ [])

-- an instruction of 4 bytes
abbrev pub instruction : ℕ → List Op → Instruction
instruction address ops = record { address = address; length = 4; ops = ops }

abbrev pub function : ℕ → Bool → Function
function address returns = record { name = codes "f"; address = address; proto = 0; returns = returns }

-- the function at 0x1000 takes the argument, gives the result, and keeps nothing
abbrev pub listing : List Function → List Fixed → List Instruction → Listing
listing callees fixed code = record {
  version = 2;
  spaces = space Constant 8 ∷ space Ram 8 ∷ space Register 4 ∷ space Unique 4 ∷ [];
  stack = None;
  protos = record { name = codes "c"; args = At argument ∷ []; gives = Some result; pop = 0; keep = [] } ∷ [];
  func = function 0x1000 true;
  callees = callees;
  fixed = fixed;
  code = code;
}

-- one instruction with these ops, and one that returns
abbrev pub runs : List Op → Listing
runs ops = listing [] [] (instruction 0x1000 ops ∷ instruction 0x1004 (returns ∷ []) ∷ [])

-- ---- entries

-- the argument's low byte, 0 elsewhere, and the answers
abbrev pub entry : ℕ → List Answer → Entry
entry n answers = record { bytes = λ s o. if s == 2 && o == 0x38 then n else 0; hidden = λ o. None; answers = answers }

-- a result word, and nothing else
abbrev pub answer : ℕ → Answer
answer word = record { word = word; registers = λ o. 0; memory = []; hidden = [] }

-- ---- what a run has shown

abbrev pub ended : List Event → End → Trace
ended events e = record { events = events; over = Some e }

abbrev pub gave : ℕ → Trace
gave word = ended [] (Returned (Some word))

-- ---- C functions

abbrev pub four : Width
four = record { bytes = 4; from = lit< tt; to = lit≤ tt }

abbrev pub word : (n : ℕ) → n < limit 4 → Word
word n below = record { value = n; width = four; below = below }

pub zero_fits : 0 < limit 4
unfolding limit
zero_fits = lit< tt

pub one_fits : 1 < limit 4
unfolding limit
one_fits = lit< tt

pub hundred_fits : 100 < limit 4
unfolding limit
hundred_fits = lit< tt

pub bits_fit : 32 < limit 4
unfolding limit
bits_fit = lit< tt

pub place_fits : 64 < limit 4
unfolding limit
place_fits = lit< tt

pub register_fits : 0x38 < limit 4
unfolding limit
register_fits = lit< tt

abbrev pub zero : Expr
zero = E.Const (word 0 zero_fits)

abbrev pub one : Expr
one = E.Const (word 1 one_fits)

abbrev pub hundred : Expr
hundred = E.Const (word 100 hundred_fits)

abbrev pub bits : Expr
bits = E.Const (word 32 bits_fit)

-- an address
abbrev pub place : Expr
place = E.Const (word 64 place_fits)

-- the offset of the argument's register
abbrev pub register_place : Expr
register_place = E.Const (word 0x38 register_fits)

-- variable 0 is the parameter in the argument's register, and variable 1 a local
abbrev pub param : Expr
param = E.Var 0

abbrev pub local : Expr
local = E.Var 1

abbrev pub callee : ℕ → Option Width → Bool → CalleeDecl
callee address gives returns = record {
  name = Bare;
  address = address;
  gives = gives;
  args = four ∷ [];
  returns = returns;
}

abbrev pub c_function : List CalleeDecl → List Stmt → CFunction
c_function callees body = record {
  callees = callees;
  name = codes "f";
  gives = Some four;
  params = record { storage = P.Register 0x38; model = true; width = four; signed = false } ∷ [];
  locals = record { width = four; signed = false } ∷ [];
  body = body;
}
