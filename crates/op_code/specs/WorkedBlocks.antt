-- A small listing, and the code that it is lowered to.
use Rattle.std.specs.Prelude.{◌≡◌, ℕ, true, false, List, [], ◌∷◌, codes, Option, Some, None}
use Rattle.bits_core.specs.declared.ops.Divide.TheVariants as D
use Rattle.bits_core.specs.declared.ops.Unary.TheVariants as U
use Rattle.pcode_model.specs.declared.listing.SpaceKind.TheVariants.{Constant, Ram, Register, Unique}
use Rattle.pcode_model.specs.declared.listing.Varnode.{Varnode}
use Rattle.pcode_model.specs.declared.listing.Op.{Op}
use Rattle.pcode_model.specs.declared.listing.Listing.{Listing}
use Rattle.pcode_model.specs.declared.opcode.Opcode.{Opcode}
use Rattle.pcode_model.specs.declared.opcode.Opcode.TheVariants as O
use Rattle.pcode_model.specs.declared.storage.ParamStorage.TheVariants as P
use Rattle.pcode_model.specs.declared.atoms.Atom.{Atom}
use Rattle.pcode_model.specs.declared.flow.Block as flow_block
use Rattle.pcode_model.specs.declared.flow.Exit.TheVariants as F
use Rattle.pcode_model.specs.Memory.{no_frame}
use Rattle.pcode_model.specs.Places.{place, standing}
use Rattle.cmeaning.specs.declared.tree.StatementDivision.TheVariants as statement
use Rattle.cmeaning.specs.declared.tree.Expr.TheVariants as E
use Rattle.cmeaning.specs.declared.tree.Stmt.TheVariants as S
use Rattle.blockcode.specs.declared.code.Exit.TheVariants as X
use Rattle.op_values.specs.Nodes.{constant}
use Rattle.op_code.specs.Made.{local_of}
use Rattle.op_code.specs.Lowered.{directly, lowered, variable_for, way_out}

abbrev pub varnode : ℕ → ℕ → ℕ → Varnode
varnode space offset size = record { space = space; offset = offset; size = size }

abbrev pub does : Opcode → Option Varnode → List Varnode → Op
does code out inputs = record { code = code; out = out; inputs = inputs }

-- two registers, which variables 0 and 1 stand for
abbrev pub a : Varnode
a = varnode 2 0 4

abbrev pub b : Varnode
b = varnode 2 4 4

-- a byte of memory, and a word of it
abbrev pub flag : Varnode
flag = varnode 1 0x2000 1

abbrev pub memory : Varnode
memory = varnode 1 0x3000 4

-- At 0x1000 a division whose quotient nothing reads, a store of the dividend, and a test of a byte of memory, which
-- leads to itself; at 0x1004 the return.
abbrev pub listing : Listing
listing = record {
  version = 2;
  spaces = record { name = codes "const"; kind = Constant; size = 8; big = false; word = 1 }
      ∷ record { name = codes "ram"; kind = Ram; size = 4; big = false; word = 1 }
      ∷ record { name = codes "register"; kind = Register; size = 4; big = false; word = 1 }
      ∷ record { name = codes "unique"; kind = Unique; size = 4; big = false; word = 1 } ∷ [];
  stack = None;
  protos = record { name = codes "c"; args = []; gives = Some a; pop = 0; keep = [] } ∷ [];
  func = record { name = codes "f"; address = 0x1000; proto = 0; returns = true };
  callees = [];
  fixed = [];
  code = record {
    address = 0x1000;
    length = 4;
    ops = does (O.Divide D.Quotient) (Some b) (a ∷ b ∷ [])
        ∷ does (O.Unary U.Copy) (Some memory) (a ∷ [])
        ∷ does O.CBranch None (varnode 1 0x1000 4 ∷ flag ∷ []) ∷ [];
  } ∷ record { address = 0x1004; length = 4; ops = does O.Return None (varnode 0 0 4 ∷ []) ∷ [] } ∷ [];
}

abbrev pub blocks : List flow_block.Block
blocks = record { places = place 0x1000 0 ∷ place 0x1000 1 ∷ place 0x1000 2 ∷ []; exit = F.Test 0 1 }
    ∷ record { places = place 0x1004 0 ∷ []; exit = F.Return } ∷ []

abbrev pub first : Atom
first = record { storage = P.Register 0; size = 4 }

abbrev pub second : Atom
second = record { storage = P.Register 4; size = 4 }

abbrev pub atoms : List Atom
atoms = first ∷ second ∷ []

-- The division stands before the store, since it may end the run; the copy to memory is a local that is stored; what is
-- tested is loaded at the end of the block, and not where both ways lead to one block.
pub record WorkedBlocks : Type 0 where
  pub code : lowered listing no_frame blocks atoms ≡ record {
    variables = variable_for first ∷ variable_for second ∷ local_of 4 ∷ local_of 1 ∷ [];
    blocks = record {
      body = S.Divide 1 statement.Div (E.Var 0) (E.Var 1)
          ∷ S.Assign 2 (E.Var 0)
          ∷ S.Store None (constant 4 0x3000) (E.Var 2)
          ∷ S.Load 3 None (constant 4 0x2000) ∷ [];
      exit = X.Test (E.Var 3) 0 1;
    } ∷ record { body = []; exit = X.Return (Some (E.Var 0)) } ∷ [];
    entry = 0;
  }
  pub one_block : way_out listing (a ∷ b ∷ []) 3 (standing listing (place 0x1000 2)) (F.Test 1 1) ≡ directly (X.Jump 1)
