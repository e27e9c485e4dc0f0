-- Small calls, and what stands for them.
use Rattle.std.specs.Prelude.{◌≡◌, ℕ, true, false, List, [], ◌∷◌, codes, Some, None}
use Rattle.pcode_model.specs.declared.listing.SpaceKind.TheVariants.{Constant, Ram, Register, Unique}
use Rattle.pcode_model.specs.declared.listing.Storage.{Storage}
use Rattle.pcode_model.specs.declared.listing.Storage.TheVariants.{At}
use Rattle.pcode_model.specs.declared.listing.Varnode.{Varnode}
use Rattle.pcode_model.specs.declared.listing.Listing.{Listing}
use Rattle.pcode_model.specs.declared.opcode.Opcode.TheVariants as O
use Rattle.cmeaning.specs.declared.tree.Expr.{Expr}
use Rattle.cmeaning.specs.declared.tree.Expr.TheVariants as E
use Rattle.cmeaning.specs.declared.tree.Stmt.{Stmt}
use Rattle.cmeaning.specs.declared.tree.Stmt.TheVariants as S
use Rattle.op_values.specs.Nodes.{constant, width_by}
use Rattle.op_code.specs.Made.{Made, local_of, none_own, op_made}
use Rattle.op_code.specs.Worked.{varnode}

-- Four registers of four bytes, of which the second is two variables, and the fourth one is kept by both prototypes.
abbrev pub first : Varnode
first = varnode 2 0 4

abbrev pub halves : Varnode
halves = varnode 2 4 4

abbrev pub third : Varnode
third = varnode 2 8 4

abbrev pub kept : Varnode
kept = varnode 2 12 4

abbrev pub memory : Varnode
memory = varnode 1 0x6000 4

-- variables 0 to 5, of which the last one is no register's; the first local is 6
abbrev pub ranges : List Varnode
ranges = first ∷ varnode 2 4 2 ∷ varnode 2 6 2 ∷ third ∷ kept ∷ varnode 3 0 4 ∷ []

abbrev pub passed : List Storage
passed = At kept ∷ At halves ∷ []

-- At 0x2000 and 0x3000 are callees that return, with results of one variable and of two, and at 0x4000 is one that never
-- does. The function itself takes and gives nothing, and keeps nothing.
abbrev pub listing : Listing
listing = record {
  version = 2;
  spaces = record { name = codes "const"; kind = Constant; size = 8; big = false; word = 1 }
      ∷ record { name = codes "ram"; kind = Ram; size = 4; big = false; word = 1 }
      ∷ record { name = codes "register"; kind = Register; size = 4; big = false; word = 1 }
      ∷ record { name = codes "unique"; kind = Unique; size = 4; big = false; word = 1 } ∷ [];
  stack = None;
  protos = record { name = codes "v"; args = []; gives = None; pop = 0; keep = [] }
      ∷ record { name = codes "c"; args = passed; gives = Some first; pop = 0; keep = kept ∷ [] }
      ∷ record { name = codes "w"; args = []; gives = Some halves; pop = 0; keep = kept ∷ [] } ∷ [];
  func = record { name = codes "f"; address = 0x1000; proto = 0; returns = true };
  callees = record { name = codes "g"; address = 0x2000; proto = 1; returns = true }
      ∷ record { name = codes "h"; address = 0x3000; proto = 2; returns = true }
      ∷ record { name = codes "stop"; address = 0x4000; proto = 1; returns = false } ∷ [];
  fixed = [];
  code = [];
}

abbrev pub call_of : ℕ → Made
call_of address = op_made listing none_own ranges 6 O.Call None (varnode 1 address 4 ∷ [])

-- the words that are passed
abbrev pub words : List Expr
words = E.Var 4 ∷ E.Concat (E.Var 2) (E.Var 1) ∷ []

-- where everything is left
abbrev pub all_left : List Stmt
all_left = S.Extra 0 0 ∷ S.Extra 1 4 ∷ S.Extra 2 6 ∷ S.Extra 3 8 ∷ S.Extra 4 12 ∷ []

abbrev pub there : Expr
there = constant 4 0x6000

-- What stands for a call, for a callee through a register and through memory, and for a CALLOTHER.
-- one: a result of one variable is assigned by the call; what is left is taken but for the result and what is kept.
-- two: one of two variables is a local, whose parts come behind all that is left.
-- none: without a result, by the function's own prototype, as nothing is declared there.
-- never: without a target and with nothing behind.
-- by_register, by_memory: the address is read before the arguments.
-- stores: the local of a CALLOTHER with an output in memory is stored behind it, and nothing of the answer is taken.
-- sets: an output of two variables.
-- gives_none: without an output.
pub record WorkedCalls : Type 0 where
  pub one : call_of 0x2000 ≡ record {
    statements = S.Call (Some 0) 0x2000 words ∷ S.Extra 1 4 ∷ S.Extra 2 6 ∷ S.Extra 3 8 ∷ [];
    locals = [];
  }
  pub two : call_of 0x3000 ≡ record {
    statements = S.Call (Some 6) 0x3000 [] ∷ S.Extra 0 0 ∷ S.Extra 3 8
        ∷ S.Assign 1 (E.Part 0 (width_by 2) (E.Var 6)) ∷ S.Assign 2 (E.Part 2 (width_by 2) (E.Var 6)) ∷ [];
    locals = local_of 4 ∷ [];
  }
  pub none : call_of 0x5000 ≡ record { statements = S.Call None 0x5000 [] ∷ all_left; locals = [] }
  pub never : call_of 0x4000 ≡ record { statements = S.Call None 0x4000 words ∷ []; locals = [] }
  pub by_register : op_made listing none_own ranges 6 O.CallInd None (third ∷ []) ≡ record {
    statements = S.CallInd None (E.Var 3) [] ∷ all_left;
    locals = [];
  }
  pub by_memory : op_made listing none_own ranges 6 O.CallInd None (memory ∷ []) ≡ record {
    statements = S.Load 6 None there ∷ S.CallInd None (E.Var 6) [] ∷ all_left;
    locals = local_of 4 ∷ [];
  }
  pub stores : op_made listing none_own ranges 6 O.CallOther (Some memory) (varnode 0 3 4 ∷ first ∷ []) ≡ record {
    statements = S.Other (Some 6) 3 (E.Var 0 ∷ []) ∷ S.Store None there (E.Var 6) ∷ [];
    locals = local_of 4 ∷ [];
  }
  pub sets : op_made listing none_own ranges 6 O.CallOther (Some halves) (varnode 0 3 4 ∷ memory ∷ []) ≡ record {
    statements = S.Load 6 None there ∷ S.Other (Some 7) 3 (E.Var 6 ∷ [])
        ∷ S.Assign 1 (E.Part 0 (width_by 2) (E.Var 7)) ∷ S.Assign 2 (E.Part 2 (width_by 2) (E.Var 7)) ∷ [];
    locals = local_of 4 ∷ local_of 4 ∷ [];
  }
  pub gives_none : op_made listing none_own ranges 6 O.CallOther None (varnode 0 3 4 ∷ []) ≡ record {
    statements = S.Other None 3 [] ∷ [];
    locals = [];
  }
