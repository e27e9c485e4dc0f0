-- Small accesses of the frame, and what stands for them.
use Rattle.std.specs.Prelude.{◌≡◌, ℕ, ◌==◌, true, false, if◌then◌else◌, List, [], ◌∷◌, codes, Option, Some, None, pos, negsuc}
use Rattle.pcode_model.specs.declared.listing.SpaceKind.TheVariants.{Constant, Ram, Register, Unique}
use Rattle.pcode_model.specs.declared.listing.Storage.TheVariants.{Stack}
use Rattle.pcode_model.specs.declared.listing.Varnode.{Varnode}
use Rattle.pcode_model.specs.declared.listing.Listing.{Listing}
use Rattle.pcode_model.specs.declared.opcode.Opcode.TheVariants as O
use Rattle.pcode_model.specs.declared.storage.ParamStorage.TheVariants as P
use Rattle.cmeaning.specs.declared.tree.ArithmeticOp.TheVariants.{Add}
use Rattle.cmeaning.specs.declared.tree.Expr.{Expr}
use Rattle.cmeaning.specs.declared.tree.Expr.TheVariants as E
use Rattle.cmeaning.specs.declared.tree.Stmt.{Stmt}
use Rattle.cmeaning.specs.declared.tree.Stmt.TheVariants as S
use Rattle.op_values.specs.Nodes.{constant, width_by}
use Rattle.op_code.specs.Made.{Made, Own, local_of, none_own, op_made}
use Rattle.op_code.specs.Lowered.{range_at}
use Rattle.op_code.specs.Worked.{varnode}

-- a register, and the stack pointer
abbrev pub a : Varnode
a = varnode 2 0 4

abbrev pub pointer : Varnode
pointer = varnode 2 16 4

-- Four bytes of the frame at -8, and two and two across the entry word, at -2 and 0. They are counted from 2^31 below it.
abbrev pub ranges : List Varnode
ranges = a ∷ pointer ∷ varnode 1 0x7ffffff8 4 ∷ varnode 1 0x7ffffffe 2 ∷ varnode 1 0x80000000 2 ∷ []

-- A callee at 0x2000 has two arguments on the stack, and pops the first one; the one at 0x3000 has none, and pops
-- nothing.
abbrev pub listing : Listing
listing = record {
  version = 2;
  spaces = record { name = codes "const"; kind = Constant; size = 8; big = false; word = 1 }
      ∷ record { name = codes "ram"; kind = Ram; size = 4; big = false; word = 1 }
      ∷ record { name = codes "register"; kind = Register; size = 4; big = false; word = 1 }
      ∷ record { name = codes "unique"; kind = Unique; size = 4; big = false; word = 1 } ∷ [];
  stack = Some pointer;
  protos = record { name = codes "v"; args = []; gives = None; pop = 0; keep = [] }
      ∷ record { name = codes "c"; args = Stack 0 4 ∷ Stack 4 4 ∷ []; gives = None; pop = 4; keep = [] } ∷ [];
  func = record { name = codes "f"; address = 0x1000; proto = 0; returns = true };
  callees = record { name = codes "g"; address = 0x2000; proto = 1; returns = true }
      ∷ record { name = codes "h"; address = 0x3000; proto = 0; returns = true } ∷ [];
  fixed = [];
  code = [];
}

-- the access of a number is one of the frame at an offset, and no other one is
abbrev pub only : (number offset : ℕ) → Own
only number offset n = if n == number then Some offset else None

abbrev pub at_8 : ℕ
at_8 = 0xfffffff8

abbrev pub at_2 : ℕ
at_2 = 0xfffffffe

-- a LOAD to the register, a STORE of it, and a call; the first local is 5
abbrev pub loaded : Own → Made
loaded own = op_made listing own ranges 5 O.Load (Some a) (varnode 0 1 4 ∷ pointer ∷ [])

abbrev pub stored : Own → Made
stored own = op_made listing own ranges 5 O.Store None (varnode 0 1 4 ∷ pointer ∷ a ∷ [])

abbrev pub call_of : Own → ℕ → Made
call_of own address = op_made listing own ranges 5 O.Call None (varnode 1 address 4 ∷ [])

-- so many bytes above the stack pointer
abbrev pub above : ℕ → Expr
above n = E.Arithmetic Add (E.Var 1) (constant 4 n)

-- what follows the call: the register takes what is left in it, and then the stack pointer is popped
abbrev pub behind : List Stmt
behind = S.Extra 0 0 ∷ S.Assign 1 (above 4) ∷ []

-- What stands for an access.
-- below, upon: where variables of the frame lie that are parameters or not.
-- loads: a LOAD by a pointer is one of memory, and one of a frame variable assigns its word, that of two variables too.
-- stores: likewise; two variables are assigned their parts of a local.
-- passes: arguments on the stack are loaded from memory, at the stack pointer and 4 above it.
-- passes_own: the first one is a frame variable, and the second one memory.
-- keeps: a call that pops nothing does nothing to the stack pointer.
pub record WorkedFrame : Type 0 where
  pub below : range_at listing (P.Stack (negsuc 7)) 4 ≡ varnode 1 0x7ffffff8 4
  pub upon : range_at listing (P.Stack (pos 4)) 4 ≡ varnode 1 0x80000004 4
  pub loads : loaded none_own ≡ record { statements = S.Load 0 None (E.Var 1) ∷ []; locals = [] }
  pub loads_one : loaded (only 0 at_8) ≡ record { statements = S.Assign 0 (E.Var 2) ∷ []; locals = [] }
  pub loads_two : loaded (only 0 at_2) ≡ record {
    statements = S.Assign 0 (E.Concat (E.Var 4) (E.Var 3)) ∷ [];
    locals = [];
  }
  pub stores : stored none_own ≡ record { statements = S.Store None (E.Var 1) (E.Var 0) ∷ []; locals = [] }
  pub stores_one : stored (only 0 at_8) ≡ record { statements = S.Assign 2 (E.Var 0) ∷ []; locals = [] }
  pub stores_two : stored (only 0 at_2) ≡ record {
    statements = S.Assign 5 (E.Var 0) ∷ S.Assign 3 (E.Part 0 (width_by 2) (E.Var 5))
        ∷ S.Assign 4 (E.Part 2 (width_by 2) (E.Var 5)) ∷ [];
    locals = local_of 4 ∷ [];
  }
  pub passes : call_of none_own 0x2000 ≡ record {
    statements = S.Load 5 None (E.Var 1) ∷ S.Load 6 None (above 4)
        ∷ S.Call None 0x2000 (E.Var 5 ∷ E.Var 6 ∷ []) ∷ behind;
    locals = local_of 4 ∷ local_of 4 ∷ [];
  }
  pub passes_own : call_of (only 0 at_8) 0x2000 ≡ record {
    statements = S.Load 5 None (above 4) ∷ S.Call None 0x2000 (E.Var 2 ∷ E.Var 5 ∷ []) ∷ behind;
    locals = local_of 4 ∷ [];
  }
  pub keeps : call_of none_own 0x3000 ≡ record {
    statements = S.Call None 0x3000 [] ∷ S.Extra 0 0 ∷ [];
    locals = [];
  }
