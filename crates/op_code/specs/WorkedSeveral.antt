-- Ops on ranges of several variables, and what stands for them.
use Rattle.std.specs.Prelude.{◌≡◌, ℕ, Bool, true, false, List, [], ◌∷◌, codes, Some, None}
use Rattle.bits_core.specs.declared.ops.Binary.TheVariants as B
use Rattle.bits_core.specs.declared.ops.Divide.TheVariants as D
use Rattle.bits_core.specs.declared.ops.Unary.TheVariants as U
use Rattle.pcode_model.specs.declared.listing.SpaceKind.TheVariants.{Constant, Ram, Register, Unique}
use Rattle.pcode_model.specs.declared.listing.Varnode.{Varnode}
use Rattle.pcode_model.specs.declared.listing.Listing.{Listing}
use Rattle.pcode_model.specs.declared.opcode.Opcode.TheVariants as O
use Rattle.cmeaning.specs.declared.tree.ArithmeticOp.TheVariants.{Add}
use Rattle.cmeaning.specs.declared.tree.StatementDivision.TheVariants as statement
use Rattle.cmeaning.specs.declared.tree.Expr.{Expr}
use Rattle.cmeaning.specs.declared.tree.Expr.TheVariants as E
use Rattle.cmeaning.specs.declared.tree.Stmt.{Stmt}
use Rattle.cmeaning.specs.declared.tree.Stmt.TheVariants as S
use Rattle.op_values.specs.Nodes.{constant, width_by}
use Rattle.op_code.specs.Made.{local_of, none_own, op_made}
use Rattle.op_code.specs.Lowered.{result_in}
use Rattle.op_code.specs.Worked.{varnode}

-- Space 1 is memory, with offsets of 4 bytes, and space 2 has the registers, with either end first.
abbrev pub registers : Bool → Listing
registers big = record {
  version = 2;
  spaces = record { name = codes "const"; kind = Constant; size = 8; big = false; word = 1 }
      ∷ record { name = codes "ram"; kind = Ram; size = 4; big = big; word = 1 }
      ∷ record { name = codes "register"; kind = Register; size = 4; big = big; word = 1 }
      ∷ record { name = codes "unique"; kind = Unique; size = 4; big = false; word = 1 } ∷ [];
  stack = None;
  protos = [];
  func = record { name = codes "f"; address = 0x1000; proto = 0; returns = true };
  callees = [];
  fixed = [];
  code = [];
}

-- Four registers in variables 2, 1 and 4 of two bytes, one and one, and the four behind them in variables 3 and 0 of
-- one byte and three. The first local is 5.
abbrev pub ranges : List Varnode
ranges = varnode 2 5 3 ∷ varnode 2 2 1 ∷ varnode 2 0 2 ∷ varnode 2 4 1 ∷ varnode 2 3 1 ∷ []

abbrev pub three : Varnode
three = varnode 2 0 4

abbrev pub two : Varnode
two = varnode 2 4 4

abbrev pub memory : Varnode
memory = varnode 1 0x2000 4

-- the words of the three
abbrev pub three_big : Expr
three_big = E.Concat (E.Var 2) (E.Concat (E.Var 1) (E.Var 4))

abbrev pub three_little : Expr
three_little = E.Concat (E.Var 4) (E.Concat (E.Var 1) (E.Var 2))

abbrev pub part : ℕ → ℕ → ℕ → Stmt
part n k w = S.Assign n (E.Part k (width_by w) (E.Var 5))

-- What stands for an op.
-- adds: the sum is a local, whose parts the two are assigned.
-- one: what is written is one variable, so it is assigned the sum, and those of the other bytes stay.
-- divides: the statement that may end the run stands first.
-- loads: the local that is loaded is the one that is taken apart.
-- stores: what several hold is stored as one word.
-- gives: the function's result is their word.
pub record WorkedSeveral : Type 0 where
  pub adds_big : op_made (registers true) none_own ranges 5 (O.Binary B.Add) (Some two) (three ∷ varnode 0 1 4 ∷ []) ≡ record {
    statements = S.Assign 5 (E.Arithmetic Add three_big (constant 4 1)) ∷ part 3 3 1 ∷ part 0 0 3 ∷ [];
    locals = local_of 4 ∷ [];
  }
  pub adds_little : op_made (registers false) none_own ranges 5 (O.Binary B.Add) (Some two) (three ∷ varnode 0 1 4 ∷ [])
      ≡ record {
        statements = S.Assign 5 (E.Arithmetic Add three_little (constant 4 1)) ∷ part 3 0 1 ∷ part 0 1 3 ∷ [];
        locals = local_of 4 ∷ [];
      }
  pub one : op_made (registers false) none_own ranges 5 (O.Binary B.Add) (Some (varnode 2 0 2))
      (varnode 2 2 2 ∷ varnode 0 1 2 ∷ []) ≡ record {
        statements = S.Assign 2 (E.Arithmetic Add (E.Concat (E.Var 4) (E.Var 1)) (constant 2 1)) ∷ [];
        locals = [];
      }
  pub divides : op_made (registers false) none_own ranges 5 (O.Divide D.Quotient) (Some two) (three ∷ two ∷ []) ≡ record {
    statements = S.Divide 5 statement.Div three_little (E.Concat (E.Var 0) (E.Var 3)) ∷ part 3 0 1 ∷ part 0 1 3 ∷ [];
    locals = local_of 4 ∷ [];
  }
  pub loads : op_made (registers true) none_own ranges 5 O.Load (Some two) (varnode 0 1 4 ∷ three ∷ []) ≡ record {
    statements = S.Load 5 None three_big ∷ part 3 3 1 ∷ part 0 0 3 ∷ [];
    locals = local_of 4 ∷ [];
  }
  pub stores : op_made (registers true) none_own ranges 5 (O.Unary U.Copy) (Some memory) (three ∷ []) ≡ record {
    statements = S.Assign 5 three_big ∷ S.Store None (constant 4 0x2000) (E.Var 5) ∷ [];
    locals = local_of 4 ∷ [];
  }
  pub gives : result_in (registers true) ranges (Some three) ≡ Some three_big
