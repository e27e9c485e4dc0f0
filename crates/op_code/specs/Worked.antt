-- Small ops, and what stands for them.
use Rattle.std.specs.Prelude.{◌≡◌, ℕ, true, false, List, [], ◌∷◌, codes, Some, None}
use Rattle.bits_core.specs.declared.ops.Binary.TheVariants as B
use Rattle.bits_core.specs.declared.ops.Divide.TheVariants as D
use Rattle.pcode_model.specs.declared.listing.SpaceKind.TheVariants.{Constant, Ram, Register, Unique}
use Rattle.pcode_model.specs.declared.listing.Varnode.{Varnode}
use Rattle.pcode_model.specs.declared.listing.Listing.{Listing}
use Rattle.pcode_model.specs.declared.opcode.Opcode.TheVariants as O
use Rattle.cmeaning.specs.declared.tree.ArithmeticOp.TheVariants.{Add, Mul}
use Rattle.cmeaning.specs.declared.tree.ExtendOp.TheVariants.{Zext}
use Rattle.cmeaning.specs.declared.tree.DivisionOp.TheVariants as division
use Rattle.cmeaning.specs.declared.tree.StatementDivision.TheVariants as statement
use Rattle.cmeaning.specs.declared.tree.Expr.{Expr}
use Rattle.cmeaning.specs.declared.tree.Expr.TheVariants as E
use Rattle.cmeaning.specs.declared.tree.Stmt.TheVariants as S
use Rattle.op_values.specs.Nodes.{constant, divides_by, part_node, width_by}
use Rattle.op_code.specs.Made.{local_of, none_own, nothing, op_made}

-- ---- parts of words and divisions

-- a variable
abbrev pub word : Expr
word = E.Var 7

-- SUBPIECE counts from the least significant byte: within a word, at its end, past it, and the whole of it.
pub record WorkedParts : Type 0 where
  pub whole : part_node 4 0 4 word ≡ word
  pub low : part_node 4 0 2 word ≡ E.Part 0 (width_by 2) word
  pub within : part_node 4 1 2 word ≡ E.Part 1 (width_by 2) word
  pub at_end : part_node 4 2 2 word ≡ E.Part 2 (width_by 2) word
  pub over : part_node 4 3 2 word ≡ E.Extend Zext (width_by 2) (E.Part 3 (width_by 1) word)
  pub past : part_node 4 4 1 word ≡ constant 1 0
  pub wider : part_node 4 0 8 word ≡ E.Extend Zext (width_by 8) word
  pub widest : part_node 16 15 1 word ≡ E.Part 15 (width_by 1) word
  pub one_byte : part_node 1 0 16 word ≡ E.Extend Zext (width_by 16) word

-- A division by 0 is a statement, and a signed one by all ones too.
pub record WorkedDivisors : Type 0 where
  pub by_zero : divides_by D.Quotient 1 0 ≡ false
  pub by_three : divides_by D.Quotient 1 3 ≡ true
  pub by_ones : divides_by D.Remainder 1 255 ≡ true
  pub signed_by_zero : divides_by D.SignedRemainder 1 0 ≡ false
  pub signed_by_ones : divides_by D.SignedQuotient 1 255 ≡ false
  pub signed_by_three : divides_by D.SignedQuotient 1 3 ≡ true

-- ---- ops

abbrev pub varnode : ℕ → ℕ → ℕ → Varnode
varnode space offset size = record { space = space; offset = offset; size = size }

-- Space 1 is the first ram space, with offsets of 4 bytes; space 2 is ram too, with offsets of 2 bytes and words of 2;
-- space 3 has the registers.
abbrev pub listing : Listing
listing = record {
  version = 2;
  spaces = record { name = codes "const"; kind = Constant; size = 8; big = false; word = 1 }
      ∷ record { name = codes "ram"; kind = Ram; size = 4; big = false; word = 1 }
      ∷ record { name = codes "io"; kind = Ram; size = 2; big = true; word = 2 }
      ∷ record { name = codes "register"; kind = Register; size = 4; big = false; word = 1 }
      ∷ record { name = codes "unique"; kind = Unique; size = 4; big = false; word = 1 } ∷ [];
  stack = None;
  protos = [];
  func = record { name = codes "f"; address = 0x1000; proto = 0; returns = true };
  callees = [];
  fixed = [];
  code = [];
}

-- three registers, which variables 0, 1 and 2 stand for: two of 4 bytes and one byte
abbrev pub a : Varnode
a = varnode 3 0 4

abbrev pub b : Varnode
b = varnode 3 4 4

abbrev pub c : Varnode
c = varnode 3 8 1

abbrev pub ranges : List Varnode
ranges = a ∷ b ∷ c ∷ []

-- a word of the first ram space
abbrev pub memory : Varnode
memory = varnode 1 0x2000 4

abbrev pub there : Expr
there = constant 4 0x2000

-- What stands for an op.
-- sums: a word of memory is added to itself. It is loaded twice, and the sum is a local that is stored.
-- divides: by a register it is a statement, by a constant other than 0 an expression.
-- loads: from the first ram space by a register, and from another by the product of a byte and the word size, in the
-- width of that space's offsets.
-- stores: the address is read before what is stored.
-- leaves: a return and a branch read and make nothing here.
pub record WorkedOps : Type 0 where
  pub sums : op_made listing none_own ranges 3 (O.Binary B.Add) (Some memory) (memory ∷ memory ∷ []) ≡ record {
    statements = S.Load 3 None there ∷ S.Load 4 None there ∷ S.Assign 5 (E.Arithmetic Add (E.Var 3) (E.Var 4))
        ∷ S.Store None there (E.Var 5) ∷ [];
    locals = local_of 4 ∷ local_of 4 ∷ local_of 4 ∷ [];
  }
  pub divides : op_made listing none_own ranges 3 (O.Divide D.Quotient) (Some a) (a ∷ b ∷ []) ≡ record {
    statements = S.Divide 0 statement.Div (E.Var 0) (E.Var 1) ∷ [];
    locals = [];
  }
  pub divides_known : op_made listing none_own ranges 3 (O.Divide D.Quotient) (Some a) (a ∷ varnode 0 3 4 ∷ []) ≡ record {
    statements = S.Assign 0 (E.Division division.Div (E.Var 0) (constant 4 3)) ∷ [];
    locals = [];
  }
  pub divides_none : op_made listing none_own ranges 3 (O.Divide D.Remainder) (Some a) (a ∷ varnode 0 0 4 ∷ []) ≡ record {
    statements = S.Divide 0 statement.Rem (E.Var 0) (constant 4 0) ∷ [];
    locals = [];
  }
  pub loads : op_made listing none_own ranges 3 O.Load (Some a) (varnode 0 1 4 ∷ b ∷ []) ≡ record {
    statements = S.Load 0 None (E.Var 1) ∷ [];
    locals = [];
  }
  pub loads_words : op_made listing none_own ranges 3 O.Load (Some a) (varnode 0 2 4 ∷ c ∷ []) ≡ record {
    statements = S.Load 0 (Some (codes "io"))
        (E.Arithmetic Mul (E.Extend Zext (width_by 2) (E.Var 2)) (constant 2 2)) ∷ [];
    locals = [];
  }
  pub stores : op_made listing none_own ranges 3 O.Store None (varnode 0 2 4 ∷ memory ∷ b ∷ []) ≡ record {
    statements = S.Load 3 None there
        ∷ S.Store (Some (codes "io")) (E.Arithmetic Mul (E.Var 3) (constant 4 2)) (E.Var 1) ∷ [];
    locals = local_of 4 ∷ [];
  }
  pub leaves : op_made listing none_own ranges 3 O.Return None (memory ∷ []) ≡ nothing
