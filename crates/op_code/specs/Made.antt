-- What stands for an op: its statements, and the locals that they need, numbered behind the variables that there are.
-- Both come by one definition, so that there are as many locals as the statements name. An access of a frame variable
-- is one of a range of variables, as that of a register is; `own` says at which offsets from the stack pointer's
-- entry word the op accesses frame variables, by the numbers of accesses. This project's own.
use Rattle.std.specs.Prelude.{ℕ, zero, suc, ◌+◌, ◌==◌, Bool, true, false, if◌then◌else◌, List, [], ◌∷◌, ◌++◌, drop, length, slice_get, Option, Some, None}
use Rattle.std.specs.List.{slice_index_or}
use Rattle.bits_core.specs.declared.ops.Divide.{Divide}
use Rattle.bits_core.specs.declared.ops.Binary.TheVariants as B
use Rattle.pcode_model.specs.declared.listing.Space.{Space}
use Rattle.pcode_model.specs.declared.listing.SpaceKind.{SpaceKind}
use Rattle.pcode_model.specs.declared.listing.SpaceKind.TheVariants.{Constant, Ram, Register, Unique}
use Rattle.pcode_model.specs.declared.listing.Varnode.{Varnode}
use Rattle.pcode_model.specs.declared.listing.Listing.{Listing}
use Rattle.pcode_model.specs.declared.listing.Proto.{Proto}
use Rattle.pcode_model.specs.declared.opcode.Opcode.{Opcode}
use Rattle.pcode_model.specs.declared.opcode.Opcode.TheVariants as O
use Rattle.pcode_model.specs.Spaces.{first_ram, is_big, kind_of, offset_bytes_in, word_size}
use Rattle.pcode_model.specs.Rules.{past_first}
use Rattle.pcode_model.specs.Step.{Operand, Reads, ReadsStack, all_read, arguments, callee_at, proto_of, returns, size_out, varnode_at}
use Rattle.range_words.specs.Own.{frame_range}
use Rattle.cmeaning.specs.declared.tree.Expr.{Expr}
use Rattle.cmeaning.specs.declared.tree.Expr.TheVariants as E
use Rattle.cmeaning.specs.declared.tree.Stmt.{Stmt}
use Rattle.cmeaning.specs.declared.tree.Stmt.TheVariants as S
use Rattle.blockcode.specs.declared.code.Variable.{Variable}
use Rattle.op_code.specs.Cover.{Piece, cover}
use Rattle.op_code.specs.Left.{extras}
use Rattle.op_code.specs.Words.{read_range, target, write_range}
use Rattle.op_values.specs.Nodes.{address_node, binary_node, constant, divides_by, division_node, nearest, statement_of, unary_node, width_by}

-- ---- ranges and their variables

-- the word of a range of the register space or the unique space
abbrev pub range_word : Listing → List Varnode → Varnode → Expr
range_word l ranges v = read_range (is_big l v.space) ranges v

-- the word of so many bytes of the frame
abbrev pub frame_word : Listing → List Varnode → (c k : ℕ) → Expr
frame_word l ranges c k = range_word l ranges (frame_range l c k)

-- a variable of so many bytes that is no parameter
abbrev pub local_of : ℕ → Variable
local_of w = record { width = width_by w; storage = None }

-- ---- memory

abbrev pub name_in : Option Space → List ℕ
name_in None = []
name_in (Some s) = s.name

-- a ram space by its name, and the first one without
abbrev pub name_of : Listing → ℕ → Option (List ℕ)
name_of l s = if s == first_ram l then None else Some (name_in (slice_get l.spaces s))

-- the bytes of an offset in a space
abbrev pub offset_bytes : Listing → ℕ → ℕ
offset_bytes l s = offset_bytes_in (slice_get l.spaces s)

-- the byte address of an offset of w bytes in a space
abbrev pub address : Listing → ℕ → ℕ → Expr → Expr
address l s w e = address_node (offset_bytes l s) (word_size l s) w e

-- where a direct range of memory lies
abbrev pub address_of : Listing → Varnode → Expr
address_of l v = constant (offset_bytes l v.space) v.offset

-- The word so many bytes above that of a range. Nothing is added for 0.
abbrev pub above : Listing → List Varnode → Varnode → ℕ → Expr
above l ranges v zero = range_word l ranges v
above l ranges v (suc n) = binary_node B.Add v.size 0 v.size (range_word l ranges v) (constant v.size (suc n))

-- where memory lies so many bytes above the stack pointer; without one nothing does
abbrev pub above_stack : Listing → List Varnode → Option Varnode → ℕ → Expr
above_stack l ranges None n = constant 1 0
above_stack l ranges (Some sp) n = address l (first_ram l) sp.size (above l ranges sp n)

-- ---- accesses of the frame

-- the offset of an op's access of a number, where it is one of a frame variable
abbrev pub Own : Type 0
Own = ℕ → Option ℕ

-- ---- what is read

-- What stands for an operand.
-- loads: what is done before.
-- word: its word then.
-- locals: those that are needed.
pub record ReadOne : Type 0 where
  pub loads : List Stmt
  pub word : Expr
  pub locals : List Variable

-- A constant, the word of a range, or a local that a direct range of memory is loaded to.
abbrev pub read_by : SpaceKind → Listing → List Varnode → ℕ → Varnode → ReadOne
read_by Constant l ranges next v = record { loads = []; word = constant v.size v.offset; locals = [] }
read_by Ram l ranges next v = record {
  loads = S.Load next (name_of l v.space) (address_of l v) ∷ [];
  word = E.Var next;
  locals = local_of v.size ∷ [];
}
read_by Register l ranges next v = record { loads = []; word = range_word l ranges v; locals = [] }
read_by Unique l ranges next v = record { loads = []; word = range_word l ranges v; locals = [] }

abbrev pub read_one : Listing → List Varnode → ℕ → Varnode → ReadOne
read_one l ranges next v = read_by (kind_of l v.space) l ranges next v

-- An argument on the stack: the word of its bytes of the frame, or a local that memory above the stack pointer is
-- loaded to.
abbrev pub read_stack : Option ℕ → Listing → List Varnode → (next offset size : ℕ) → ReadOne
read_stack None l ranges next offset size = record {
  loads = S.Load next (name_of l (first_ram l)) (above_stack l ranges l.stack offset) ∷ [];
  word = E.Var next;
  locals = local_of size ∷ [];
}
read_stack (Some c) l ranges next offset size = record { loads = []; word = frame_word l ranges c size; locals = [] }

abbrev pub read_operand : Listing → Own → List Varnode → ℕ → Operand → ReadOne
read_operand l own ranges next (Reads v) = read_one l ranges next v
read_operand l own ranges next (ReadsStack n offset size) = read_stack (own n) l ranges next offset size

pub record Read : Type 0 where
  pub loads : List Stmt
  pub words : List Expr
  pub locals : List Variable

-- an operand, and then others
abbrev pub with_more : ReadOne → Read → Read
with_more one rest = record {
  loads = one.loads ++ rest.loads;
  words = one.word ∷ rest.words;
  locals = one.locals ++ rest.locals;
}

-- operands, in their order
abbrev pub reads : Listing → Own → List Varnode → ℕ → List Operand → Read
reads l own ranges next [] = record { loads = []; words = []; locals = [] }
reads l own ranges next (x ∷ xs) = with_more (read_operand l own ranges next x)
    (reads l own ranges (next + length (read_operand l own ranges next x).locals) xs)

abbrev pub word_at : Read → ℕ → Expr
word_at r n = slice_index_or r.words n (constant 1 0)

-- ---- what is made

pub record Made : Type 0 where
  pub statements : List Stmt
  pub locals : List Variable

abbrev pub nothing : Made
nothing = record { statements = []; locals = [] }

-- the variable that an output's word is assigned to: the range's own, or the next local
abbrev pub target_by : SpaceKind → List Varnode → ℕ → Varnode → ℕ
target_by Ram ranges next z = next
target_by k ranges next z = target ranges next z

-- what follows: a local of memory is stored, and variables are assigned the parts of a local of theirs
abbrev pub settle_by : SpaceKind → Listing → List Varnode → ℕ → Varnode → List Stmt
settle_by Ram l ranges next z = S.Store (name_of l z.space) (address_of l z) (E.Var next) ∷ []
settle_by k l ranges next z = write_range (is_big l z.space) ranges z next

-- one variable is assigned without a local
abbrev pub local_for : List Piece → Varnode → List Variable
local_for (p ∷ []) z = []
local_for ps z = local_of z.size ∷ []

abbrev pub locals_by : SpaceKind → List Varnode → Varnode → List Variable
locals_by Ram ranges z = local_of z.size ∷ []
locals_by k ranges z = local_for (cover ranges z) z

-- an output, by the statement that sets a variable
abbrev pub set_by : SpaceKind → Listing → List Varnode → ℕ → Varnode → (ℕ → Stmt) → Made
set_by k l ranges next z make = record {
  statements = make (target_by k ranges next z) ∷ settle_by k l ranges next z;
  locals = locals_by k ranges z;
}

abbrev pub sets : Listing → List Varnode → ℕ → Option Varnode → (ℕ → Stmt) → Made
sets l ranges next None make = nothing
sets l ranges next (Some z) make = set_by (kind_of l z.space) l ranges next z make

-- a range of variables, whichever space it has
abbrev pub sets_range : Listing → List Varnode → ℕ → Varnode → (ℕ → Stmt) → Made
sets_range l ranges next z make = set_by Register l ranges next z make

-- with what is read before
abbrev pub behind : Read → Made → Made
behind r m = record { statements = r.loads ++ m.statements; locals = r.locals ++ m.locals }

-- an output that is set by what is read
abbrev pub computes : Listing → List Varnode → ℕ → Option Varnode → Read → (ℕ → Stmt) → Made
computes l ranges next out r make = behind r (sets l ranges (next + length r.locals) out make)

-- ---- ops

abbrev pub divides_at : SpaceKind → Divide → Varnode → Bool
divides_at Constant op v = divides_by op (nearest v.size) v.offset
divides_at k op v = false

-- a division: an expression by a constant that lets it have a value, and else a statement
abbrev pub divides : Listing → Divide → Varnode → (d e : Expr) → ℕ → Stmt
divides l op v d e target = if divides_at (kind_of l v.space) op v then S.Assign target (division_node op d e)
    else S.Divide target (statement_of op) d e

-- a store to a space, of what is read
abbrev pub stores : Listing → ℕ → ℕ → Read → Made
stores l s w r = behind r (record {
  statements = S.Store (name_of l s) (address l s w (word_at r 0)) (word_at r 1) ∷ [];
  locals = [];
})

-- nothing is an access of the frame
abbrev pub none_own : Own
none_own n = None

-- the input of a number, and that one and the next
abbrev pub one_read : Listing → List Varnode → ℕ → List Varnode → ℕ → Read
one_read l ranges next vs n = reads l none_own ranges next (Reads (varnode_at vs n) ∷ [])

abbrev pub both_read : Listing → List Varnode → ℕ → List Varnode → ℕ → Read
both_read l ranges next vs n =
    reads l none_own ranges next (Reads (varnode_at vs n) ∷ Reads (varnode_at vs (suc n)) ∷ [])

-- ---- LOAD and STORE

-- A LOAD of a frame variable's bytes assigns their word. Its address isn't read.
abbrev pub loads_by : Option ℕ → Listing → List Varnode → ℕ → Option Varnode → List Varnode → Made
loads_by None l ranges next out vs =
    computes l ranges next out (one_read l ranges next vs 1)
    (λ v. S.Load v (name_of l (varnode_at vs 0).offset)
    (address l (varnode_at vs 0).offset (varnode_at vs 1).size (word_at (one_read l ranges next vs 1) 0)))
loads_by (Some c) l ranges next out vs =
    sets l ranges next out (λ v. S.Assign v (frame_word l ranges c (size_out out)))

-- what a STORE of a frame variable's bytes makes of the word that is read
abbrev pub keeps : Listing → List Varnode → ℕ → (c k : ℕ) → Read → Made
keeps l ranges next c k r = behind r
    (sets_range l ranges (next + length r.locals) (frame_range l c k) (λ v. S.Assign v (word_at r 0)))

abbrev pub stores_by : Option ℕ → Listing → List Varnode → ℕ → List Varnode → Made
stores_by None l ranges next vs =
    stores l (varnode_at vs 0).offset (varnode_at vs 1).size (both_read l ranges next vs 1)
stores_by (Some c) l ranges next vs = keeps l ranges next c (varnode_at vs 2).size (one_read l ranges next vs 2)

-- ---- calls

-- a statement that takes an answer, and may have a target
abbrev pub Asking : Type 0
Asking = Option ℕ → Stmt

-- one after the other
abbrev pub followed : Made → Made → Made
followed m n = record { statements = m.statements ++ n.statements; locals = m.locals ++ n.locals }

-- What follows a call whose prototype gives this result: what it left in registers is taken, and then the result's
-- variables are assigned their parts.
abbrev pub gives_back : Listing → List Varnode → ℕ → Proto → Option Varnode → Asking → Made
gives_back l ranges next p None make = record { statements = make None ∷ extras l p ranges; locals = [] }
gives_back l ranges next p (Some z) make = record {
  statements = make (Some (target ranges next z))
      ∷ (extras l p ranges ++ write_range (is_big l z.space) ranges z next);
  locals = local_for (cover ranges z) z;
}

-- The stack pointer stands so many bytes higher. Nothing is done for 0.
abbrev pub pops_by : Option Varnode → ℕ → Listing → List Varnode → ℕ → Made
pops_by None pop l ranges next = nothing
pops_by (Some sp) zero l ranges next = nothing
pops_by (Some sp) (suc n) l ranges next = sets_range l ranges next sp (λ v. S.Assign v (above l ranges sp (suc n)))

abbrev pub pops : Listing → List Varnode → ℕ → Proto → Made
pops l ranges next p = pops_by l.stack p.pop l ranges next

-- and last the stack pointer is popped
abbrev pub answered : Listing → List Varnode → ℕ → Proto → Option Varnode → Asking → Made
answered l ranges next p gives make = followed (gives_back l ranges next p gives make)
    (pops l ranges (next + length (gives_back l ranges next p gives make).locals) p)

-- a call of this prototype that returns, by what is read before
abbrev pub calls : Listing → List Varnode → ℕ → Proto → Read → Asking → Made
calls l ranges next p r make = behind r (answered l ranges (next + length r.locals) p p.gives make)

-- the arguments of a call of this prototype
abbrev pub passed : Listing → Own → List Varnode → ℕ → Proto → Read
passed l own ranges next p = reads l own ranges next (arguments 0 p.args)

-- a call of the function at an address, which returns or doesn't; one that doesn't has no target
abbrev pub call_made : Bool → Listing → Own → List Varnode → ℕ → (address : ℕ) → Proto → Made
call_made true l own ranges next address p =
    calls l ranges next p (passed l own ranges next p) (λ v. S.Call v address (passed l own ranges next p).words)
call_made false l own ranges next address p =
    behind (passed l own ranges next p)
    (record { statements = S.Call None address (passed l own ranges next p).words ∷ []; locals = [] })

-- the address that is called, and the arguments
abbrev pub indirect_read : Listing → Own → List Varnode → ℕ → Varnode → Proto → Read
indirect_read l own ranges next to p = reads l own ranges next (Reads to ∷ arguments 0 p.args)

-- an answer that is no callee's: nothing of it is left in registers
abbrev pub asks : Listing → List Varnode → ℕ → Option Varnode → Read → Asking → Made
asks l ranges next None r make = behind r (record { statements = make None ∷ []; locals = [] })
asks l ranges next (Some z) r make =
    behind r (set_by (kind_of l z.space) l ranges (next + length r.locals) z (λ v. make (Some v)))

-- ---- all ops

-- An op that leads on. What an op reads that leaves a block is its exit's.
abbrev pub op_made : Listing → Own → List Varnode → ℕ → Opcode → Option Varnode → List Varnode → Made
op_made l own ranges next (O.Unary op) out vs =
    computes l ranges next out (one_read l ranges next vs 0)
    (λ v. S.Assign v (unary_node op (size_out out) (word_at (one_read l ranges next vs 0) 0)))
op_made l own ranges next (O.Binary op) out vs =
    computes l ranges next out (both_read l ranges next vs 0)
    (λ v. S.Assign v (binary_node op (varnode_at vs 0).size (varnode_at vs 1).offset (size_out out)
    (word_at (both_read l ranges next vs 0) 0) (word_at (both_read l ranges next vs 0) 1)))
op_made l own ranges next (O.Divide op) out vs =
    computes l ranges next out (both_read l ranges next vs 0)
    (divides l op (varnode_at vs 1) (word_at (both_read l ranges next vs 0) 0)
    (word_at (both_read l ranges next vs 0) 1))
op_made l own ranges next O.Load out vs = loads_by (own 0) l ranges next out vs
op_made l own ranges next O.Store out vs = stores_by (own 0) l ranges next vs
op_made l own ranges next O.Call out vs =
    call_made (returns (callee_at l (varnode_at vs 0).offset)) l own ranges next (varnode_at vs 0).offset
    (proto_of l (callee_at l (varnode_at vs 0).offset))
op_made l own ranges next O.CallInd out vs =
    calls l ranges next (proto_of l None) (indirect_read l own ranges next (varnode_at vs 0) (proto_of l None))
    (λ v. S.CallInd v (word_at (indirect_read l own ranges next (varnode_at vs 0) (proto_of l None)) 0)
    (drop 1 (indirect_read l own ranges next (varnode_at vs 0) (proto_of l None)).words))
op_made l own ranges next O.CallOther out vs =
    asks l ranges next out (reads l none_own ranges next (all_read (past_first vs)))
    (λ v. S.Other v (varnode_at vs 0).offset (reads l none_own ranges next (all_read (past_first vs))).words)
op_made l own ranges next code out vs = nothing
