-- An SSA function as blocks of statements whose edges rename variables. A value is the variable of its number.
use Rattle.std.specs.Prelude.{ℕ, ◌%◌, ◌==◌, if◌then◌else◌, List, [], ◌∷◌, ◌++◌, drop, map, Option, Some, None, slice_get}
use Rattle.std.proofs.Math.Nat.{mod-lt}
use Rattle.bits_core.proofs.Limits.{limit_pos}
use Rattle.bits_core.specs.declared.word.Width.{Width}
use Rattle.bits_core.specs.declared.word.Word.{Word}
use Rattle.bits_core.specs.Value.{limit}
use Rattle.pcode_model.specs.declared.listing.Space.{Space}
use Rattle.pcode_model.specs.declared.listing.Listing.{Listing}
use Rattle.pcode_model.specs.Spaces.{first_ram}
use Rattle.cmeaning.specs.declared.tree.Expr.{Expr}
use Rattle.cmeaning.specs.declared.tree.Expr.TheVariants as E
use Rattle.cmeaning.specs.declared.tree.Stmt.{Stmt}
use Rattle.cmeaning.specs.declared.tree.Stmt.TheVariants as S
use Rattle.blockcode.specs.declared.code.Exit.{Exit}
use Rattle.blockcode.specs.declared.code.Exit.TheVariants as C
use Rattle.blockcode.specs.declared.code.Block.{Block}
use Rattle.node_lists.specs.Chains.{last_or}
use Rattle.opgraph.specs.Graph.{OpRow, Graph, op_at, block_at, inputs_in}
use Rattle.ssa_model.specs.declared.form.Arm.{Arm}
use Rattle.ssa_model.specs.declared.form.SsaExit.{SsaExit}
use Rattle.ssa_model.specs.declared.form.SsaExit.TheVariants as X
use Rattle.ssa_model.specs.declared.form.Parts.{Parts}
use Rattle.ssa_model.specs.Roles.{Role, Constant, Joins, Copies, Unary, Arithmetic, Shifts, Compares, Signed, Extends, Piece, Part, Overflow, Count, Divides, Loads, Stores, Calls, CallsInd, CallsOther, Extra, role_of}
use Rattle.ssa_model.specs.Outline.{exit_in, block_with, predecessors_at}

-- ---- statements

-- a number as a word of a width, reduced to it
abbrev pub word_in : Width → ℕ → Word
word_in w n = record { value = n % limit w.bytes; width = w; below = mod-lt n (limit_pos w.bytes) }

abbrev pub or_zero : Option ℕ → ℕ
or_zero None = 0
or_zero (Some v) = v

-- the input at a place
abbrev pub input : List ℕ → ℕ → Expr
input vs k = E.Var (or_zero (slice_get vs k))

abbrev pub name_in : Option Space → List ℕ
name_in None = []
name_in (Some s) = s.name

-- the name by which a statement says a space; the first ram space has none
abbrev pub said : Listing → ℕ → Option (List ℕ)
said l space = if space == first_ram l then None else Some (name_in (slice_get l.spaces space))

abbrev pub target : ℕ → Option Width → Option ℕ
target x None = None
target x (Some w) = Some x

-- What the op x of a width and a role says of its inputs: an entry value, a MULTIEQUAL and an exit's op are no
-- statement.
abbrev pub line_by : Listing → ℕ → List ℕ → Role → Option Width → List Stmt
line_by l x vs (Constant n) (Some w) = S.Assign x (E.Const (word_in w n)) ∷ []
line_by l x vs Copies (Some w) = S.Assign x (input vs 0) ∷ []
line_by l x vs (Unary op) (Some w) = S.Assign x (E.Unary op (input vs 0)) ∷ []
line_by l x vs (Arithmetic op) (Some w) = S.Assign x (E.Arithmetic op (input vs 0) (input vs 1)) ∷ []
line_by l x vs (Shifts op) (Some w) = S.Assign x (E.Shift op (input vs 0) (input vs 1)) ∷ []
line_by l x vs (Compares op) (Some w) = S.Assign x (E.Compare op (input vs 0) (input vs 1)) ∷ []
line_by l x vs (Signed op) (Some w) = S.Assign x (E.SignedCompare op (input vs 0) (input vs 1)) ∷ []
line_by l x vs (Extends op) (Some w) = S.Assign x (E.Extend op w (input vs 0)) ∷ []
line_by l x vs Piece (Some w) = S.Assign x (E.Concat (input vs 0) (input vs 1)) ∷ []
line_by l x vs (Part dropped) (Some w) = S.Assign x (E.Part dropped w (input vs 0)) ∷ []
line_by l x vs (Overflow op) (Some w) = S.Assign x (E.Overflow op (input vs 0) (input vs 1)) ∷ []
line_by l x vs (Count op) (Some w) = S.Assign x (E.Count op (input vs 0)) ∷ []
line_by l x vs (Divides op) (Some w) = S.Divide x op (input vs 0) (input vs 1) ∷ []
line_by l x vs (Loads space) (Some w) = S.Load x (said l space) (input vs 0) ∷ []
line_by l x vs (Stores space) w = S.Store (said l space) (input vs 0) (input vs 1) ∷ []
line_by l x vs (Calls callee) w = S.Call (target x w) callee (map E.Var vs) ∷ []
line_by l x vs CallsInd w = S.CallInd (target x w) (input vs 0) (map E.Var (drop 1 vs)) ∷ []
line_by l x vs (CallsOther index) w = S.Other (target x w) index (map E.Var vs) ∷ []
line_by l x vs (Extra offset) (Some w) = S.Extra x offset ∷ []
line_by l x vs role w = []

-- the simple statement that an op stands for
abbrev pub line_of : Listing → ℕ → Option OpRow → List Stmt
line_of l x None = []
line_of l x (Some r) = line_by l x r.inputs (role_of r.code) r.width

abbrev pub body_of : Listing → Graph → List ℕ → List Stmt
body_of l g [] = []
body_of l g (x ∷ xs) = line_of l x (op_at g x) ++ body_of l g xs

-- ---- exits

-- over the values that the last op of the block reads
abbrev pub exit_over : SsaExit → List ℕ → Exit
exit_over X.Return [] = C.Return None
exit_over X.Return (v ∷ vs) = C.Return (Some (E.Var v))
exit_over (X.Jump to) vs = C.Jump to.0
exit_over (X.Test taken other) vs = C.Test (input vs 0) taken.0 other.0
exit_over (X.Switch arms) vs = C.Switch (input vs 0) (map (λ (a : Arm). record { value = a.value; to = a.to.0 }) arms)
exit_over X.Stop vs = C.Stop

abbrev pub last_inputs : Graph → Option ℕ → List ℕ
last_inputs g None = []
last_inputs g (Some x) = inputs_in (op_at g x)

abbrev pub block_by : Listing → Graph → ℕ → Option SsaExit → Option Block
block_by l g b None = None
block_by l g b (Some e) = Some (record {
  body = body_of l g (block_at g b);
  exit = exit_over e (last_inputs g (last_or None (block_at g b)));
})

abbrev pub code_block : Listing → Parts → ℕ → Option Block
code_block l p b = block_by l p.graph b (exit_in (block_with b p.blocks))

-- ---- edges

-- the item that stands in one list where the number stands in the other
abbrev pub beside : ℕ → List ℕ → List ℕ → Option ℕ
beside from [] vs = None
beside from (b ∷ bs) [] = None
beside from (b ∷ bs) (v ∷ vs) = if b == from then Some v else beside from bs vs

abbrev pub or_else : Option ℕ → ℕ → ℕ
or_else None v = v
or_else (Some w) v = w

-- what a value is over an edge, by what it is and the predecessors of the block where the edge ends
abbrev pub carried : ℕ → ℕ → ℕ → List ℕ → OpRow → Role → ℕ
carried v from to predecessors r (Joins atom) =
    if r.block == to then or_else (beside from predecessors r.inputs) v else v
carried v from to predecessors r role = v

abbrev pub carried_row : ℕ → ℕ → ℕ → List ℕ → Option OpRow → ℕ
carried_row v from to predecessors None = v
carried_row v from to predecessors (Some r) = carried v from to predecessors r (role_of r.code)

-- over the edge from one block to another a MULTIEQUAL of the second has its input for the first
abbrev pub through : Parts → (from to : ℕ) → ℕ → ℕ
through p from to v = carried_row v from to (predecessors_at p.blocks to) (op_at p.graph v)
