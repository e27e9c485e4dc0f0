-- The plain lowering's code: each atom is a variable, each block of the flow a block of code, and the locals that the
-- blocks need stand behind the atoms. This project's own.
use Rattle.std.specs.Prelude.{ℕ, suc, ◌+◌, ◌==◌, ◌&&◌, Bool, if◌then◌else◌, List, [], ◌∷◌, ◌++◌, length, map, Option, Some, None}
use Rattle.bits_core.specs.declared.word.Width.{Width}
use Rattle.pcode_model.specs.declared.listing.Varnode.{Varnode}
use Rattle.pcode_model.specs.declared.listing.Place.{Place}
use Rattle.pcode_model.specs.declared.listing.Listing.{Listing}
use Rattle.pcode_model.specs.declared.storage.ParamStorage.{ParamStorage}
use Rattle.pcode_model.specs.declared.storage.ParamStorage.TheVariants as P
use Rattle.pcode_model.specs.declared.atoms.Atom.{Atom}
use Rattle.pcode_model.specs.declared.flow.Exit as flow_exit
use Rattle.pcode_model.specs.declared.flow.Exit.TheVariants as F
use Rattle.pcode_model.specs.declared.flow.Block as flow_block
use Rattle.pcode_model.specs.Frame.{wrapped}
use Rattle.pcode_model.specs.Memory.{Frame}
use Rattle.pcode_model.specs.Spaces.{register_space, unique_space}
use Rattle.pcode_model.specs.Places.{Standing, Nothing, Passes, Does, standing}
use Rattle.pcode_model.specs.Step.{first_place, proto_of, varnode_at}
use Rattle.pcode_model.specs.Flow.{starts_of}
use Rattle.cmeaning.specs.declared.tree.Expr.{Expr}
use Rattle.cmeaning.specs.declared.tree.Stmt.{Stmt}
use Rattle.blockcode.specs.declared.code.Variable.{Variable}
use Rattle.blockcode.specs.declared.code.Exit.{Exit}
use Rattle.blockcode.specs.declared.code.Exit.TheVariants as X
use Rattle.blockcode.specs.declared.code.Block.{Block}
use Rattle.blockcode.specs.declared.code.Code.{Code}
use Rattle.op_values.specs.Nodes.{constant, width_by, width_of_range}
use Rattle.range_words.specs.Own.{frame_range, stack_size}
use Rattle.op_code.specs.Made.{Made, Own, ReadOne, nothing, op_made, range_word, read_one}

-- ---- variables

abbrev pub range_at : Listing → ParamStorage → ℕ → Varnode
range_at l (P.Register o) k = record { space = register_space l; offset = o; size = k }
range_at l (P.Unique o) k = record { space = unique_space l; offset = o; size = k }
range_at l (P.Stack o) k = frame_range l (wrapped (stack_size l) o) k

-- the range that a variable stands for
abbrev pub range_of : Listing → Atom → Varnode
range_of l a = range_at l a.storage a.size

abbrev pub ranges_of : Listing → List Atom → List Varnode
ranges_of l atoms = map (range_of l) atoms

abbrev pub variable_for : Atom → Variable
variable_for a = record { width = width_by a.size; storage = Some a.storage }

-- ---- places

abbrev pub made_in : Listing → Own → List Varnode → ℕ → Standing → Made
made_in l own ranges next Nothing = nothing
made_in l own ranges next (Passes i) = nothing
made_in l own ranges next (Does i op) = op_made l own ranges next op.code op.out op.inputs

-- what stands for the op at a place
abbrev pub place_made : Listing → (Place → Own) → List Varnode → ℕ → Place → Made
place_made l own ranges next p = made_in l (own p) ranges next (standing l p)

-- ---- exits

-- How a block is left, and what is done and needed before.
pub record WayOut : Type 0 where
  pub loads : List Stmt
  pub exit : Exit
  pub locals : List Variable

abbrev pub directly : Exit → WayOut
directly e = record { loads = []; exit = e; locals = [] }

abbrev pub tests : ReadOne → ℕ → ℕ → WayOut
tests c taken other = record { loads = c.loads; exit = X.Test c.word taken other; locals = c.locals }

abbrev pub result_in : Listing → List Varnode → Option Varnode → Option Expr
result_in l ranges None = None
result_in l ranges (Some v) = Some (range_word l ranges v)

-- the function's result, where its prototype has one
abbrev pub result : Listing → List Varnode → Option Expr
result l ranges = result_in l ranges (proto_of l None).gives

abbrev pub condition_in : Listing → List Varnode → ℕ → Standing → ReadOne
condition_in l ranges next Nothing = record { loads = []; word = constant 1 0; locals = [] }
condition_in l ranges next (Passes i) = record { loads = []; word = constant 1 0; locals = [] }
condition_in l ranges next (Does i op) = read_one l ranges next (varnode_at op.inputs 1)

-- A test whose two blocks are one is a jump, and reads nothing.
abbrev pub way_out : Listing → List Varnode → ℕ → Standing → flow_exit.Exit → WayOut
way_out l ranges next s F.Return = directly (X.Return (result l ranges))
way_out l ranges next s (F.Jump n) = directly (X.Jump n)
way_out l ranges next s (F.Test m n) = if m == n then directly (X.Jump m) else tests (condition_in l ranges next s) m n
way_out l ranges next s (F.Switch t ns) = directly X.Stop
way_out l ranges next s F.Stop = directly X.Stop

-- ---- blocks

pub record BlockMade : Type 0 where
  pub block : Block
  pub locals : List Variable

-- the last place of a block, and its exit
abbrev pub last_made : Made → WayOut → BlockMade
last_made here out = record {
  block = record { body = here.statements ++ out.loads; exit = out.exit };
  locals = here.locals ++ out.locals;
}

abbrev pub in_front : Made → BlockMade → BlockMade
in_front here rest = record {
  block = record { body = here.statements ++ rest.block.body; exit = rest.block.exit };
  locals = here.locals ++ rest.locals;
}

-- The places of a block, one behind another. A block has a place.
abbrev pub places_made : Listing → (Place → Own) → List Varnode → ℕ → List Place → flow_exit.Exit → BlockMade
places_made l own ranges next [] e = record { block = record { body = []; exit = X.Stop }; locals = [] }
places_made l own ranges next (p ∷ []) e = last_made (place_made l own ranges next p)
    (way_out l ranges (next + length (place_made l own ranges next p).locals) (standing l p) e)
places_made l own ranges next (p ∷ q ∷ rest) e = in_front (place_made l own ranges next p)
    (places_made l own ranges (next + length (place_made l own ranges next p).locals) (q ∷ rest) e)

abbrev pub block_made : Listing → (Place → Own) → List Varnode → ℕ → flow_block.Block → BlockMade
block_made l own ranges next b = places_made l own ranges next b.places b.exit

pub record BlocksMade : Type 0 where
  pub blocks : List Block
  pub locals : List Variable

abbrev pub blocks_made : Listing → (Place → Own) → List Varnode → ℕ → List flow_block.Block → BlocksMade
blocks_made l own ranges next [] = record { blocks = []; locals = [] }
blocks_made l own ranges next (b ∷ bs) = record {
  blocks = (block_made l own ranges next b).block
      ∷ (blocks_made l own ranges (next + length (block_made l own ranges next b).locals) bs).blocks;
  locals = (block_made l own ranges next b).locals
      ++ (blocks_made l own ranges (next + length (block_made l own ranges next b).locals) bs).locals;
}

-- ---- the whole

abbrev pub same_place : Place → Place → Bool
same_place p q = p.address == q.address && p.index == q.index

abbrev pub place_number : List Place → Place → ℕ
place_number [] p = 0
place_number (q ∷ rest) p = if same_place q p then 0 else suc (place_number rest p)

-- The plain lowering of a listing with this frame, this flow and these atoms.
abbrev pub lowered : Listing → Frame → List flow_block.Block → List Atom → Code
lowered l f blocks atoms = record {
  variables = map variable_for atoms ++ (blocks_made l f.own (ranges_of l atoms) (length atoms) blocks).locals;
  blocks = (blocks_made l f.own (ranges_of l atoms) (length atoms) blocks).blocks;
  entry = place_number (starts_of blocks) (first_place l);
}

-- ---- the result

-- the function's result has the width that its prototype says
abbrev pub result_width : Listing → Option Width
result_width l = width_of_range (proto_of l None).gives
