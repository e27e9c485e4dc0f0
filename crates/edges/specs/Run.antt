-- Blocks of statements whose edges rename variables, all at once, and their run. A code of blocks is the case in which
-- no edge renames. In a function in SSA form a variable is a value, and an edge gives each MULTIEQUAL its input. This
-- project's own.
use Rattle.std.specs.Prelude.{ℕ, Bool, List, [], ◌∷◌, slice_get, Option, Some, None}
use Rattle.machine.specs.Trace.{Undefined, Trace}
use Rattle.machine.specs.Machine.{Machine, seen}
use Rattle.pcode_model.specs.declared.listing.Listing.{Listing}
use Rattle.pcode_model.specs.World.{Entry, first_world, shown, unless_over}
use Rattle.cmeaning.specs.declared.tree.Stmt.{Stmt}
use Rattle.cmeaning.specs.Do.{Local, ends, values_of, do_simple}
use Rattle.blockcode.specs.declared.code.Exit.{Exit}
use Rattle.blockcode.specs.declared.code.Exit.TheVariants as X
use Rattle.blockcode.specs.declared.code.Block.{Block}
use Rattle.blockcode.specs.declared.code.Code.{Code}
use Rattle.blockcode.specs.Run.{widths, first_word, call_returns}
use Rattle.parts.specs.Exprs.{all_of}
use Rattle.edges.specs.Exits.{exit_args, Where, Onto, Out, leads}

-- ---- blocks

-- widths: of the variables, in bytes.
-- first: the word that a variable has as the run begins, None where it has none.
-- block: the statements and the exit of a block.
-- through: over the edge from one block to another a variable has what this variable had before it.
pub record Blocks : Type 0 where
  pub entry : ℕ
  pub widths : ℕ → ℕ
  pub first : Listing → Entry → ℕ → Option ℕ
  pub block : ℕ → Option Block
  pub through : (from to : ℕ) → ℕ → ℕ

abbrev pub stmts_of : Option Block → List Stmt
stmts_of None = []
stmts_of (Some b) = b.body

-- Where there is no block the run ends Undefined, as at the exit Stop.
abbrev pub exit_of : Option Block → Exit
exit_of None = X.Stop
exit_of (Some b) = b.exit

abbrev pub stmts_at : Blocks → ℕ → List Stmt
stmts_at k b = stmts_of (k.block b)

abbrev pub exit_at : Blocks → ℕ → Exit
exit_at k b = exit_of (k.block b)

-- ---- the run

-- the block, the statements that are left of it, and the variables and the world
pub record Going : Type 0 where
  pub block : ℕ
  pub rest : List Stmt
  pub local : Local

abbrev pub going : ℕ → List Stmt → Local → Going
going b rest x = record { block = b; rest = rest; local = x }

-- each variable has what another one had
abbrev pub over_edge : (ℕ → ℕ) → Local → Local
over_edge f x = record { env = λ v. x.env (f v); left = x.left; world = x.world }

abbrev pub arrives : Blocks → ℕ → Where → Local → Going
arrives k from (Onto b) x = going b (stmts_at k b) (over_edge (k.through from b) x)
arrives k from (Out e) x = going from [] (ends e x)

-- the exit of a block, by the values of its arguments
abbrev pub leaves : Blocks → ℕ → Option (List ℕ) → Local → Going
leaves k b None x = going b [] (ends Undefined x)
leaves k b (Some ns) x = arrives k b (leads (exit_at k b) ns) x

-- whether a call in front of these statements of a block returns
abbrev pub returns_at : Blocks → ℕ → List Stmt → ℕ → Bool
returns_at k b rest callee = call_returns rest (exit_at k b)

-- the next statement, or the exit where none is left
abbrev pub exec : Listing → Blocks → ℕ → List Stmt → Local → Going
exec l k b [] x = leaves k b (all_of (values_of k.widths x.env (exit_args (exit_at k b)))) x
exec l k b (a ∷ rest) x = going b rest (do_simple l k.widths (returns_at k b rest) a x)

-- After an end nothing changes.
abbrev pub blocks_step : Listing → Blocks → Going → Going
blocks_step l k s = unless_over s.local.world.over s (exec l k s.block s.rest s.local)

abbrev pub blocks_machine : Listing → Blocks → Machine Going
blocks_machine l k = record { step = blocks_step l k; sight = λ s. shown s.local.world }

-- the variables and the world as the run begins
abbrev pub first_state : Listing → Blocks → Entry → Local
first_state l k e = record { env = k.first l e; left = λ o. 0; world = first_world e.bytes e }

abbrev pub start_blocks : Listing → Blocks → Entry → Going
start_blocks l k e = going k.entry (stmts_at k k.entry) (first_state l k e)

-- what the blocks have shown after n steps
abbrev pub seen_blocks : Listing → Blocks → Entry → ℕ → Trace
seen_blocks l k e n = seen (blocks_machine l k) (start_blocks l k e) n

-- ---- a code of blocks

abbrev pub blocks_of_code : Code → Blocks
blocks_of_code k = record {
  entry = k.entry;
  widths = widths k.variables;
  first = λ l e v. first_word l e (slice_get k.variables v);
  block = λ b. slice_get k.blocks b;
  through = λ from to v. v;
}
