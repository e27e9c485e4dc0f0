-- The run of an SSA function is that of its blocks with edges: a statement is carried out, or a block is left and the
-- MULTIEQUALs of the next one take their inputs at once. Its memory is bytes alone, since frame variables are values.
use Rattle.std.specs.Prelude.{ℕ, Option, Some, None}
use Rattle.machine.specs.Trace.{Trace}
use Rattle.pcode_model.specs.declared.listing.Listing.{Listing}
use Rattle.pcode_model.specs.World.{Entry}
use Rattle.cmeaning.specs.Step.{word_at}
use Rattle.edges.specs.Run.{Blocks, seen_blocks}
use Rattle.opgraph.specs.Graph.{OpRow, op_at}
use Rattle.ssa_model.specs.declared.form.Parts.{Parts}
use Rattle.ssa_model.specs.Roles.{Role, Starts, role_of}
use Rattle.ssa_model.specs.Outline.{bytes_of, width_at}
use Rattle.ssa_model.specs.Lines.{code_block, through}

abbrev pub first_by : Listing → Entry → ℕ → Role → Option ℕ
first_by l e w (Starts s) = Some (word_at l e w s)
first_by l e w role = None

-- an entry value has the entry's word at its storage as the run begins, and no other value has a word
abbrev pub first_word : Listing → Entry → Option OpRow → Option ℕ
first_word l e None = None
first_word l e (Some r) = first_by l e (bytes_of r.width) (role_of r.code)

abbrev pub blocks_of : Listing → Parts → Blocks
blocks_of l p = record {
  entry = p.entry.0;
  widths = width_at (op_at p.graph);
  first = λ m e v. first_word m e (op_at p.graph v);
  block = code_block l p;
  through = through p;
}

-- what the function has shown after n steps
abbrev pub seen_ssa : Listing → Parts → Entry → ℕ → Trace
seen_ssa l p e n = seen_blocks l (blocks_of l p) e n
