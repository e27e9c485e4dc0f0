-- The numbers of a generated listing. This project's own.
use Rattle.std.specs.Prelude.{◌≡◌, ℕ, List, [], length}
use Rattle.pcode_model.specs.declared.atoms.Atom.{Atom}
use Rattle.pcode_model.specs.declared.flow.Block.{Block}
use Rattle.pcode_model.specs.Atoms.{AreAtoms}
use Rattle.pcode_model.specs.Flow.{IsFlow}
use Rattle.pcode_model.specs.declared.frame.Frame.{Frame}
use Rattle.frame_facts.specs.Listed.{IsFrame}
use Rattle.refusals.specs.Good.{Bytes}
use Rattle.generator.specs.Generated.{generated, generated_text}
use Rattle.summary.specs.Counts.{counts_of, lines_of}
use Rattle.pipeline.specs.Verdict.{MayPrint}

-- A line for each: the ops, the blocks and the atoms of the listing with this number, and the gotos and the bytes of a text
-- that may be printed for it.
pub record AreNumbersOf (number : ℕ) (lines : Bytes) : Type 0 where
  pub blocks : List Block
  pub are_blocks : IsFlow (generated number) [] blocks
  pub atoms : List Atom
  pub frame : Frame
  pub is_frame : IsFrame (generated number) [] [] frame
  pub are_atoms : AreAtoms (generated number) [] frame atoms
  pub text : Bytes
  pub printed : MayPrint (generated_text number) text
  pub are : lines ≡ lines_of (counts_of (generated number) (length blocks) (length atoms) printed.function text)
