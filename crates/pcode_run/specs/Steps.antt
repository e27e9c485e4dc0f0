-- What a step makes of a state, and what it rests on. This project's own.
use Rattle.std.specs.Prelude.{◌≡◌, ℕ, List, [], ◌∷◌, Option, Some, None, IsSome, Result, Ok, Err}
use Rattle.bits_core.specs.declared.word.Word.{Word}
use Rattle.machine.specs.Trace.{End, Outside}
use Rattle.pcode_model.specs.declared.listing.Listing.{Listing}
use Rattle.pcode_model.specs.declared.listing.Instruction.{Instruction}
use Rattle.pcode_model.specs.declared.listing.Op.{Op}
use Rattle.pcode_model.specs.Memory.{Whole, whole}
use Rattle.pcode_model.specs.Places.{Standing, Does}
use Rattle.pcode_model.specs.Rules.{first_broken}
use Rattle.pcode_model.specs.Spaces.{first_ram}
use Rattle.pcode_model.specs.Step.{State, step_at, varnode_at}
use Rattle.pcode_model.specs.WellFormed.{IsOp}
use Rattle.pcode_memory.specs.declared.context.PcodeContext.{PcodeContext}
use Rattle.pcode_memory.specs.Context.{frame_in, layout_of}

-- an op that breaks no rule
pub record Obeys (l : Listing) (op : Op) : Type 0 where
  pub formed : IsOp op
  pub checked : first_broken l op ≡ None

-- what the step makes of a state at which this stands
abbrev pub stepped : PcodeContext → Standing → State Whole → State Whole
stepped c at s = step_at (whole (layout_of c)) c.listing.now (frame_in c) at s

-- what an op of an instruction makes of a state
abbrev pub done : PcodeContext → Instruction → Op → State Whole → State Whole
done c i op s = stepped c (Does i op) s

-- The access of a LOAD or STORE at the state's place is in the first ram space where it is a frame variable's.
abbrev pub OwnsRam : PcodeContext → Op → State Whole → Type 0
OwnsRam c op s = IsSome ((frame_in c).own s.at 0) → (varnode_at op.inputs 0).offset ≡ first_ram c.listing.now

-- two words that were read, or the end Outside
abbrev pub got_two : Option (Word × Word) → Result (List ℕ) End
got_two None = Err Outside
got_two (Some p) = Ok (p.0.value ∷ p.1.value ∷ [])
