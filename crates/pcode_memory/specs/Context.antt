-- What stays the same during a run, and its states. This project's own.
use Rattle.std.specs.Prelude.{◌≡◌, ℕ, true, Option, Some, None, Result, Ok, Err}
use Rattle.machine.specs.Trace.{End, Outside}
use Rattle.pcode_model.specs.declared.listing.Listing.{Listing}
use Rattle.pcode_model.specs.Frame.{frame_of}
use Rattle.pcode_model.specs.Memory as M
use Rattle.pcode_model.specs.Rules.{first_bad}
use Rattle.pcode_model.specs.Spaces.{first_ram, is_some, put}
use Rattle.pcode_model.specs.WellFormed.{IsWellFormed}
use Rattle.run_world.specs.Maps.{at_offset, bytes_of}
use Rattle.run_world.specs.Setting.{HasShape, IsSetting}
use Rattle.pcode_memory.specs.declared.context.PcodeContext.{PcodeContext}
use Rattle.pcode_memory.specs.declared.whole.Whole.{Whole}
use Rattle.pcode_memory.specs.Frame.{IsOrdered}

-- a well formed listing whose ops obey their rules, with a frame that stands in order; what is looked up is the listing's
-- own
pub record IsContext (c : PcodeContext) : Type 0 where
  pub formed : IsWellFormed c.listing.now
  pub checked : first_bad c.listing.now ≡ None
  pub ordered : IsOrdered c.listing.now c.frame.now
  pub setting : IsSetting c.listing.now c.setting
  pub ram : HasShape c.listing.now (first_ram c.listing.now) c.ram

-- what the frame says of the runs of the listing
abbrev pub frame_in : PcodeContext → M.Frame
frame_in c = frame_of c.listing.now c.frame.now

abbrev pub layout_of : PcodeContext → M.Layout
layout_of c = record { listing = c.listing.now; frame = frame_in c; stack0 = c.stack0 }

abbrev pub whole_of : Whole → M.Whole
whole_of w =
    record { bytes = bytes_of w.bytes; hidden = at_offset w.hidden; spoiled = λ a. is_some (at_offset w.spoiled a) }

-- a byte is spoiled from then on
abbrev pub spoil : ℕ → M.Whole → M.Whole
spoil a w = record { bytes = w.bytes; hidden = w.hidden; spoiled = put w.spoiled a true }

-- a word was read, or the access is outside
abbrev pub got : {A : Type 0} → Option A → Result A End
got None = Err Outside
got (Some x) = Ok x
