-- What the three inputs come to. This project's own.
use Rattle.std.specs.Prelude.{◌≡◌, ◌<◌, ℕ, List, [], ◌++◌, codes, Some, ⊤}
use Rattle.machine.specs.Trace.{Trace}
use Rattle.pcode_model.specs.declared.frame.Frame.{Frame}
use Rattle.pcode_model.specs.declared.listing.Listing.{Listing}
use Rattle.pcode_model.specs.Frame.{frame_of}
use Rattle.pcode_model.specs.Step.{seen_p}
use Rattle.frame_facts.specs.Listed.{IsFrame}
use Rattle.cmeaning.specs.declared.tree.CFunction.{CFunction}
use Rattle.cmeaning.specs.Agree.{AgreesWith}
use Rattle.cmeaning.specs.Fits.{Fits}
use Rattle.cmeaning.specs.Step.{seen_c}
use Rattle.exact_c.specs.Tree.{IsTreeOf}
use Rattle.run_world.specs.declared.entry.Entry.{Entry}
use Rattle.run_world.specs.Meaning.{entry_of}
use Rattle.tracetext.specs.Text.{trace_text}
use Rattle.comparison.specs.Says.{Says, comparison_text, within}
use Rattle.comparison.specs.declared.fronts.Comparison.{Comparison}
use Rattle.comparison.specs.declared.fronts.Comparison.TheVariants.{Apart}
use Rattle.entrytext.specs.Meaning.{reading}
use Rattle.entrytext.specs.Meaning.Read.{Good, Bad}
use Rattle.entrytext.specs.declared.fault.EntryFault.TheVariants as entry
use Rattle.run_verdict.specs.Runs.{IsRefused, Runs}
use Rattle.runwords.specs.declared.files.Inputs.{Inputs}
use Rattle.statuses.specs.Answer as answer
use Rattle.statuses.specs.Answer.{Answer}
use Rattle.side_by_side.specs.Lines.{line_of}
use Rattle.side_by_side.specs.declared.input_fault.InputFault.{InputFault}
use Rattle.side_by_side.specs.declared.input_fault.InputFault.TheVariants as input_fault

-- ---- the inputs

-- a listing that is run, the one valid function with the text, which fits the listing, and the entry
pub record IsParsed (i : Inputs) (l : Listing) (f : CFunction) (e : Entry) : Type 0 where
  pub listing : Runs i.listing l
  pub function : IsTreeOf i.c_text f
  pub fits : Fits l f
  pub entry : reading l i.entry ≡ Good e

abbrev pub IsNoC : List ℕ → Type 0
IsNoC bytes = (f : CFunction) → IsTreeOf bytes f → ⊥

-- the first reason why the inputs are refused: the listing, the C text, whether it fits, the entry
abbrev pub IsInputFault : Inputs → InputFault → Type 0
IsInputFault i (input_fault.Listing fault) = IsRefused i.listing fault
IsInputFault i input_fault.NotC = (l : Listing) × (Runs i.listing l × IsNoC i.c_text)
IsInputFault i input_fault.Misfit = (l : Listing)
    × ((f : CFunction) × (Runs i.listing l × (IsTreeOf i.c_text f × (Fits l f → ⊥))))
IsInputFault i (input_fault.Entry fault) = (l : Listing)
    × ((f : CFunction) × (Runs i.listing l × (IsTreeOf i.c_text f × (Fits l f × (reading l i.entry ≡ Bad fault)))))
IsInputFault i input_fault.Memory = ⊥

-- a reason, unless memory ran out
abbrev pub IsCause : Inputs → InputFault → Type 0
IsCause i input_fault.Memory = ⊤
IsCause i fault = IsInputFault i fault

-- ---- each input alone, unless memory ran out

abbrev pub IsListingFault : List ℕ → InputFault → Type 0
IsListingFault bytes (input_fault.Listing fault) = IsRefused bytes fault
IsListingFault bytes input_fault.Memory = ⊤
IsListingFault bytes _ = ⊥

abbrev pub IsFunctionFault : List ℕ → InputFault → Type 0
IsFunctionFault bytes input_fault.NotC = IsNoC bytes
IsFunctionFault bytes input_fault.Memory = ⊤
IsFunctionFault bytes _ = ⊥

abbrev pub IsEntryFault : Listing → List ℕ → InputFault → Type 0
IsEntryFault l bytes (input_fault.Entry fault) = reading l bytes ≡ Bad fault
IsEntryFault l bytes input_fault.Memory = ⊤
IsEntryFault l bytes _ = ⊥

-- ---- what is told

-- the lines of both traces and of how they compare
abbrev pub both_text : Listing → Trace → Trace → Comparison → List ℕ
both_text l p c comparison = trace_text l (codes "p ") p ++ (trace_text l (codes "c ") c ++ comparison_text comparison)

-- what the p-code run of the listing with this frame has shown after so many steps
abbrev pub shown_p : Listing → Frame → Entry → ℕ → Trace
shown_p l frame e n = seen_p l (frame_of l frame) (entry_of l e) n

-- what the run of the function has shown after so many steps
abbrev pub shown_c : Listing → CFunction → Entry → ℕ → Trace
shown_c l f e n = seen_c l f (entry_of l e) n

-- The text of what both machines have shown after so many steps, the p-code by the listing's frame. Where the function
-- agrees with the listing for this frame they are never told to be apart.
pub record IsShown (l : Listing) (f : CFunction) (e : Entry) (n : ℕ) (text : List ℕ) : Type 0 where
  pub frame : Frame
  pub is_frame : IsFrame l [] [] frame
  pub comparison : Comparison
  pub says : Says (within (shown_p l frame e n)) (within (shown_c l f e n)) comparison
  pub never_apart : AgreesWith l (frame_of l frame) f → comparison ≡ Apart → ⊥
  pub is : text ≡ both_text l (shown_p l frame e n) (shown_c l f e n) comparison

abbrev pub IsTold : Listing → CFunction → Entry → ℕ → Answer → Type 0
IsTold l f e n (answer.Shown text) = IsShown l f e n text
IsTold l f e n answer.Memory = ⊤
IsTold l f e n _ = ⊥

-- the line of a reason, unless memory ran out
abbrev pub IsLine : InputFault → Answer → Type 0
IsLine input_fault.Memory o = o ≡ answer.Memory
IsLine fault (answer.Refused line) = line ≡ line_of fault
IsLine fault answer.Memory = ⊤
IsLine fault _ = ⊥

-- the inputs show this text after so many steps
abbrev pub Shows : Inputs → ℕ → List ℕ → Type 0
Shows i n text = (l : Listing) × ((f : CFunction) × ((e : Entry) × (IsParsed i l f e × IsShown l f e n text)))

-- this line names the first reason why the inputs are refused
abbrev pub Faults : Inputs → List ℕ → Type 0
Faults i line = (fault : InputFault) × (IsInputFault i fault × (line ≡ line_of fault))
