-- A fault of the entry is the first reason why inputs are refused whose listing and C text are not.
use Rattle.pcode_model.specs.declared.listing.Listing.{Listing}
use Rattle.cmeaning.specs.declared.tree.CFunction.{CFunction}
use Rattle.cmeaning.specs.Fits.{Fits}
use Rattle.exact_c.specs.Tree.{IsTreeOf}
use Rattle.run_verdict.specs.Runs.{Runs}
use Rattle.runwords.specs.declared.files.Inputs.{Inputs}
use Rattle.side_by_side.specs.Judged.{IsCause, IsEntryFault}
use Rattle.side_by_side.specs.declared.input_fault.InputFault.{InputFault}
use Rattle.side_by_side.specs.declared.input_fault.InputFault.TheVariants as input_fault

pub entry_refused : (i : Inputs) (l : Listing) (f : CFunction)
    → Runs i.listing l
    → IsTreeOf i.c_text f
    → Fits l f
    → (fault : InputFault)
    → IsEntryFault l i.entry fault
    → IsCause i fault
entry_refused i l f runs tree fits (input_fault.Listing fault) h = absurd h
entry_refused i l f runs tree fits input_fault.NotC h = absurd h
entry_refused i l f runs tree fits input_fault.Misfit h = absurd h
entry_refused i l f runs tree fits (input_fault.Entry fault) h = (l, (f, (runs, (tree, (fits, h)))))
entry_refused i l f runs tree fits input_fault.Memory h = h
