-- The line `stack VN`, which names the stack pointer: its form, its faults and what it says.
use Rattle.std.specs.Option.{is_some}
use Rattle.std.specs.Prelude.{Bool, List, None, Option, Some, [], length, nat_le, not, ◌==◌, ◌||◌, ◌∷◌}
use Rattle.listing_lines.specs.Text.{Line}
use Rattle.pcode_model.specs.Spaces.{address_bytes}
use Rattle.pcode_model.specs.declared.listing.Space.{Space}
use Rattle.pcode_model.specs.declared.listing.SpaceKind.TheVariants.{Register}
use Rattle.pcodetext.specs.Checks.{is_complete, is_of_kind, is_unknown, leaves_space}
use Rattle.pcodetext.specs.Convert.{varnode}
use Rattle.pcodetext.specs.Written.{range_of}
use Rattle.pcodetext.specs.declared.fault.Why.TheVariants as why
use Rattle.pcodetext.specs.declared.fault.Why.{Why}
use Rattle.pcodetext.specs.declared.line_kinds.Form.TheVariants as form
use Rattle.pcodetext.specs.declared.line_kinds.Form.{Form}
use Rattle.pcodetext.specs.declared.partial_listing.PartialListing.{PartialListing}
use Rattle.pcodetext.specs.declared.written.Written.{Written}

-- ---- `stack VN`

abbrev pub stack_made : Option Written → Form
stack_made None = form.Nothing
stack_made (Some range) = form.Stack range

abbrev pub stack_form : List Space → List Line → Form
stack_form spaces (range ∷ []) = stack_made (range_of spaces range)
stack_form spaces _ = form.Nothing

-- ---- its faults

abbrev pub stack_faults : PartialListing → Written → List (Bool × Why)
stack_faults s w = ((not (is_complete s.spaces) || is_some s.stack) || not (length s.protos == 0), why.Order)
    ∷ (is_unknown w.space, why.Unknown)
    ∷ (not (is_of_kind Register s.spaces w.space), why.Range)
    ∷ (nat_le w.size 1 || not (w.size == address_bytes s.spaces), why.Range)
    ∷ (leaves_space s.spaces w, why.Range) ∷ []

-- ---- what it says

abbrev pub after_stack : PartialListing → Written → PartialListing
after_stack s w = record s { stack = Some (varnode w) }
