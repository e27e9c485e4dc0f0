-- The line `end`: its form, its faults and what it says.
use Rattle.std.specs.Option.{is_none}
use Rattle.std.specs.Prelude.{Bool, List, [], true, ◌||◌, ◌∷◌}
use Rattle.listing_lines.specs.Text.{Line}
use Rattle.pcodetext.specs.declared.fault.Why.TheVariants as why
use Rattle.pcodetext.specs.declared.fault.Why.{Why}
use Rattle.pcodetext.specs.declared.line_kinds.Form.TheVariants as form
use Rattle.pcodetext.specs.declared.line_kinds.Form.{Form}
use Rattle.pcodetext.specs.declared.partial_listing.PartialListing.{PartialListing}

-- ---- `end`

abbrev pub end_form : List Line → Form
end_form [] = form.End
end_form (part ∷ parts) = form.Nothing

-- ---- its faults

abbrev pub end_faults : PartialListing → List (Bool × Why)
end_faults s = (is_none s.last || s.ended, why.Order) ∷ []

-- ---- what it says

abbrev pub after_end : PartialListing → PartialListing
after_end s = record s { ended = true }
