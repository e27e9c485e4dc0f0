-- The line `pcode N`: its form, its faults and what it says.
use Rattle.std.specs.Option.{is_none, is_some}
use Rattle.std.specs.Prelude.{Bool, List, None, Option, Some, [], not, ℕ, ◌&&◌, ◌==◌, ◌||◌, ◌∷◌}
use Rattle.listing_lines.specs.Text.{Line}
use Rattle.listing_lines.specs.Tokens.{decimal_of}
use Rattle.pcodetext.specs.declared.fault.Why.TheVariants as why
use Rattle.pcodetext.specs.declared.fault.Why.{Why}
use Rattle.pcodetext.specs.declared.line_kinds.Form.TheVariants as form
use Rattle.pcodetext.specs.declared.line_kinds.Form.{Form}
use Rattle.pcodetext.specs.declared.partial_listing.PartialListing.{PartialListing}

-- ---- `pcode N`

abbrev pub pcode_made : Option ℕ → Form
pcode_made None = form.Nothing
pcode_made (Some version) = form.Pcode version

abbrev pub pcode_form : List Line → Form
pcode_form (version ∷ []) = pcode_made (decimal_of version)
pcode_form _ = form.Nothing

-- ---- its faults

-- `pcode N` is the first line
abbrev pub pcode_faults : PartialListing → ℕ → List (Bool × Why)
pcode_faults s version =
    (is_none s.version && not (version == 1 || version == 2), why.Version) ∷ (is_some s.version, why.Order) ∷ []

-- ---- what it says

abbrev pub after_pcode : PartialListing → ℕ → PartialListing
after_pcode s version = record s { version = Some version }
