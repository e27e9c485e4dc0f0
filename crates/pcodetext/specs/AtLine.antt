-- The line that begins an instruction: its form, its faults and what it says.
use Rattle.std.specs.Option.{is_none, option_to_list}
use Rattle.std.specs.Prelude.{Bool, List, Option, Some, [], length, nat_le, nat_lt, ℕ, ◌++◌, ◌+◌, ◌==◌, ◌||◌, ◌∷◌}
use Rattle.listing_lines.specs.Text.{Line}
use Rattle.listing_lines.specs.Tokens.{decimal_of, hexadecimal_of}
use Rattle.pcode_model.specs.declared.listing.Instruction.{Instruction}
use Rattle.pcodetext.specs.Checks.{of_some}
use Rattle.pcodetext.specs.declared.at_line.AtLine.{AtLine}
use Rattle.pcodetext.specs.declared.fault.Why.TheVariants as why
use Rattle.pcodetext.specs.declared.fault.Why.{Why}
use Rattle.pcodetext.specs.declared.line_kinds.Form.TheVariants as form
use Rattle.pcodetext.specs.declared.line_kinds.Form.{Form}
use Rattle.pcodetext.specs.declared.partial_listing.PartialListing.{PartialListing}

-- ---- `at HEX LENGTH`

abbrev pub at_made : Option ℕ → Option ℕ → Form
at_made (Some address) (Some length) = form.At (record { address = address; length = length })
at_made _ _ = form.Nothing

abbrev pub at_form : List Line → Form
at_form (address ∷ length ∷ []) = at_made (hexadecimal_of address) (decimal_of length)
at_form _ = form.Nothing

-- ---- its faults

-- an address that doesn't rise, or that the last instruction reaches past
abbrev pub is_behind : ℕ → Instruction → Bool
is_behind address last = nat_le address last.address || nat_lt address (last.address + last.length)

abbrev pub at_faults : PartialListing → AtLine → List (Bool × Why)
at_faults s l = (is_none s.func || s.ended, why.Order)
    ∷ (of_some (is_behind l.address) s.last, why.Order)
    ∷ (l.length == 0, why.Range) ∷ []

-- ---- what it says

abbrev pub after_at : PartialListing → AtLine → PartialListing
after_at s l =
    record s {
      done = s.done ++ option_to_list s.last;
      last = Some (record { address = l.address; length = l.length; ops = [] });
    }
