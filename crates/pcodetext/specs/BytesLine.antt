-- The line of read-only bytes: its form, its faults and what it says.
use Rattle.std.specs.Option.{is_none, is_some}
use Rattle.std.specs.Prelude.{Bool, List, Option, Some, [], false, length, nat_lt, not, ℕ, ◌++◌, ◌||◌, ◌∷◌}
use Rattle.listing_lines.specs.Text.{Line}
use Rattle.listing_lines.specs.Tokens.{bytes_of}
use Rattle.pcode_model.specs.declared.listing.Fixed.{Fixed}
use Rattle.pcode_model.specs.declared.listing.Space.{Space}
use Rattle.pcode_model.specs.declared.listing.SpaceKind.TheVariants.{Ram}
use Rattle.pcodetext.specs.Checks.{is_of_kind, is_unknown, leaves_known}
use Rattle.pcodetext.specs.Convert.{number}
use Rattle.pcodetext.specs.Tables.{overlaps, stands_after}
use Rattle.pcodetext.specs.Written.{place_of}
use Rattle.pcodetext.specs.declared.bytes_line.BytesLine.{BytesLine}
use Rattle.pcodetext.specs.declared.fault.Why.TheVariants as why
use Rattle.pcodetext.specs.declared.fault.Why.{Why}
use Rattle.pcodetext.specs.declared.line_kinds.Form.TheVariants as form
use Rattle.pcodetext.specs.declared.line_kinds.Form.{Form}
use Rattle.pcodetext.specs.declared.partial_listing.PartialListing.{PartialListing}
use Rattle.pcodetext.specs.declared.written.Named.TheVariants as named
use Rattle.pcodetext.specs.declared.written.Named.{Named}

-- ---- `bytes SPACE:HEX PAIRS`

abbrev pub bytes_made : Option (Named × ℕ) → Option (List ℕ) → Form
bytes_made (Some place) (Some bytes) = form.Bytes (record { space = place.0; offset = place.1; bytes = bytes })
bytes_made _ _ = form.Nothing

abbrev pub bytes_form : List Space → List Line → Form
bytes_form spaces (place ∷ pairs ∷ []) = bytes_made (place_of spaces place) (bytes_of pairs)
bytes_form spaces _ = form.Nothing

-- ---- its faults

abbrev pub is_late : List Fixed → Named → ℕ → Bool
is_late fixed (named.Space n) offset = stands_after fixed n offset
is_late fixed named.Stack offset = false
is_late fixed named.Unknown offset = false

abbrev pub is_double : List Fixed → Named → ℕ → ℕ → Bool
is_double fixed (named.Space n) offset size = overlaps fixed n offset size
is_double fixed named.Stack offset size = false
is_double fixed named.Unknown offset size = false

abbrev pub bytes_faults : PartialListing → BytesLine → List (Bool × Why)
bytes_faults s l = (is_none s.func || is_some s.last, why.Order)
    ∷ (is_late s.fixed l.space l.offset, why.Order)
    ∷ (is_unknown l.space, why.Unknown)
    ∷ (is_double s.fixed l.space l.offset (length l.bytes), why.Duplicate)
    ∷ (nat_lt 4096 (length l.bytes), why.Range)
    ∷ (not (is_of_kind Ram s.spaces l.space), why.Range)
    ∷ (leaves_known s.spaces l.space l.offset (length l.bytes), why.Range) ∷ []

-- ---- what it says

abbrev pub fixed_of : BytesLine → Fixed
fixed_of l = record { space = number l.space; offset = l.offset; bytes = l.bytes }

abbrev pub after_bytes : PartialListing → BytesLine → PartialListing
after_bytes s l = record s { fixed = s.fixed ++ fixed_of l ∷ [] }
