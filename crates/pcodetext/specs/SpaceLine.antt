-- The line that declares a space: its form, its faults and what it says.
use Rattle.std.specs.Option.{is_none, is_some}
use Rattle.std.specs.Prelude.{Bool, List, None, Option, Some, [], codes, false, if◌then◌else◌, length, map, nat_le, nat_lt, not, true, ℕ, ◌&&◌, ◌++◌, ◌==◌, ◌||◌, ◌∷◌}
use Rattle.std.specs.Str.{bytes_eq}
use Rattle.listing_lines.specs.Text.{Line}
use Rattle.listing_lines.specs.Tokens.{decimal_of, is_name}
use Rattle.pcode_model.specs.Spaces.{same_kind}
use Rattle.pcode_model.specs.WellFormed.{how_many}
use Rattle.pcode_model.specs.declared.listing.Space.{Space}
use Rattle.pcode_model.specs.declared.listing.SpaceKind.TheVariants.{Ram, Register, Unique}
use Rattle.pcode_model.specs.declared.listing.SpaceKind.{SpaceKind}
use Rattle.pcodetext.specs.Tables.{place_in, space_name}
use Rattle.pcodetext.specs.declared.fault.Why.TheVariants as why
use Rattle.pcodetext.specs.declared.fault.Why.{Why}
use Rattle.pcodetext.specs.declared.line_kinds.Form.TheVariants as form
use Rattle.pcodetext.specs.declared.line_kinds.Form.{Form}
use Rattle.pcodetext.specs.declared.partial_listing.PartialListing.{PartialListing}
use Rattle.pcodetext.specs.declared.space_line.SpaceLine.{SpaceLine}

-- ---- `space NAME KIND SIZE ORDER`, and WORD in version 2

abbrev pub kind_of : Line → Option SpaceKind
kind_of word = if bytes_eq word (codes "ram") then Some Ram else (if bytes_eq word (codes "register") then Some Register
    else (if bytes_eq word (codes "unique") then Some Unique else None))

abbrev pub order_of : Line → Option Bool
order_of word =
    if bytes_eq word (codes "le") then Some false else (if bytes_eq word (codes "be") then Some true else None)

abbrev pub word_by : Bool → List Line → Option ℕ
word_by two [] = if two then None else Some 1
word_by two (word ∷ []) = if two then decimal_of word else None
word_by two (word ∷ more ∷ parts) = None

abbrev pub space_made : Line → Option SpaceKind → Option ℕ → Option Bool → Option ℕ → Form
space_made name (Some kind) (Some size) (Some big) (Some word) = if is_name name
    then form.Space (record { name = name; kind = kind; size = size; big = big; word = word }) else form.Nothing
space_made name _ _ _ _ = form.Nothing

abbrev pub space_form : Bool → List Line → Form
space_form two (name ∷ kind ∷ size ∷ order ∷ parts) =
    space_made name (kind_of kind) (decimal_of size) (order_of order) (word_by two parts)
space_form two _ = form.Nothing

-- ---- its faults

abbrev pub is_outside : ℕ → ℕ → ℕ → Bool
is_outside low high n = nat_lt n low || nat_lt high n

abbrev pub space_faults : PartialListing → SpaceLine → List (Bool × Why)
space_faults s l = ((is_none s.version || is_some s.stack) || not (length s.protos == 0), why.Order)
    ∷ (bytes_eq l.name (codes "stack") || is_some (place_in l.name (map space_name s.spaces)), why.Duplicate)
    ∷ (nat_le 9 (length s.spaces), why.Range)
    ∷ (is_outside 1 8 l.size || is_outside 1 8 l.word, why.Range)
    ∷ (not (l.word == 1) && (not (same_kind Ram l.kind) || how_many Ram s.spaces == 0), why.Range) ∷ []

-- ---- what it says

abbrev pub space_of : SpaceLine → Space
space_of l = record { name = l.name; kind = l.kind; size = l.size; big = l.big; word = l.word }

abbrev pub after_space : PartialListing → SpaceLine → PartialListing
after_space s l = record s { spaces = s.spaces ++ space_of l ∷ [] }
