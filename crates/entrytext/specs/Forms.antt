-- A line by its form. Which name stands for which space is known from the listing. This project's own.
use Rattle.std.specs.Prelude.{◌==◌, ◌&&◌, suc, ℕ, List, [], ◌∷◌, codes, Option, Some, None, if◌then◌else◌}
use Rattle.std.specs.Str.{bytes_eq}
use Rattle.listing_lines.specs.Text.{Line, parts_of}
use Rattle.listing_lines.specs.Tokens.{bytes_of, hexadecimal_of, is_name, number_of}
use Rattle.pcode_model.specs.declared.listing.Listing.{Listing}
use Rattle.pcode_model.specs.declared.listing.Space.{Space}
use Rattle.pcode_model.specs.declared.listing.SpaceKind.TheVariants.{Ram}
use Rattle.pcode_model.specs.Spaces.{first_ram, register_space, same_kind, unique_space}
use Rattle.entrytext.specs.declared.form.BytesLine.{BytesLine}
use Rattle.entrytext.specs.declared.form.Form.{Form}
use Rattle.entrytext.specs.declared.form.Form.TheVariants as form
use Rattle.entrytext.specs.declared.form.Part.{Part}
use Rattle.entrytext.specs.declared.form.Part.TheVariants as part

-- ---- names and words

-- the number of the first ram space of a name, among spaces that are numbered from k on
abbrev pub ram_from : ℕ → Line → List Space → Option ℕ
ram_from k name [] = None
ram_from k name (s ∷ spaces) =
    if same_kind Ram s.kind && bytes_eq s.name name then Some k else ram_from (suc k) name spaces

abbrev pub ram_named : Line → List Space → Option ℕ
ram_named name spaces = ram_from 0 name spaces

-- what `0x` and 1 to 32 hexadecimal digits of either case write
abbrev pub word_of : Line → Option ℕ
word_of (first ∷ second ∷ digits) = if first == 48 && second == 120 then number_of 16 32 digits else None
word_of _ = None

-- ---- `entry 1`

abbrev pub entry_form : List Line → Form
entry_form (version ∷ []) = if bytes_eq version (codes "1") then form.Entry else form.Nothing
entry_form _ = form.Nothing

-- ---- `ans HEX`

abbrev pub answer_made : Option ℕ → Form
answer_made None = form.Nothing
answer_made (Some word) = form.Answer word

abbrev pub answer_form : List Line → Form
answer_form (word ∷ []) = answer_made (word_of word)
answer_form _ = form.Nothing

-- ---- `end`

abbrev pub end_form : List Line → Form
end_form [] = form.End
end_form (part ∷ parts) = form.Nothing

-- ---- lines of bytes

abbrev pub line_made : Option ℕ → Option ℕ → Option (List ℕ) → Option BytesLine
line_made space None bytes = None
line_made space (Some offset) None = None
line_made space (Some offset) (Some bytes) = Some (record { space = space; offset = offset; bytes = bytes })

-- `HEX PAIRS`
abbrev pub line_of : ℕ → List Line → Option BytesLine
line_of space (offset ∷ pairs ∷ []) = line_made (Some space) (hexadecimal_of offset) (bytes_of pairs)
line_of space _ = None

-- `SPACE:HEX` and PAIRS
abbrev pub named_by : List Space → List Line → Line → Option BytesLine
named_by spaces (name ∷ offset ∷ []) pairs =
    if is_name name then line_made (ram_named name spaces) (hexadecimal_of offset) (bytes_of pairs) else None
named_by spaces _ pairs = None

-- `SPACE:HEX PAIRS`; 58 is the colon
abbrev pub named_line_of : List Space → List Line → Option BytesLine
named_line_of spaces (place ∷ pairs ∷ []) = named_by spaces (parts_of 58 place) pairs
named_line_of spaces _ = None

abbrev pub state_made : Option BytesLine → Form
state_made None = form.Nothing
state_made (Some line) = form.State line

abbrev pub hidden_made : Option BytesLine → Form
hidden_made None = form.Nothing
hidden_made (Some line) = form.Hidden line

abbrev pub part_made : Part → Option BytesLine → Form
part_made p None = form.Nothing
part_made p (Some line) = form.Answered p line

-- `areg HEX PAIRS`, `amem SPACE:HEX PAIRS` and `ahid HEX PAIRS`
abbrev pub part_form : Listing → Line → List Line → Form
part_form l word parts =
    if bytes_eq word (codes "areg") then part_made part.Registers (line_of (register_space l) parts)
    else (if bytes_eq word (codes "amem") then part_made part.Memory (named_line_of l.spaces parts)
    else (if bytes_eq word (codes "ahid") then part_made part.Hidden (line_of (first_ram l) parts) else form.Nothing))

-- `reg HEX PAIRS`, `uni HEX PAIRS`, `mem SPACE:HEX PAIRS` and `hid HEX PAIRS`
abbrev pub state_form : Listing → Line → List Line → Form
state_form l word parts = if bytes_eq word (codes "reg") then state_made (line_of (register_space l) parts)
    else (if bytes_eq word (codes "uni") then state_made (line_of (unique_space l) parts)
    else (if bytes_eq word (codes "mem") then state_made (named_line_of l.spaces parts)
    else (if bytes_eq word (codes "hid") then hidden_made (line_of (first_ram l) parts)
    else part_form l word parts)))

-- ---- a line, by its first part

abbrev pub form_by : Listing → List Line → Form
form_by l [] = form.Nothing
form_by l (word ∷ parts) = if bytes_eq word (codes "entry") then entry_form parts
    else (if bytes_eq word (codes "ans") then answer_form parts
    else (if bytes_eq word (codes "end") then end_form parts
    else state_form l word parts))

abbrev pub form_of : Listing → Line → Form
form_of l line = form_by l (parts_of 32 line)
