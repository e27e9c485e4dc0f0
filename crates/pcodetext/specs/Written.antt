-- Ranges and places as they are written, in which a space stands by its name.
use Rattle.std.specs.Prelude.{ℕ, List, [], ◌∷◌, map, codes, Option, Some, None, if◌then◌else◌}
use Rattle.std.specs.Option.{option_map}
use Rattle.std.specs.Str.{bytes_eq}
use Rattle.listing_lines.specs.Text.{Line, parts_of}
use Rattle.listing_lines.specs.Tokens.{decimal_of, hexadecimal_of, is_name}
use Rattle.pcode_model.specs.declared.listing.Space.{Space}
use Rattle.pcodetext.specs.Tables.{place_in, space_name}
use Rattle.pcodetext.specs.declared.written.Named.{Named}
use Rattle.pcodetext.specs.declared.written.Named.TheVariants as named
use Rattle.pcodetext.specs.declared.written.Written.{Written}

abbrev pub numbered : Option ℕ → Named
numbered None = named.Unknown
numbered (Some n) = named.Space n

-- what a name stands for; no space is named `stack`
abbrev pub named_by : List Space → Line → Named
named_by spaces name =
    if bytes_eq name (codes "stack") then named.Stack else numbered (place_in name (map space_name spaces))

abbrev pub written : Named → Option ℕ → Option ℕ → Option Written
written space None size = None
written space (Some offset) None = None
written space (Some offset) (Some size) = Some (record { space = space; offset = offset; size = size })

-- NAME, HEX and SIZE
abbrev pub range_by : List Space → List Line → Option Written
range_by spaces (name ∷ offset ∷ size ∷ []) =
    if is_name name then written (named_by spaces name) (hexadecimal_of offset) (decimal_of size) else None
range_by spaces _ = None

-- `NAME:HEX:SIZE`; 58 is the colon
abbrev pub range_of : List Space → Line → Option Written
range_of spaces part = range_by spaces (parts_of 58 part)

abbrev pub placed : Named → Option ℕ → Option (Named × ℕ)
placed space None = None
placed space (Some offset) = Some (space, offset)

abbrev pub place_by : List Space → List Line → Option (Named × ℕ)
place_by spaces (name ∷ offset ∷ []) =
    if is_name name then placed (named_by spaces name) (hexadecimal_of offset) else None
place_by spaces _ = None

-- `NAME:HEX`
abbrev pub place_of : List Space → Line → Option (Named × ℕ)
place_of spaces part = place_by spaces (parts_of 58 part)

abbrev pub with_first : Option Written → Option (List Written) → Option (List Written)
with_first None more = None
with_first (Some w) None = None
with_first (Some w) (Some more) = Some (w ∷ more)

-- ranges, one a part
abbrev pub ranges_of : List Space → List Line → Option (List Written)
ranges_of spaces [] = Some []
ranges_of spaces (part ∷ parts) = with_first (range_of spaces part) (ranges_of spaces parts)

abbrev pub before : Option Written → Option (List Written × List Line) → Option (List Written × List Line)
before None more = None
before (Some w) None = None
before (Some w) (Some more) = Some (w ∷ more.0, more.1)

-- ranges up to a word, and the parts after it
abbrev pub ranges_until : Line → List Space → List Line → Option (List Written × List Line)
ranges_until word spaces [] = None
ranges_until word spaces (part ∷ parts) =
    if bytes_eq part word then Some ([], parts) else before (range_of spaces part) (ranges_until word spaces parts)

-- a range, or `none`
abbrev pub range_or_none : List Space → Line → Option (Option Written)
range_or_none spaces part = if bytes_eq part (codes "none") then Some None else option_map Some (range_of spaces part)
