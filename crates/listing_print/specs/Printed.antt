-- The canonical text of a listing: no skipped lines, lower case, no leading zeros, LF alone. This project's own.
use Rattle.std.specs.Prelude.{ℕ, ◌/◌, ◌%◌, ◌==◌, Bool, true, false, List, [], ◌∷◌, ◌++◌, map, codes, decimal, Option, Some, None, if◌then◌else◌, slice_get}
use Rattle.std.specs.Fmt.{digit_glyph, digits}
use Rattle.listing_lines.specs.Text.{Line}
use Rattle.pcode_model.specs.declared.listing.Fixed.{Fixed}
use Rattle.pcode_model.specs.declared.listing.Function.{Function}
use Rattle.pcode_model.specs.declared.listing.Instruction.{Instruction}
use Rattle.pcode_model.specs.declared.listing.Listing.{Listing}
use Rattle.pcode_model.specs.declared.listing.Op.{Op}
use Rattle.pcode_model.specs.declared.listing.Proto.{Proto}
use Rattle.pcode_model.specs.declared.listing.Space.{Space}
use Rattle.pcode_model.specs.declared.listing.SpaceKind.{SpaceKind}
use Rattle.pcode_model.specs.declared.listing.SpaceKind.TheVariants as kind
use Rattle.pcode_model.specs.declared.listing.Storage.{Storage}
use Rattle.pcode_model.specs.declared.listing.Storage.TheVariants as storage
use Rattle.pcode_model.specs.declared.listing.Varnode.{Varnode}
use Rattle.pcode_model.specs.Spaces.{number_of}
use Rattle.operations.specs.Words.{word_of}

-- ---- parts

-- parts, each after a space
abbrev pub spaced : List Line → Line
spaced [] = []
spaced (part ∷ parts) = 32 ∷ part ++ spaced parts

abbrev pub hexadecimal : ℕ → Line
hexadecimal n = codes "0x" ++ digits 16 false n

abbrev pub space_name : Option Space → Line
space_name None = []
space_name (Some s) = s.name

abbrev pub name_of : List Space → ℕ → Line
name_of spaces n = space_name (slice_get spaces n)

-- `NAME:HEX`
abbrev pub place_part : Line → ℕ → Line
place_part name offset = name ++ codes ":0x" ++ digits 16 false offset

-- `NAME:HEX:SIZE`
abbrev pub sized_part : Line → ℕ → ℕ → Line
sized_part name offset size = name ++ codes ":0x" ++ digits 16 false offset ++ codes ":" ++ decimal size

abbrev pub range_part : List Space → Varnode → Line
range_part spaces v = sized_part (name_of spaces v.space) v.offset v.size

abbrev pub storage_part : List Space → Storage → Line
storage_part spaces (storage.At v) = range_part spaces v
storage_part spaces (storage.Stack offset size) = sized_part (codes "stack") offset size

abbrev pub result_part : List Space → Option Varnode → Line
result_part spaces None = codes "none"
result_part spaces (Some v) = range_part spaces v

abbrev pub kind_word : SpaceKind → Line
kind_word kind.Constant = codes "const"
kind_word kind.Ram = codes "ram"
kind_word kind.Register = codes "register"
kind_word kind.Unique = codes "unique"

abbrev pub order_word : Bool → Line
order_word true = codes "be"
order_word false = codes "le"

abbrev pub proto_name : Option Proto → Line
proto_name None = []
proto_name (Some p) = p.name

-- two digits a byte, the high one first
abbrev pub pairs : List ℕ → Line
pairs [] = []
pairs (b ∷ bytes) = digit_glyph false (b / 16) ∷ digit_glyph false (b % 16) ∷ pairs bytes

-- ---- lines

abbrev pub version_line : ℕ → Line
version_line version = codes "pcode" ++ spaced (decimal version ∷ [])

-- the bytes of a word stand in version 2 alone
abbrev pub word_parts : ℕ → Space → List Line
word_parts version s = if version == 2 then decimal s.word ∷ [] else []

abbrev pub space_line : ℕ → Space → Line
space_line version s = codes "space" ++ spaced (s.name ∷ kind_word s.kind ∷ decimal s.size ∷ order_word s.big ∷ []) ++ spaced (word_parts version s)

abbrev pub stack_line : List Space → Varnode → Line
stack_line spaces v = codes "stack" ++ spaced (range_part spaces v ∷ [])

abbrev pub proto_front : List Space → Proto → Line
proto_front spaces p = codes "proto" ++ spaced (p.name ∷ codes "args" ∷ []) ++ spaced (map (storage_part spaces) p.args)

abbrev pub proto_back : List Space → Proto → Line
proto_back spaces p = spaced (codes "result" ∷ result_part spaces p.gives ∷ codes "pop" ∷ hexadecimal p.pop ∷ codes "keep" ∷ []) ++ spaced (map (range_part spaces) p.keep)

abbrev pub proto_line : List Space → Proto → Line
proto_line spaces p = proto_front spaces p ++ proto_back spaces p

abbrev pub returns_parts : Bool → List Line
returns_parts true = []
returns_parts false = codes "noreturn" ∷ []

abbrev pub function_line : Line → List Space → List Proto → Function → Line
function_line word spaces protos f = word ++ spaced (f.name ∷ place_part (name_of spaces (number_of kind.Ram spaces)) f.address ∷ proto_name (slice_get protos f.proto) ∷ [])
    ++ spaced (returns_parts f.returns)

abbrev pub bytes_line : List Space → Fixed → Line
bytes_line spaces f = codes "bytes" ++ spaced (place_part (name_of spaces f.space) f.offset ∷ pairs f.bytes ∷ [])

abbrev pub at_line : Instruction → Line
at_line i = codes "at" ++ spaced (hexadecimal i.address ∷ decimal i.length ∷ [])

abbrev pub output_parts : List Space → Option Varnode → List Line
output_parts spaces None = []
output_parts spaces (Some v) = range_part spaces v ∷ codes "=" ∷ []

-- after two spaces
abbrev pub op_line : List Space → Op → Line
op_line spaces op = codes " " ++ spaced (output_parts spaces op.out) ++ spaced (word_of op.code ∷ []) ++ spaced (map (range_part spaces) op.inputs)

-- ---- the text

-- lines, each ended by LF, which is 10
abbrev pub ended : List Line → List ℕ
ended [] = []
ended (line ∷ lines) = line ++ 10 ∷ ended lines

abbrev pub stack_lines : List Space → Option Varnode → List Line
stack_lines spaces None = []
stack_lines spaces (Some v) = stack_line spaces v ∷ []

abbrev pub code_text : List Space → List Instruction → List ℕ
code_text spaces [] = []
code_text spaces (i ∷ code) = ended (at_line i ∷ []) ++ ended (map (op_line spaces) i.ops) ++ code_text spaces code

-- space 0 isn't declared
abbrev pub declared : List Space → List Space
declared [] = []
declared (constant ∷ spaces) = spaces

abbrev pub header_text : Listing → List ℕ
header_text l = ended (version_line l.version ∷ []) ++ ended (map (space_line l.version) (declared l.spaces)) ++ ended (stack_lines l.spaces l.stack)
    ++ ended (map (proto_line l.spaces) l.protos) ++ ended (function_line (codes "func") l.spaces l.protos l.func ∷ [])
    ++ ended (map (function_line (codes "callee") l.spaces l.protos) l.callees)

abbrev pub body_text : Listing → List ℕ
body_text l = ended (map (bytes_line l.spaces) l.fixed) ++ code_text l.spaces l.code ++ ended (codes "end" ∷ [])

abbrev pub text_of : Listing → List ℕ
text_of l = header_text l ++ body_text l
