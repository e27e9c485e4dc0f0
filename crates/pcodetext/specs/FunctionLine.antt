-- The lines `func` and `callee`, which name a function: their form, their faults and what they say.
use Rattle.std.specs.List.{list_any}
use Rattle.std.specs.Option.{is_none, is_some}
use Rattle.std.specs.Prelude.{Bool, List, None, Option, Some, [], codes, false, if◌then◌else◌, length, map, nat_le, not, true, ℕ, ◌&&◌, ◌++◌, ◌==◌, ◌||◌, ◌∷◌}
use Rattle.std.specs.Str.{bytes_eq}
use Rattle.listing_lines.specs.Text.{Line}
use Rattle.listing_lines.specs.Tokens.{is_name}
use Rattle.pcode_model.specs.Spaces.{number_of}
use Rattle.pcode_model.specs.declared.listing.Function.{Function}
use Rattle.pcode_model.specs.declared.listing.Proto.{Proto}
use Rattle.pcode_model.specs.declared.listing.Space.{Space}
use Rattle.pcode_model.specs.declared.listing.SpaceKind.TheVariants.{Ram}
use Rattle.pcodetext.specs.Checks.{is_unknown, leaves_known, of_some}
use Rattle.pcodetext.specs.Tables.{place_in, proto_name}
use Rattle.pcodetext.specs.Written.{place_of}
use Rattle.pcodetext.specs.declared.fault.Why.TheVariants as why
use Rattle.pcodetext.specs.declared.fault.Why.{Why}
use Rattle.pcodetext.specs.declared.function_line.FunctionLine.{FunctionLine}
use Rattle.pcodetext.specs.declared.line_kinds.Form.TheVariants as form
use Rattle.pcodetext.specs.declared.line_kinds.Form.{Form}
use Rattle.pcodetext.specs.declared.partial_listing.PartialListing.{PartialListing}
use Rattle.pcodetext.specs.declared.written.Named.TheVariants as named
use Rattle.pcodetext.specs.declared.written.Named.{Named}

-- ---- `func NAME SPACE:HEX PROTO`, and `callee` with `noreturn` after it in version 2

abbrev pub function_made : List Proto → Line → Line → Option (Named × ℕ) → Option Bool → Option FunctionLine
function_made protos name proto (Some place) (Some returns) = if is_name name && is_name proto
    then Some
    (record {
      name = name;
      space = place.0;
      address = place.1;
      proto = place_in proto (map proto_name protos);
      returns = returns;
    })
    else None
function_made protos name proto _ _ = None

abbrev pub func_made : Option FunctionLine → Form
func_made None = form.Nothing
func_made (Some line) = form.Func line

abbrev pub func_form : List Space → List Proto → List Line → Form
func_form spaces protos (name ∷ place ∷ proto ∷ []) =
    func_made (function_made protos name proto (place_of spaces place) (Some true))
func_form spaces protos _ = form.Nothing

abbrev pub returns_by : Bool → List Line → Option Bool
returns_by two [] = Some true
returns_by two (word ∷ []) = if two && bytes_eq word (codes "noreturn") then Some false else None
returns_by two (word ∷ more ∷ parts) = None

abbrev pub callee_made : Option FunctionLine → Form
callee_made None = form.Nothing
callee_made (Some line) = form.Callee line

abbrev pub callee_form : Bool → List Space → List Proto → List Line → Form
callee_form two spaces protos (name ∷ place ∷ proto ∷ parts) =
    callee_made (function_made protos name proto (place_of spaces place) (returns_by two parts))
callee_form two spaces protos _ = form.Nothing

-- ---- their faults

abbrev pub is_first_ram : List Space → Named → Bool
is_first_ram spaces (named.Space n) = number_of Ram spaces == n
is_first_ram spaces named.Stack = false
is_first_ram spaces named.Unknown = false

-- the name or the address of a function
abbrev pub is_taken_by : List Space → FunctionLine → Function → Bool
is_taken_by spaces l f = bytes_eq f.name l.name || (is_first_ram spaces l.space && f.address == l.address)

abbrev pub is_taken : PartialListing → FunctionLine → Bool
is_taken s l = of_some (is_taken_by s.spaces l) s.func || list_any (is_taken_by s.spaces l) s.callees

abbrev pub is_misplaced : List Space → FunctionLine → Bool
is_misplaced spaces l = not (is_first_ram spaces l.space) || leaves_known spaces l.space l.address 1

abbrev pub func_faults : PartialListing → FunctionLine → List (Bool × Why)
func_faults s l = (length s.protos == 0 || is_some s.func, why.Order)
    ∷ (is_none l.proto || is_unknown l.space, why.Unknown)
    ∷ (is_taken s l, why.Duplicate)
    ∷ (is_misplaced s.spaces l, why.Range) ∷ []

abbrev pub callee_faults : PartialListing → FunctionLine → List (Bool × Why)
callee_faults s l = ((is_none s.func || not (length s.fixed == 0)) || is_some s.last, why.Order)
    ∷ (is_none l.proto || is_unknown l.space, why.Unknown)
    ∷ (is_taken s l, why.Duplicate)
    ∷ (nat_le 1024 (length s.callees) || is_misplaced s.spaces l, why.Range) ∷ []

-- ---- what they say

abbrev pub proto_number : Option ℕ → ℕ
proto_number None = 0
proto_number (Some n) = n

abbrev pub function_of : FunctionLine → Function
function_of l = record { name = l.name; address = l.address; proto = proto_number l.proto; returns = l.returns }

abbrev pub after_func : PartialListing → FunctionLine → PartialListing
after_func s l = record s { func = Some (function_of l) }

abbrev pub after_callee : PartialListing → FunctionLine → PartialListing
after_callee s l = record s { callees = s.callees ++ function_of l ∷ [] }
