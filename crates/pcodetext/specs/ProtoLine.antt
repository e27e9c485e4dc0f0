-- The line that declares a prototype: its form, its faults and what it says.
use Rattle.std.specs.List.{list_any}
use Rattle.std.specs.Option.{is_none, is_some, option_map}
use Rattle.std.specs.Prelude.{Bool, List, None, Option, Some, [], codes, false, if◌then◌else◌, length, map, nat_le, nat_lt, not, true, ℕ, ◌&&◌, ◌++◌, ◌==◌, ◌||◌, ◌∷◌}
use Rattle.std.specs.Str.{bytes_eq}
use Rattle.listing_lines.specs.Text.{Line}
use Rattle.listing_lines.specs.Tokens.{hexadecimal_of, is_name}
use Rattle.pcode_model.specs.Ranges.{is_kind, meets}
use Rattle.pcode_model.specs.declared.listing.Proto.{Proto}
use Rattle.pcode_model.specs.declared.listing.Space.{Space}
use Rattle.pcode_model.specs.declared.listing.SpaceKind.TheVariants.{Register}
use Rattle.pcode_model.specs.declared.listing.Storage.TheVariants as storage
use Rattle.pcode_model.specs.declared.listing.Storage.{Storage}
use Rattle.pcode_model.specs.declared.listing.Varnode.{Varnode}
use Rattle.pcodetext.specs.Checks.{is_complete, is_empty, leaves_space, of_some, of_unknown}
use Rattle.pcodetext.specs.Convert.{varnode}
use Rattle.pcodetext.specs.Tables.{place_in, proto_name}
use Rattle.pcodetext.specs.Written.{range_or_none, ranges_of, ranges_until}
use Rattle.pcodetext.specs.declared.fault.Why.TheVariants as why
use Rattle.pcodetext.specs.declared.fault.Why.{Why}
use Rattle.pcodetext.specs.declared.line_kinds.Form.TheVariants as form
use Rattle.pcodetext.specs.declared.line_kinds.Form.{Form}
use Rattle.pcodetext.specs.declared.partial_listing.PartialListing.{PartialListing}
use Rattle.pcodetext.specs.declared.proto_line.ProtoLine.{ProtoLine}
use Rattle.pcodetext.specs.declared.written.Named.TheVariants as named
use Rattle.pcodetext.specs.declared.written.Named.{Named}
use Rattle.pcodetext.specs.declared.written.Written.{Written}

-- ---- `proto NAME args STORE* result VN|none pop HEX keep VN*`

abbrev pub proto_made : Line → List Written → Option (Option Written) → Option ℕ → Option (List Written) → Form
proto_made name args (Some gives) (Some pop) (Some keep) =
    form.Proto (record { name = name; args = args; gives = gives; pop = pop; keep = keep })
proto_made name args _ _ _ = form.Nothing

abbrev pub proto_rest : List Space → Line → List Written → List Line → Form
proto_rest spaces name args (gives ∷ pop ∷ amount ∷ keep ∷ parts) =
    if bytes_eq pop (codes "pop") && bytes_eq keep (codes "keep")
    then proto_made name args (range_or_none spaces gives) (hexadecimal_of amount) (ranges_of spaces parts) else
    form.Nothing
proto_rest spaces name args _ = form.Nothing

abbrev pub proto_args : List Space → Line → Option (List Written × List Line) → Form
proto_args spaces name None = form.Nothing
proto_args spaces name (Some found) = proto_rest spaces name found.0 found.1

abbrev pub proto_form : List Space → List Line → Form
proto_form spaces (name ∷ args ∷ parts) = if is_name name && bytes_eq args (codes "args")
    then proto_args spaces name (ranges_until (codes "result") spaces parts) else form.Nothing
proto_form spaces _ = form.Nothing

-- ---- the space of a range

-- an argument's space may be `stack`
abbrev pub is_no_argument : Named → Bool
is_no_argument (named.Space n) = false
is_no_argument named.Stack = false
is_no_argument named.Unknown = true

-- a known space that isn't the register space
abbrev pub is_other : List Space → Named → Bool
is_other spaces (named.Space n) = not (is_kind Register spaces n)
is_other spaces named.Stack = false
is_other spaces named.Unknown = false

abbrev pub is_stack : Named → Bool
is_stack (named.Space n) = false
is_stack named.Stack = true
is_stack named.Unknown = false

-- ---- its ranges

abbrev pub of_no_argument : Written → Bool
of_no_argument w = is_no_argument w.space

abbrev pub of_other : List Space → Written → Bool
of_other spaces w = is_other spaces w.space

-- a storage has 1 to 16 bytes
abbrev pub has_bad_size : Written → Bool
has_bad_size w = w.size == 0 || nat_lt 16 w.size

-- a `stack:` storage above offset 0xffff
abbrev pub is_far : Written → Bool
is_far w = is_stack w.space && nat_lt 0xffff w.offset

abbrev pub is_bad_argument : PartialListing → Written → Bool
is_bad_argument s w = (has_bad_size w || leaves_space s.spaces w) || (is_stack w.space && is_none s.stack)

abbrev pub meets_stack : Option Varnode → Written → Bool
meets_stack None w = false
meets_stack (Some stack) w = meets w.offset w.size stack.offset stack.size

abbrev pub meets_result : Option Written → Written → Bool
meets_result None w = false
meets_result (Some gives) w = meets w.offset w.size gives.offset gives.size

abbrev pub is_bad_result : PartialListing → Written → Bool
is_bad_result s w = (has_bad_size w || leaves_space s.spaces w) || meets_stack s.stack w

-- a kept range is no storage, and may be wider than 16 bytes
abbrev pub is_bad_kept : PartialListing → Option Written → Written → Bool
is_bad_kept s gives w = (is_empty w || leaves_space s.spaces w) || (meets_stack s.stack w || meets_result gives w)

-- ---- its faults

abbrev pub is_foreign : List Space → ProtoLine → Bool
is_foreign spaces l =
    (list_any (of_other spaces) l.args || of_some (of_other spaces) l.gives) || list_any (of_other spaces) l.keep

abbrev pub is_unknown_proto : ProtoLine → Bool
is_unknown_proto l = (list_any of_no_argument l.args || of_some of_unknown l.gives) || list_any of_unknown l.keep

abbrev pub is_bad_proto : PartialListing → ProtoLine → Bool
is_bad_proto s l = ((nat_lt 16 (length l.args) || nat_lt 64 (length l.keep)) || list_any (is_bad_argument s) l.args)
    || (of_some (is_bad_result s) l.gives || list_any (is_bad_kept s l.gives) l.keep)

abbrev pub proto_faults : PartialListing → ProtoLine → List (Bool × Why)
proto_faults s l = (is_foreign s.spaces l, why.Syntax)
    ∷ (not (is_complete s.spaces) || is_some s.func, why.Order)
    ∷ (is_unknown_proto l, why.Unknown)
    ∷ (is_some (place_in l.name (map proto_name s.protos)), why.Duplicate)
    ∷ (nat_le 64 (length s.protos), why.Range)
    ∷ (nat_lt 0xffff l.pop, why.Range)
    ∷ (list_any is_far l.args, why.Range)
    ∷ (is_bad_proto s l, why.Range) ∷ []

-- ---- what it says

abbrev pub stored : Written → Named → Storage
stored w (named.Space n) = storage.At (varnode w)
stored w named.Stack = storage.Stack w.offset w.size
stored w named.Unknown = storage.At (varnode w)

abbrev pub storage_of : Written → Storage
storage_of w = stored w w.space

abbrev pub proto_of : ProtoLine → Proto
proto_of l =
    record {
      name = l.name;
      args = map storage_of l.args;
      gives = option_map varnode l.gives;
      pop = l.pop;
      keep = map varnode l.keep;
    }

abbrev pub after_proto : PartialListing → ProtoLine → PartialListing
after_proto s l = record s { protos = s.protos ++ proto_of l ∷ [] }
