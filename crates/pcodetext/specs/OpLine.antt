-- The line of an op: its form, its faults and what it says.
use Rattle.std.specs.List.{list_any}
use Rattle.std.specs.Option.{is_none, option_map}
use Rattle.std.specs.Prelude.{Bool, List, None, Option, Some, [], codes, if◌then◌else◌, length, map, nat_le, ◌++◌, ◌+◌, ◌==◌, ◌||◌, ◌∷◌}
use Rattle.std.specs.Str.{bytes_eq}
use Rattle.listing_lines.specs.Text.{Line}
use Rattle.listing_lines.specs.Tokens.{is_name}
use Rattle.pcode_model.specs.declared.listing.Instruction.{Instruction}
use Rattle.pcode_model.specs.declared.listing.Space.{Space}
use Rattle.pcode_model.specs.declared.opcode.Opcode.{Opcode}
use Rattle.operations.specs.Operations.{opcode_of}
use Rattle.pcodetext.specs.Checks.{is_empty, of_some, of_unknown}
use Rattle.pcodetext.specs.Convert.{varnode}
use Rattle.pcodetext.specs.Written.{range_of, ranges_of}
use Rattle.pcodetext.specs.declared.fault.Why.TheVariants as why
use Rattle.pcodetext.specs.declared.fault.Why.{Why}
use Rattle.pcodetext.specs.declared.line_kinds.Form.TheVariants as form
use Rattle.pcodetext.specs.declared.line_kinds.Form.{Form}
use Rattle.pcodetext.specs.declared.op_line.OpLine.{OpLine}
use Rattle.pcodetext.specs.declared.partial_listing.PartialListing.{PartialListing}
use Rattle.pcodetext.specs.declared.written.Written.{Written}

-- ---- `  VN = OPCODE VN*` or `  OPCODE VN*`

abbrev pub op_made : Option Written → Line → Option (List Written) → Form
op_made out code None = form.Nothing
op_made out code (Some inputs) =
    if is_name code then form.Op (record { out = out; code = opcode_of code; inputs = inputs }) else form.Nothing

abbrev pub op_assigned : List Space → Option Written → List Line → Form
op_assigned spaces (Some out) (code ∷ parts) = op_made (Some out) code (ranges_of spaces parts)
op_assigned spaces (Some out) [] = form.Nothing
op_assigned spaces None parts = form.Nothing

abbrev pub op_by : List Space → Line → List Line → Form
op_by spaces first [] = op_made None first (ranges_of spaces [])
op_by spaces first (second ∷ parts) =
    if bytes_eq second (codes "=") then op_assigned spaces (range_of spaces first) parts
    else op_made None first (ranges_of spaces (second ∷ parts))

-- the first of the two spaces is before these parts, and the second after an empty one
abbrev pub op_form : List Space → List Line → Form
op_form spaces (blank ∷ first ∷ parts) = if length blank == 0 then op_by spaces first parts else form.Nothing
op_form spaces _ = form.Nothing

-- ---- its faults

abbrev pub op_faults : PartialListing → OpLine → List (Bool × Why)
op_faults s l = (is_none s.last || s.ended, why.Order)
    ∷ ((is_none l.code || of_some of_unknown l.out) || list_any of_unknown l.inputs, why.Unknown)
    ∷ (nat_le 16384 s.ops, why.Range)
    ∷ (of_some is_empty l.out || list_any is_empty l.inputs, why.Range) ∷ []

-- ---- what it says

abbrev pub with_op : OpLine → Option Opcode → Option Instruction → Option Instruction
with_op l None last = last
with_op l (Some code) None = None
with_op l (Some code) (Some i) =
    Some (record i
    { ops = i.ops ++ record { code = code; out = option_map varnode l.out; inputs = map varnode l.inputs } ∷ [] })

abbrev pub after_op : PartialListing → OpLine → PartialListing
after_op s l = record s { last = with_op l l.code s.last; ops = s.ops + 1 }
