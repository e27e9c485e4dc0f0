-- Every kind of line: a line by its form, the faults of each after lines that have said so, and what one without a fault
-- says. Which name stands for which space and prototype is known from the lines before.
use Rattle.std.specs.Prelude.{Bool, List, None, Option, Some, [], codes, false, if◌then◌else◌, length, true, ℕ, ◌==◌, ◌∷◌}
use Rattle.std.specs.Str.{bytes_eq}
use Rattle.listing_lines.specs.Text.{Line, parts_of}
use Rattle.pcodetext.specs.AtLine.{after_at, at_faults, at_form}
use Rattle.pcodetext.specs.BytesLine.{after_bytes, bytes_faults, bytes_form}
use Rattle.pcodetext.specs.EndLine.{after_end, end_faults, end_form}
use Rattle.pcodetext.specs.FunctionLine.{after_callee, after_func, callee_faults, callee_form, func_faults, func_form}
use Rattle.pcodetext.specs.OpLine.{after_op, op_faults, op_form}
use Rattle.pcodetext.specs.PcodeLine.{after_pcode, pcode_faults, pcode_form}
use Rattle.pcodetext.specs.ProtoLine.{after_proto, proto_faults, proto_form}
use Rattle.pcodetext.specs.SpaceLine.{after_space, space_faults, space_form}
use Rattle.pcodetext.specs.StackLine.{after_stack, stack_faults, stack_form}
use Rattle.pcodetext.specs.declared.fault.Why.TheVariants as why
use Rattle.pcodetext.specs.declared.fault.Why.{Why}
use Rattle.pcodetext.specs.declared.line_kinds.Form.TheVariants as form
use Rattle.pcodetext.specs.declared.line_kinds.Form.{Form}
use Rattle.pcodetext.specs.declared.partial_listing.PartialListing.{PartialListing}

-- the forms are those of version 1 where no version is known yet
abbrev pub is_two : Option ℕ → Bool
is_two None = false
is_two (Some version) = version == 2

-- ---- a line by its first part

abbrev pub head_form : PartialListing → Line → List Line → Form
head_form s word parts = if bytes_eq word (codes "pcode") then pcode_form parts
    else (if bytes_eq word (codes "space") then space_form (is_two s.version) parts
    else (if bytes_eq word (codes "stack") then stack_form s.spaces parts
    else (if bytes_eq word (codes "proto") then proto_form s.spaces parts
    else (if bytes_eq word (codes "func") then func_form s.spaces s.protos parts
    else (if bytes_eq word (codes "end") then end_form parts else form.Nothing)))))

abbrev pub form_by : PartialListing → List Line → Form
form_by s [] = form.Nothing
form_by s (word ∷ parts) = if length word == 0 then op_form s.spaces parts
    else (if bytes_eq word (codes "at") then at_form parts
    else (if bytes_eq word (codes "bytes") then bytes_form s.spaces parts
    else (if bytes_eq word (codes "callee") then callee_form (is_two s.version) s.spaces s.protos parts
    else head_form s word parts)))

-- the form of a line after lines that have said so
abbrev pub form_of : PartialListing → Line → Form
form_of s line = form_by s (parts_of 32 line)

-- ---- the faults, each with its test, in the order in which they count

abbrev pub faults : PartialListing → Form → List (Bool × Why)
faults s form.Nothing = (true, why.Syntax) ∷ []
faults s (form.Pcode version) = pcode_faults s version
faults s (form.Space l) = space_faults s l
faults s (form.Stack w) = stack_faults s w
faults s (form.Proto l) = proto_faults s l
faults s (form.Func l) = func_faults s l
faults s (form.Callee l) = callee_faults s l
faults s (form.Bytes l) = bytes_faults s l
faults s (form.At l) = at_faults s l
faults s (form.Op l) = op_faults s l
faults s form.End = end_faults s

-- ---- what a line says

abbrev pub after : PartialListing → Form → PartialListing
after s form.Nothing = s
after s (form.Pcode version) = after_pcode s version
after s (form.Space l) = after_space s l
after s (form.Stack w) = after_stack s w
after s (form.Proto l) = after_proto s l
after s (form.Func l) = after_func s l
after s (form.Callee l) = after_callee s l
after s (form.Bytes l) = after_bytes s l
after s (form.At l) = after_at s l
after s (form.Op l) = after_op s l
after s form.End = after_end s
