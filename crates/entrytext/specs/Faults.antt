-- The faults of a line, after lines that have said so. This project's own.
use Rattle.std.specs.Prelude.{◌||◌, not, ℕ, Bool, true, false, List, [], ◌∷◌, length, Option, Some, None}
use Rattle.std.specs.Option.{is_none, is_some}
use Rattle.pcode_model.specs.declared.listing.Listing.{Listing}
use Rattle.pcode_model.specs.Ranges.{leaves}
use Rattle.pcode_model.specs.Spaces.{any_at, is_fixed, size_of}
use Rattle.entrytext.specs.declared.fault.Why.{Why}
use Rattle.entrytext.specs.declared.fault.Why.TheVariants as why
use Rattle.entrytext.specs.declared.form.Form.{Form}
use Rattle.entrytext.specs.declared.form.Form.TheVariants as form
use Rattle.entrytext.specs.declared.partial_entry.PartialEntry.{PartialEntry}

-- no line but `entry 1` may stand before the first one, and none after `end`
abbrev pub is_out : PartialEntry → Bool
is_out s = not s.begun || s.ended

-- bytes that leave their space
abbrev pub leaves_known : Listing → Option ℕ → ℕ → ℕ → Bool
leaves_known l None offset size = false
leaves_known l (Some n) offset size = leaves l.spaces n offset size

-- one of the bytes is read-only
abbrev pub is_read_only : Listing → Option ℕ → ℕ → ℕ → Bool
is_read_only l None offset size = false
is_read_only l (Some n) offset size = any_at (size_of l n) (is_fixed l n) offset size

-- ---- the faults, each with its test, in the order in which they count

abbrev pub faults : Listing → PartialEntry → Form → List (Bool × Why)
faults l s form.Nothing = (true, why.Syntax) ∷ []
faults l s form.Entry = (s.begun, why.Order) ∷ []
faults l s (form.State b) = (is_out s || is_some s.last, why.Order)
    ∷ (is_none b.space, why.Range)
    ∷ (leaves_known l b.space b.offset (length b.bytes), why.Range)
    ∷ (is_read_only l b.space b.offset (length b.bytes), why.Range) ∷ []
faults l s (form.Hidden b) = (is_out s || is_some s.last, why.Order)
    ∷ (is_none b.space, why.Range)
    ∷ (leaves_known l b.space b.offset (length b.bytes), why.Range) ∷ []
faults l s (form.Answer word) = (is_out s, why.Order) ∷ []
faults l s (form.Answered p b) = (is_out s || is_none s.last, why.Order)
    ∷ (is_none b.space, why.Range)
    ∷ (leaves_known l b.space b.offset (length b.bytes), why.Range) ∷ []
faults l s form.End = (is_out s, why.Order) ∷ []
