-- What a comparison of two traces says. This project's own.
use Rattle.std.specs.Prelude.{ℕ, List, codes, Option, Some, None}
use Rattle.machine.specs.Trace.{End, Outside, Trace}
use Rattle.machine.specs.TwoWay.{IsLooseFront}
use Rattle.comparison.specs.declared.fronts.Comparison.{Comparison}
use Rattle.comparison.specs.declared.fronts.Comparison.TheVariants as comparison

-- an end Outside is left away
abbrev pub left_away : Option End → Option End
left_away (Some Outside) = None
left_away o = o

abbrev pub within : Trace → Trace
within t = record { events = t.events; over = left_away t.over }

-- which of both is a front of the other, p or c
abbrev pub Says : Trace → Trace → Comparison → Type 0
Says p c comparison.Equal = IsLooseFront p c × IsLooseFront c p
Says p c comparison.PInC = IsLooseFront p c × (IsLooseFront c p → ⊥)
Says p c comparison.CInP = (IsLooseFront p c → ⊥) × IsLooseFront c p
Says p c comparison.Apart = (IsLooseFront p c → ⊥) × (IsLooseFront c p → ⊥)

abbrev pub comparison_text : Comparison → List ℕ
comparison_text comparison.Equal = codes "both: equal\n"
comparison_text comparison.PInC = codes "both: p in c\n"
comparison_text comparison.CInP = codes "both: c in p\n"
comparison_text comparison.Apart = codes "both: apart\n"
