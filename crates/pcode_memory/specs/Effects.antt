-- The writes of an answer. This project's own.
use Rattle.std.specs.Prelude.{Bool, true, false, List, [], ◌∷◌, Option, Some, None}
use Rattle.pcode_model.specs.declared.listing.Listing.{Listing}
use Rattle.pcode_model.specs.Memory.{Layout, Whole, conceal, is_framed, poke_whole}
use Rattle.pcode_model.specs.Spaces.{is_fixed}
use Rattle.run_world.specs.declared.entry.Byte.{Byte}
use Rattle.run_world.specs.declared.trace.End.{End}
use Rattle.run_world.specs.declared.trace.End.TheVariants.{Outside, ReadOnlyWrite}

abbrev pub end_by : Bool → Bool → Option End
end_by true fixed = Some Outside
end_by false true = Some ReadOnlyWrite
end_by false false = None

-- the end that a write of an answer meets
abbrev pub refused : Layout → Byte → Option End
refused y b = end_by (is_framed y b.space b.offset) (is_fixed y.listing b.space b.offset)

abbrev pub first_end : Option End → Option End → Option End
first_end None rest = rest
first_end (Some e) rest = Some e

-- the end that the first such write meets
abbrev pub first_refused : Layout → List Byte → Option End
first_refused y [] = None
first_refused y (b ∷ bs) = first_end (refused y b) (first_refused y bs)

-- the memory with each byte written, in order
abbrev pub poked : Listing → List Byte → Whole → Whole
poked l [] w = w
poked l (b ∷ bs) w = poked l bs (poke_whole l b.space b.offset b.value w)

-- the memory with each byte hidden, in order
abbrev pub concealed : Layout → List Byte → Whole → Whole
concealed y [] w = w
concealed y (b ∷ bs) w = concealed y bs (conceal y b.offset b.value w)
