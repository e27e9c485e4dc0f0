-- What a variable of a run holds is a word of its width.
use Rattle.std.specs.Prelude.{◌≡◌, ℕ, ◌<◌, Some}
use Rattle.bits_core.specs.Value.{limit}
use Rattle.pcode_model.specs.declared.listing.Listing.{Listing}
use Rattle.pcode_model.specs.World.{Entry, IsEntry}
use Rattle.opgraph.specs.Graph.{op_at}
use Rattle.ssa_model.specs.declared.form.Parts.{Parts}
use Rattle.ssa_model.specs.Outline.{width_at}
use Rattle.ssa_laws.specs.Law.{state_after}

-- From an entry of the listing, at each state, whatever a value holds is a word of the value's width: an entry value, a
-- MULTIEQUAL, a load, an answer, what a call has left, or what an op computes.
abbrev pub ValuesAreWords : Listing → Parts → Type 0
ValuesAreWords l p =
    (e : Entry)
    → IsEntry l e
    → (n v m : ℕ)
    → (state_after l p e n).local.env v ≡ Some m
    → m < limit (width_at (op_at p.graph) v)
