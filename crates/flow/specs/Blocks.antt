-- What the steps that make blocks do.
use Rattle.std.specs.Prelude.{◌≡◌, ℕ, suc, ◌<◌, Bool, List, [], ◌∷◌, ◌++◌, length, slice_get, Option, Some, None}
use Rattle.pcode_model.specs.declared.listing.Place.{Place}
use Rattle.pcode_model.specs.declared.listing.Listing.{Listing}
use Rattle.pcode_model.specs.declared.flow.Turn.{Turn}
use Rattle.pcode_model.specs.declared.flow.Turn.TheVariants as T
use Rattle.pcode_model.specs.declared.flow.Exit.{Exit}
use Rattle.pcode_model.specs.declared.flow.Exit.TheVariants.{Return, Jump, Test, Stop}
use Rattle.pcode_model.specs.declared.flow.Block.{Block}
use Rattle.pcode_model.specs.Flow.{IsIn, GoesOnTo, Leaves}
use Rattle.flow.specs.declared.edges.Edge.{Edge}
use Rattle.flow.specs.declared.edges.Edge.TheVariants.{To, Faulty}
use Rattle.flow.specs.Slots.{at, Marked}

-- the place goes to the pending block, which ends where there is an exit
abbrev pub Passed : List Block → List Place → Place → Option Exit → List Block → List Place → Type 0
Passed blocks pending p None blocks' pending' = (blocks' ≡ blocks) × (pending' ≡ pending ++ p ∷ [])
Passed blocks pending p (Some e) blocks' pending' =
    (blocks' ≡ blocks ++ record { places = pending ++ p ∷ []; exit = e } ∷ []) × (pending' ≡ [])

-- the exit where a block ends, or that the run goes on to the next slot
abbrev pub ExitOf : Listing → List Place → List Place → ℕ → Option Exit → Type 0
ExitOf l starts ps s None = (suc s < length ps) × GoesOnTo l starts (at ps s) (at ps (suc s))
ExitOf l starts ps s (Some e) = Leaves l [] starts (at ps s) e

abbrev pub EndsBy : Turn → Exit → Type 0
EndsBy T.Returns e = e ≡ Return
EndsBy t e = e ≡ Stop

-- the edge's place is among the starts
abbrev pub EdgeStarts : List Place → List Place → Edge → Type 0
EdgeStarts ps starts (To s) = IsIn (at ps s) starts
EdgeStarts ps starts (Faulty why) = Unit {0}

abbrev pub EdgeMarked : List Bool → Edge → Type 0
EdgeMarked flags (To s) = Marked flags s
EdgeMarked flags (Faulty why) = ⊥

abbrev pub JumpOf : List Place → List Place → Edge → Option Exit → Type 0
JumpOf ps starts (To s) r = (n : ℕ) × ((r ≡ Some (Jump n)) × (slice_get starts n ≡ Some (at ps s)))
JumpOf ps starts (Faulty why) r = r ≡ None

abbrev pub TestOf : List Place → List Place → Edge → Edge → Option Exit → Type 0
TestOf ps starts (To s) (To t) r =
    (m : ℕ)
    × ((n : ℕ)
    × ((r ≡ Some (Test m n)) × ((slice_get starts m ≡ Some (at ps s)) × (slice_get starts n ≡ Some (at ps t)))))
TestOf ps starts (To s) (Faulty why) r = r ≡ None
TestOf ps starts (Faulty why) f r = r ≡ None
