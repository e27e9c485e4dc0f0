-- What the edges of the code mean: an edge to a slot leads to the place of that number.
use Rattle.std.specs.Prelude.{◌≡◌, ℕ, ◌<◌, ◌≤◌, ◌⊎◌, List, [], ◌∷◌, ◌++◌, length, Option, Some, None}
use Rattle.pcode_model.specs.declared.listing.Place.{Place}
use Rattle.pcode_model.specs.declared.flow.FlowWhy.{FlowWhy}
use Rattle.pcode_model.specs.Flow.{IsIn, Way, Leads, Fails, rank}
use Rattle.flow.specs.declared.edges.Edge.{Edge}
use Rattle.flow.specs.declared.edges.Edge.TheVariants.{To, Faulty}
use Rattle.flow.specs.declared.edges.Leaving.{Leaving}
use Rattle.flow.specs.declared.edges.Leaving.TheVariants.{Ends, One, Two}
use Rattle.flow.specs.Slots.{at}

abbrev pub target_of : Edge → Option ℕ
target_of (To s) = Some s
target_of (Faulty why) = None

abbrev pub fault_of : Edge → Option FlowWhy
fault_of (To s) = None
fault_of (Faulty why) = Some why

abbrev pub Means : List Place → Edge → Way → Type 0
Means ps (To s) w = (s < length ps) × (w ≡ Leads (at ps s))
Means ps (Faulty why) w = w ≡ Fails why

abbrev pub AllMean : List Place → Leaving → List Way → Type 0
AllMean ps Ends ws = ws ≡ []
AllMean ps (One e) ws = (w : Way) × (Means ps e w × (ws ≡ w ∷ []))
AllMean ps (Two e f) ws = (v : Way) × (Means ps e v × ((w : Way) × (Means ps f w × (ws ≡ v ∷ w ∷ []))))

abbrev pub edge_targets : Edge → List ℕ
edge_targets (To s) = s ∷ []
edge_targets (Faulty why) = []

-- the slots that the edges lead to
abbrev pub targets_of : Leaving → List ℕ
targets_of Ends = []
targets_of (One e) = edge_targets e
targets_of (Two e f) = edge_targets e ++ edge_targets f

abbrev pub EdgeInside : ℕ → Edge → Type 0
EdgeInside n (To s) = s < n
EdgeInside n (Faulty why) = Unit {0}

abbrev pub Inside : ℕ → Leaving → Type 0
Inside n Ends = Unit {0}
Inside n (One e) = EdgeInside n e
Inside n (Two e f) = EdgeInside n e × EdgeInside n f

-- of the faults of these ways the one of least rank, or none where there is none
abbrev pub IsLeastFault : List Way → Option FlowWhy → Type 0
IsLeastFault ws None = (why : FlowWhy) → IsIn (Fails why) ws → ⊥
IsLeastFault ws (Some why) = IsIn (Fails why) ws × ((other : FlowWhy) → IsIn (Fails other) ws → rank why ≤ rank other)

-- of two faults, where there are any, the one of lesser rank
abbrev pub IsLesser : Option FlowWhy → Option FlowWhy → Option FlowWhy → Type 0
IsLesser None second r = r ≡ second
IsLesser (Some a) None r = r ≡ Some a
IsLesser (Some a) (Some b) r = ((r ≡ Some a) × (rank a ≤ rank b)) ⊎ ((r ≡ Some b) × (rank b ≤ rank a))
