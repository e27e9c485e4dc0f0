-- When each refusal comes.
use Rattle.std.specs.Prelude.{◌≡◌, ℕ, ◌<◌, List, length}
use Rattle.pcode_model.specs.declared.listing.Place.{Place}
use Rattle.pcode_model.specs.declared.listing.Listing.{Listing}
use Rattle.pcode_model.specs.declared.tables.TableAt.{TableAt}
use Rattle.pcode_model.specs.declared.flow.FlowWhy.TheVariants as W
use Rattle.pcode_model.specs.Flow.{NoFault, FirstFault, AreStarts}
use Rattle.flow.specs.declared.answer.FlowFault.{FlowFault}
use Rattle.flow.specs.declared.answer.FlowFault.TheVariants.{NoTarget, FallsOff, BadRelative, NoTable, TableEntered, TooManyBlocks, Memory}

-- No place has a fault, and a block begins at so many places, more than 2,048.
abbrev pub HasTooMany : Listing → List TableAt → ℕ → Type 0
HasTooMany l t n = NoFault l t × ((starts : List Place) × (AreStarts l t starts × ((length starts ≡ n) × (2048 < n))))

-- Want of memory may come at any listing.
abbrev pub IsFlowFault : Listing → List TableAt → FlowFault → Type 0
IsFlowFault l t (NoTarget p) = FirstFault l t p W.NoTarget
IsFlowFault l t (FallsOff p) = FirstFault l t p W.FallsOff
IsFlowFault l t (BadRelative p) = FirstFault l t p W.BadRelative
IsFlowFault l t (NoTable p) = FirstFault l t p W.NoTable
IsFlowFault l t (TableEntered p) = FirstFault l t p W.TableEntered
IsFlowFault l t (TooManyBlocks n) = HasTooMany l t n
IsFlowFault l t Memory = Unit {0}

abbrev pub IsTooMany : ℕ → FlowFault → Type 0
IsTooMany n (NoTarget p) = ⊥
IsTooMany n (FallsOff p) = ⊥
IsTooMany n (BadRelative p) = ⊥
IsTooMany n (NoTable p) = ⊥
IsTooMany n (TableEntered p) = ⊥
IsTooMany n (TooManyBlocks m) = m ≡ n
IsTooMany n Memory = Unit {0}
