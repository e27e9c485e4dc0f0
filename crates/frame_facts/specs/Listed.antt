-- The frame of a listing. This project's own.
use Rattle.std.specs.Prelude.{◌≡◌, ℕ, ◌<◌, List, [], ◌∷◌, ◌⊎◌, ◌↔◌, ℤ, ◌<ℤ◌}
use Rattle.pcode_model.specs.declared.listing.Varnode.{Varnode}
use Rattle.pcode_model.specs.declared.listing.Place.{Place}
use Rattle.pcode_model.specs.declared.listing.Listing.{Listing}
use Rattle.pcode_model.specs.declared.tables.TableAt.{TableAt}
use Rattle.pcode_model.specs.declared.frame.Frame.{Frame}
use Rattle.pcode_model.specs.declared.frame.OffsetFact.{OffsetFact}
use Rattle.pcode_model.specs.declared.frame.FrameAccess.{FrameAccess}
use Rattle.pcode_model.specs.declared.frame.FrameVariable.{FrameVariable}
use Rattle.pcode_model.specs.Flow.{IsIn, IsBefore, BeginsBlock}
use Rattle.frame_facts.specs.Facts.{Fact}
use Rattle.frame_facts.specs.Escapes.{Escapes}
use Rattle.frame_facts.specs.Accesses.{signed_offset, IsFrameVariable, IsVariableAccess}

-- each stands before the one that follows it
abbrev pub InOrderBy : {A : Type 0} → (A → A → Type 0) → List A → Type 0
InOrderBy before [] = Unit {0}
InOrderBy before (a ∷ []) = Unit {0}
InOrderBy before (a ∷ b ∷ rest) = before a b × InOrderBy before (b ∷ rest)

-- The list has exactly what there is, each once and in order.
pub record Lists {A : Type 0} (Is : A → Type 0) (before : A → A → Type 0) (xs : List A) : Type 0 where
  pub each : (x : A) → IsIn x xs ↔ Is x
  pub in_order : InOrderBy before xs

-- by space, and in one space by offset
abbrev pub IsRangeBefore : Varnode → Varnode → Type 0
IsRangeBefore v w = (v.space < w.space) ⊎ ((v.space ≡ w.space) × (v.offset < w.offset))

abbrev pub IsFactBefore : OffsetFact → OffsetFact → Type 0
IsFactBefore x y = IsBefore x.place y.place ⊎ ((x.place ≡ y.place) × IsRangeBefore x.range y.range)

abbrev pub IsAccessBefore : FrameAccess → FrameAccess → Type 0
IsAccessBefore a b = IsBefore a.place b.place ⊎ ((a.place ≡ b.place) × (a.argument < b.argument))

abbrev pub IsVariableBefore : FrameVariable → FrameVariable → Type 0
IsVariableBefore v w = v.offset <ℤ w.offset

-- a fact, with its offset as a signed number
abbrev pub IsOffsetFact : Listing → List TableAt → OffsetFact → Type 0
IsOffsetFact l t x = (c : ℕ) × (Fact l t x.place x.range c × (x.offset ≡ signed_offset l c))

-- A fact where a block begins. The facts before the other places of the block follow op by op.
abbrev pub IsListedFact : Listing → List TableAt → OffsetFact → Type 0
IsListedFact l t x = BeginsBlock l t x.place × IsOffsetFact l t x

abbrev pub IsEscape : Listing → List TableAt → ℤ → Type 0
IsEscape l t o = (c : ℕ) × (Escapes l t c × (o ≡ signed_offset l c))

-- The frame of a listing with these jump tables, whose targets evaluate the LOADs at these places outside the words that
-- they switch on.
pub record IsFrame (l : Listing) (t : List TableAt) (evaluated : List Place) (f : Frame) : Type 0 where
  pub facts : Lists (IsListedFact l t) IsFactBefore f.facts
  pub escapes : Lists (IsEscape l t) ◌<ℤ◌ f.escapes
  pub accesses : Lists (IsVariableAccess l t evaluated) IsAccessBefore f.accesses
  pub variables : Lists (IsFrameVariable l t evaluated) IsVariableBefore f.variables
