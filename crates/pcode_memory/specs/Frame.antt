-- The order in which the accesses and the variables of a frame stand, by which a run looks them up. This project's own.
use Rattle.std.specs.Prelude.{◌≡◌, ◌+◌, ◌<◌, ◌==◌, ◌&&◌, ◌||◌, nat_lt, int_le, int_lt, ℕ, ℤ, pos, ◌+ℤ◌, ◌≤ℤ◌, Bool, true, false, if◌then◌else◌, List, [], ◌∷◌, Option, Some, None}
use Rattle.std.specs.List.{AllByRecursion}
use Rattle.pcode_model.specs.declared.frame.Frame.{Frame}
use Rattle.pcode_model.specs.declared.frame.FrameAccess.{FrameAccess}
use Rattle.pcode_model.specs.declared.frame.FrameVariable.{FrameVariable}
use Rattle.pcode_model.specs.declared.listing.Listing.{Listing}
use Rattle.pcode_model.specs.declared.listing.Place.{Place}
use Rattle.pcode_model.specs.Frame.{wrapped}
use Rattle.pcode_model.specs.Spaces.{first_ram, or, size_of}

-- each stands so to all that follow it
abbrev pub Rise : {A : Type 0} → (A → A → Type 0) → List A → Type 0
Rise stands [] = Unit {0}
Rise stands (x ∷ rest) = AllByRecursion (stands x) rest × Rise stands rest

-- ---- accesses

-- whether an access comes before the one at a place with a number: by place, and at one place by number
abbrev pub comes_before : FrameAccess → Place → ℕ → Bool
comes_before a p n =
    nat_lt a.place.address p.address
    || (a.place.address == p.address
    && (nat_lt a.place.index p.index || (a.place.index == p.index && nat_lt a.argument n)))

abbrev pub ComesBefore : FrameAccess → FrameAccess → Type 0
ComesBefore a b = comes_before a b.place b.argument ≡ true

-- ---- variables

abbrev pub end_of : FrameVariable → ℤ
end_of v = v.offset +ℤ pos v.size

abbrev pub EndsBefore : FrameVariable → FrameVariable → Type 0
EndsBefore v w = end_of v ≤ℤ w.offset

-- A variable of so large a space: no byte of it is farther from the entry word than the whole space.
pub record IsNear (size : ℕ) (v : FrameVariable) : Type 0 where
  pub some : 0 < v.size
  pub low : pos 0 ≤ℤ (v.offset +ℤ pos size)
  pub high : end_of v ≤ℤ pos size

-- ---- frames

-- The accesses rise by place and number, and the variables by offset, apart from each other.
pub record IsOrdered (l : Listing) (f : Frame) : Type 0 where
  pub accesses : Rise ComesBefore f.accesses
  pub variables : Rise EndsBefore f.variables
  pub near : AllByRecursion (IsNear (size_of l (first_ram l))) f.variables

-- ---- looking up

-- the first one that doesn't pass a test
abbrev pub first_past : {A : Type 0} → (A → Bool) → List A → Option A
first_past test [] = None
first_past test (x ∷ rest) = if test x then first_past test rest else Some x

abbrev pub is_at : FrameAccess → Place → ℕ → Bool
is_at a p n = a.place.address == p.address && (a.place.index == p.index && a.argument == n)

-- the offset of an access that was found, where it is the one at a place with a number
abbrev pub own_of : ℕ → Option FrameAccess → Place → ℕ → Option ℕ
own_of size None p n = None
own_of size (Some a) p n = if is_at a p n then Some (wrapped size a.offset) else None

abbrev pub ends_by : FrameVariable → ℤ → Bool
ends_by v x = int_le (end_of v) x

abbrev pub begins_by : Option FrameVariable → ℤ → Bool
begins_by None x = false
begins_by (Some v) x = int_le v.offset x

-- whether the byte at a signed offset is one of a variable's
abbrev pub holds : FrameVariable → ℤ → Bool
holds v x = int_le v.offset x && int_lt x (end_of v)

abbrev pub any_holds : List FrameVariable → ℤ → Bool
any_holds [] x = false
any_holds (v ∷ rest) x = or (holds v x) (any_holds rest x)
