-- Runs of accesses: stretches without a gap, of which no two share a byte. This project's own.
use Rattle.std.specs.Prelude.{ℕ, suc, ◌+◌, ◌-◌, ◌^◌, ◌<◌, if◌then◌else◌, List, [], ◌∷◌, ℤ, pos, negsuc, ◌+ℤ◌, ◌≤ℤ◌, ◌<ℤ◌, int_lt}
use Rattle.std.specs.List.Sorted.{IsNonDecreasingBy}
use Rattle.pcode_model.specs.declared.frame.FrameAccess.{FrameAccess}
use Rattle.pcode_model.specs.Flow.{IsIn}
use Rattle.frame_facts.specs.Accesses.{IsByteOf, ShareByte}
use Rattle.frame_classes.specs.declared.runs.Run.{Run}

-- ---- accesses

abbrev pub HasBytes : FrameAccess → Type 0
HasBytes a = 0 < a.size

-- the offset past the last byte
abbrev pub end : FrameAccess → ℤ
end a = a.offset +ℤ pos a.size

-- an offset as a number that isn't negative
abbrev pub place : ℤ → ℕ
place (pos n) = 2 ^ 31 + n
place (negsuc n) = 2 ^ 31 - suc n

abbrev pub place_of : FrameAccess → ℕ
place_of a = place a.offset

abbrev pub IsSorted : List FrameAccess → Type 0
IsSorted xs = IsNonDecreasingBy place_of xs

-- A chain of accesses of the list leads from the one to the other, each of which shares a byte with the next one.
pub data AreChained (xs : List FrameAccess) : FrameAccess → FrameAccess → Type 0 where
  Alone : (a : FrameAccess) → IsIn a xs → AreChained xs a a
  Linked : (a b c : FrameAccess) → AreChained xs a b → IsIn c xs → ShareByte b c → AreChained xs a c

-- ---- runs

pub record IsWithin (a : FrameAccess) (r : Run) : Type 0 where
  pub from : r.begin ≤ℤ a.offset
  pub to : end a ≤ℤ r.end

-- From an access in the run chains lead to an access on each of its bytes.
pub record IsFilled (xs : List FrameAccess) (r : Run) : Type 0 where
  pub first : FrameAccess
  pub is_first : IsIn first xs
  pub within : IsWithin first r
  pub bytes : (o : ℤ) → r.begin ≤ℤ o → o <ℤ r.end → (b : FrameAccess) × (AreChained xs first b × IsByteOf b o)

-- each has bytes, all of them past those before
abbrev pub Rise : ℤ → List Run → Type 0
Rise n [] = Unit {0}
Rise n (r ∷ rest) = (n ≤ℤ r.begin) × ((r.begin <ℤ r.end) × Rise r.end rest)

abbrev pub AreApart : List Run → Type 0
AreApart [] = Unit {0}
AreApart (r ∷ rest) = (r.begin <ℤ r.end) × Rise r.end rest

-- The runs of accesses: each access lies in one, and none of their bytes is more.
pub record AreRuns (xs : List FrameAccess) (runs : List Run) : Type 0 where
  pub covered : (a : FrameAccess) → IsIn a xs → (r : Run) × (IsIn r runs × IsWithin a r)
  pub filled : (r : Run) → IsIn r runs → IsFilled xs r
  pub apart : AreApart runs

-- ---- a walk over sorted accesses

abbrev pub run_of : FrameAccess → Run
run_of a = record { begin = a.offset; end = end a }

abbrev pub joined : Run → Run → Run
joined last next = record { begin = last.begin; end = if int_lt last.end next.end then next.end else last.end }

-- the runs from a last one on
abbrev pub swept : Run → List FrameAccess → List Run
swept last [] = last ∷ []
swept last (a ∷ rest) = if int_lt a.offset last.end then swept (joined last (run_of a)) rest else last ∷ swept (run_of a) rest
