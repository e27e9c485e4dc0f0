-- Which runs of accesses are frame variables, and which accesses are theirs. This project's own.
use Rattle.std.specs.Prelude.{◌^◌, ◌-◌, Bool, true, if◌then◌else◌, List, [], ◌∷◌, ℤ, pos, neg_ℤ, ◌-ℤ◌, ◌≤ℤ◌, ◌<ℤ◌, int_lt, int_le, unsigned_abs}
use Rattle.pcode_model.specs.declared.frame.FrameAccess.{FrameAccess}
use Rattle.pcode_model.specs.declared.frame.FrameVariable.{FrameVariable}
use Rattle.frame_classes.specs.declared.runs.Run.{Run}

-- no byte lies at or past the least offset
abbrev pub is_below : List ℤ → Run → Bool
is_below [] r = true
is_below (least ∷ rest) r = int_le r.end least

-- the run begins near the stack pointer's entry word, and ends there
pub record Fits (r : Run) : Type 0 where
  pub from : neg_ℤ (pos (2 ^ 20)) ≤ℤ r.begin
  pub some : r.begin <ℤ r.end
  pub to : r.end ≤ℤ pos (2 ^ 21)

abbrev pub variable : Run → FrameVariable
variable r = record { offset = r.begin; size = unsigned_abs (r.end -ℤ r.begin) }

abbrev pub variables_of : List ℤ → List Run → List FrameVariable
variables_of escapes [] = []
variables_of escapes (r ∷ rest) =
    if is_below escapes r then variable r ∷ variables_of escapes rest else variables_of escapes rest

-- where the first run begins that isn't below
abbrev pub limit : List ℤ → List Run → ℤ
limit escapes [] = pos (2 ^ 63 - 1)
limit escapes (r ∷ rest) = if is_below escapes r then limit escapes rest else r.begin

abbrev pub before : ℤ → List FrameAccess → List FrameAccess
before n [] = []
before n (a ∷ rest) = if int_lt a.offset n then a ∷ before n rest else before n rest
