-- A text as lines, and a line as parts.
use Rattle.std.specs.Prelude.{◌==◌, ◌&&◌, suc, ℕ, Bool, false, List, [], ◌∷◌, if◌then◌else◌}

abbrev pub Line : Type 0
Line = List ℕ

abbrev pub starts_with_lf : List ℕ → Bool
starts_with_lf [] = false
starts_with_lf (b ∷ bytes) = b == 10

-- a byte more at the front of the first line
abbrev pub with_front : ℕ → List Line → List Line
with_front b [] = (b ∷ []) ∷ []
with_front b (line ∷ lines) = (b ∷ line) ∷ lines

-- the lines that LF ends, and a rest that isn't empty; a CR directly before LF is dropped
abbrev pub lines_of : List ℕ → List Line
lines_of [] = []
lines_of (b ∷ bytes) = if b == 10 then [] ∷ lines_of bytes
    else (if b == 13 && starts_with_lf bytes then lines_of bytes else with_front b (lines_of bytes))

-- where the first such byte stands, or the length
abbrev pub place_of : ℕ → List ℕ → ℕ
place_of x [] = 0
place_of x (b ∷ bytes) = if b == x then 0 else suc (place_of x bytes)

-- what stands between bytes x: the parts of a line, where x is the space
abbrev pub parts_of : ℕ → Line → List Line
parts_of x [] = [] ∷ []
parts_of x (b ∷ line) = if b == x then [] ∷ parts_of x line else with_front b (parts_of x line)

-- the parts of a rest that is empty or begins with the byte x before its first part
abbrev pub left : ℕ → Line → List Line
left x [] = []
left x (b ∷ line) = parts_of x line

-- a line without a CR at its end
abbrev pub without_cr : Line → Line
without_cr [] = []
without_cr (b ∷ []) = if b == 13 then [] else (b ∷ [])
without_cr (b ∷ c ∷ line) = b ∷ without_cr (c ∷ line)
