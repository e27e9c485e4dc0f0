-- What a round of the work does: `seen` are the marks by slot, `work` the slots that wait.
use Rattle.std.specs.Prelude.{◌≡◌, ℕ, ◌+◌, Bool, true, false, List, [], ◌∷◌, ◌++◌, length, slice_set, ◌⊎◌}
use Rattle.std.specs.List.{slice_index_or}
use Rattle.pcode_model.specs.Flow.{IsIn}
use Rattle.flow.specs.Slots.{Marked}

abbrev pub unmarked : List Bool → ℕ
unmarked [] = 0
unmarked (true ∷ seen) = unmarked seen
unmarked (false ∷ seen) = unmarked seen + 1

-- nothing changed since m was marked, or m is marked now and waits
abbrev pub Noted : List Bool → List ℕ → ℕ → List Bool → List ℕ → Type 0
Noted seen work m seen' work' =
    ((slice_index_or seen m false ≡ true) × ((seen' ≡ seen) × (work' ≡ work)))
    ⊎ ((slice_index_or seen m false ≡ false) × ((seen' ≡ slice_set seen m true) × (work' ≡ work ++ m ∷ [])))

-- more is marked, all of next with it; what is new is of next, and waits
pub record Expanded (seen : List Bool) (work next : List ℕ) (seen' : List Bool) (work' : List ℕ) : Type 0 where
  pub long : length seen' ≡ length seen
  pub keeps : (n : ℕ) → Marked seen n → Marked seen' n
  pub waits : (n : ℕ) → IsIn n work → IsIn n work'
  pub all : (n : ℕ) → IsIn n next → Marked seen' n
  pub fresh : (n : ℕ) → Marked seen' n → Marked seen n ⊎ (IsIn n next × IsIn n work')
  pub only : (n : ℕ) → IsIn n work' → IsIn n work ⊎ Marked seen' n
  pub less : unmarked seen' + length work' ≡ unmarked seen + length work
