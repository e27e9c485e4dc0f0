-- What is added to flat code that is being made. This project's own.
use Rattle.std.specs.Prelude.{◌≡◌, ℕ, ◌+◌, if◌then◌else◌, List, [], ◌∷◌, ◌++◌, map, length}
use Rattle.cmeaning.specs.Flat.{Flat, Jump, Piece, Branch, breaks, arm_span, spans, all_labels, all_steps, arm_spans, arm_labels, arm_steps}
use Rattle.flatcode.specs.declared.draft.Draft.{Draft}
use Rattle.flatcode.specs.declared.draft.Placed.{Placed}
use Rattle.flatcode.specs.Steps.{flat_steps}

-- a label with its position
abbrev pub pair_of : Placed → ℕ × ℕ
pair_of l = (l.label, l.position)

-- so many steps, these labels with their positions, and these steps, by the position of each label
pub record Adds (old new : Draft) (span : ℕ) (labels : List (ℕ × ℕ)) (steps : (ℕ → ℕ) → List Flat) : Type 0 where
  pub count : length new.steps.items ≡ length old.steps.items + span
  pub labels_added : map pair_of new.labels.items ≡ map pair_of old.labels.items ++ labels
  pub steps_added : (place : ℕ → ℕ) → flat_steps place new.steps.items ≡ flat_steps place old.steps.items ++ steps place

-- the labels and steps of a statement, where `out` is the position behind the innermost loop
abbrev pub Puts : Draft → Draft → Piece → ℕ → Type 0
Puts old new piece out =
    Adds old new piece.span (piece.labels (length old.steps.items))
    (λ place. piece.steps place out (length old.steps.items))

-- of statements one after another
abbrev pub PutsAll : Draft → Draft → List Piece → ℕ → Type 0
PutsAll old new pieces out =
    Adds old new (spans pieces) (all_labels pieces (length old.steps.items))
    (λ place. all_steps pieces place out (length old.steps.items))

-- of an arm of a switch that ends at `past`
abbrev pub PutsArm : Draft → Draft → Branch → ℕ → ℕ → Type 0
PutsArm old new arm out past =
    Adds old new (arm_span arm) (all_labels arm.body (length old.steps.items))
    (λ place. all_steps arm.body place out (length old.steps.items) ++ (if breaks arm then Jump past ∷ [] else []))

-- of arms one after another
abbrev pub PutsArms : Draft → Draft → List Branch → ℕ → ℕ → Type 0
PutsArms old new arms out past =
    Adds old new (arm_spans arms) (arm_labels arms (length old.steps.items))
    (λ place. arm_steps arms place out past (length old.steps.items))
