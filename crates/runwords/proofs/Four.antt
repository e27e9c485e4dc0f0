-- Four words, of which the last is no number of steps.
use Rattle.std.proofs.Common.{◌≡◌, ◌∙◌, ℕ, List, [], ◌∷◌, map, length, slice_index_or, ap, sym, arith}
use Rattle.std.specs.Prelude.{None}
use Rattle.runwords.specs.Request.{asked_by, asked_for, steps_of}

pub no_steps : {A : Type 0} (f : A → List ℕ) (ws : List A) (w : A)
    → length ws ≡ 4
    → w ≡ slice_index_or ws 3 w
    → steps_of (f w) ≡ None
    → asked_by (map f ws) ≡ None
no_steps f [] w four is none = absurd (omega arith)
no_steps f (a ∷ []) w four is none = absurd (omega arith)
no_steps f (a ∷ b ∷ []) w four is none = absurd (omega arith)
no_steps f (a ∷ b ∷ c ∷ []) w four is none = absurd (omega arith)
no_steps f (a ∷ b ∷ c ∷ d ∷ []) w four is none =
    ap (asked_for (f a) (f b) (f c)) (ap (λ x. steps_of (f x)) (sym is) ∙ none)
no_steps f (a ∷ b ∷ c ∷ d ∷ e ∷ ws) w four is none = absurd (omega arith)
