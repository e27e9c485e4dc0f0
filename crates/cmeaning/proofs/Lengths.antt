-- Facts of the rules of a valid tree.
use Rattle.std.proofs.Common.{◌≡◌, ◌≢◌, ℕ, suc, ◌&&◌, ◌∙◌, Bool, true, false, List, [], ◌∷◌, length, refl, ap}
use Rattle.bits_core.specs.declared.word.Width.{Width}
use Rattle.cmeaning.specs.declared.tree.Expr.{Expr}
use Rattle.cmeaning.specs.Shape.{shape_of, has_width}
use Rattle.cmeaning.specs.Valid.{have_widths}

and_no : (b : Bool) → false ≡ b && false
and_no true = refl
and_no false = refl

-- as many expressions have no other number of widths
pub args_of_lengths : (ws : ℕ → ℕ) (args : List Expr) (widths : List Width)
    → length args ≢ length widths
    → false ≡ have_widths ws args widths
args_of_lengths ws [] [] differ = absurd (differ refl)
args_of_lengths ws [] (w ∷ rest) differ = refl
args_of_lengths ws (e ∷ es) [] differ = refl
args_of_lengths ws (e ∷ es) (w ∷ rest) differ = and_no (has_width w.bytes (shape_of ws e))
    ∙ ap (λ b. has_width w.bytes (shape_of ws e) && b) (args_of_lengths ws es rest (λ same. differ (ap suc same)))
