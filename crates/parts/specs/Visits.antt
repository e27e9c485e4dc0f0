-- Variables that are visited one after another. This project's own.
use Rattle.std.specs.Prelude.{ℕ, List, [], ◌∷◌, ◌++◌}
use Rattle.cmeaning.specs.declared.tree.Expr.{Expr}
use Rattle.parts.specs.Exprs.{variables}

-- what comes of a by visits of these variables, in order
abbrev pub visited : {A : Type 0} → (A → ℕ → A) → A → List ℕ → A
visited visit a [] = a
visited visit a (v ∷ vs) = visited visit (visit a v) vs

-- each read of several expressions, in the order of their text
abbrev pub all_variables : List Expr → List ℕ
all_variables [] = []
all_variables (e ∷ es) = variables e ++ all_variables es
