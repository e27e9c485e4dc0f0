-- Which arms of a switch end in `break;` in their text: those whose last statement doesn't leave. This project's own.
use Rattle.std.specs.Prelude.{ℕ, Bool, true, false, not, List, [], ◌∷◌}
use Rattle.cmeaning.specs.declared.tree.Stmt.TheOpen.{Stmt-F}

-- Whether a statement leaves, so that nothing behind it in its body is reached: a return, a goto, or a call of a callee
-- that doesn't return.
abbrev pub leaves_step : {A B : Type 0} → (ℕ → Bool) → Stmt-F A B → Bool
leaves_step returns (Stmt-F.Call v callee args) = not (returns callee)
leaves_step returns (Stmt-F.Goto n) = true
leaves_step returns (Stmt-F.Return e) = true
leaves_step returns s = false

-- whether the last of these leaves, or `b` where there is none
abbrev pub last_of : {A : Type 0} → (A → Bool) → Bool → List A → Bool
last_of leaves b [] = b
last_of leaves b (x ∷ xs) = last_of leaves (leaves x) xs

-- whether an arm of these statements ends in `break;`
abbrev pub ends_in_break : {A : Type 0} → (A → Bool) → List A → Bool
ends_in_break leaves body = not (last_of leaves false body)
