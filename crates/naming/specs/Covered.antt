-- When a head has all that a body mentions, so that the function that is made of them is the body.
use Rattle.std.specs.Prelude.{◌≡◌, ◌<◌, ◌≤◌, ℕ, ◌+◌, ◌-◌, ◌^◌, ◌==◌, Bool, false, List, [], ◌∷◌, length, Some}
use Rattle.pcode_model.specs.Spaces.{or}
use Rattle.cmeaning.specs.declared.tree.CalleeDecl.{CalleeDecl}
use Rattle.cmeaning.specs.declared.tree.Stmt.{Stmt}
use Rattle.cmeaning.specs.Callees.{declared_in}
use Rattle.cmeaning.specs.Mentions.{Mention, Variable, Callee, LabelLine, in_body}
use Rattle.naming.specs.declared.head.Head.{Head}
use Rattle.naming.specs.Listed.{is_listed, with_one}

-- A variable is a parameter or has a local, and a callee is declared. The number of a label is small, so that labels
-- that are numbered from 1 have numbers of 32 bits.
abbrev pub CoversOne : Head → Mention → Type 0
CoversOne h (Variable v) = v < length h.params + length h.locals
CoversOne h (Callee address) = (c : CalleeDecl) × (declared_in h.callees address ≡ Some c)
CoversOne h (LabelLine n) = n < 2 ^ 32 - 1

abbrev pub Covers : Head → List Mention → Type 0
Covers h [] = Unit {0}
Covers h (x ∷ xs) = CoversOne h x × Covers h xs

-- no label has two lines, and none one that is known
abbrev pub HasOnce : List ℕ → List Mention → Type 0
HasOnce known [] = Unit {0}
HasOnce known (Variable v ∷ xs) = HasOnce known xs
HasOnce known (Callee address ∷ xs) = HasOnce known xs
HasOnce known (LabelLine n ∷ xs) = (is_listed n known ≡ false) × HasOnce (with_one known n) xs

-- few: each variable has a number of 32 bits.
-- once: no label has two lines.
pub record IsCovered (h : Head) (body : List Stmt) : Type 0 where
  pub mentions : Covers h (in_body body)
  pub few : length h.params + length h.locals ≤ 2 ^ 32
  pub once : HasOnce [] (in_body body)

-- whether there is a line of a label
abbrev pub has_line : List Mention → ℕ → Bool
has_line [] n = false
has_line (Variable v ∷ xs) n = has_line xs n
has_line (Callee address ∷ xs) n = has_line xs n
has_line (LabelLine m ∷ xs) n = or (m == n) (has_line xs n)
