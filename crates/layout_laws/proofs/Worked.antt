-- Small codes and the bodies that they are laid out as, by computation.
use Rattle.std.proofs.Common.{◌≡◌, ℕ, List, [], ◌∷◌, None, refl}
use Rattle.cmeaning.specs.declared.tree.Expr.{Expr}
use Rattle.cmeaning.specs.declared.tree.Arm.{Arm as Branch}
use Rattle.cmeaning.specs.declared.tree.Stmt.{Stmt}
use Rattle.cmeaning.specs.declared.tree.Stmt.TheVariants as S
use Rattle.blockcode.specs.declared.code.Arm.{Arm}
use Rattle.blockcode.specs.declared.code.Exit.{Exit}
use Rattle.blockcode.specs.declared.code.Exit.TheVariants as X
use Rattle.blockcode.specs.declared.code.Block.{Block}
use Rattle.blockcode.specs.declared.code.Code.{Code}
use Rattle.blockcode.specs.Laid.{laid_body}

abbrev block : List Stmt → Exit → Block
block ss e = record { body = ss; exit = e }

abbrev code : ℕ → List Block → Code
code entry blocks = record { variables = []; blocks = blocks; entry = entry }

abbrev case : ℕ → ℕ → Arm
case value to = record { value = value; to = to }

abbrev arm : List ℕ → ℕ → Branch
arm values to = record { cases = values; body = S.Goto to ∷ [] }

-- Two cases of one block are one arm.
two_cases : (e : Expr)
    → laid_body (code 0
    (block [] (X.Switch e (case 3 1 ∷ case 4 2 ∷ case 7 1 ∷ []))
    ∷ block [] (X.Return None)
    ∷ block [] (X.Return None)
    ∷ []))
    ≡ S.Switch e (arm (3 ∷ 7 ∷ []) 1 ∷ arm (4 ∷ []) 2 ∷ [])
    ∷ S.Label 1 ∷ S.Return None ∷ S.Label 2 ∷ S.Return None ∷ []
two_cases e = refl

-- The arms stand by the least value of each, and its values rise, in whatever order the cases come.
cases_turned : (e : Expr)
    → laid_body (code 0
    (block [] (X.Switch e (case 7 1 ∷ case 4 2 ∷ case 3 1 ∷ []))
    ∷ block [] (X.Return None)
    ∷ block [] (X.Return None)
    ∷ []))
    ≡ S.Switch e (arm (3 ∷ 7 ∷ []) 1 ∷ arm (4 ∷ []) 2 ∷ [])
    ∷ S.Label 1 ∷ S.Return None ∷ S.Label 2 ∷ S.Return None ∷ []
cases_turned e = refl

-- An arm leads by a goto to the next block too.
next_case : (e : Expr)
    → laid_body (code 0 (block [] (X.Switch e (case 0 1 ∷ [])) ∷ block [] (X.Return None) ∷ []))
    ≡ S.Switch e (arm (0 ∷ []) 1 ∷ []) ∷ S.Label 1 ∷ S.Return None ∷ []
next_case e = refl

-- A Stop has no line, and the block behind it a label only where a goto leads there.
after_stop : (call : Stmt) (c : Expr)
    → laid_body (code 0
    (block [] (X.Test c 2 1) ∷ block (call ∷ []) X.Stop ∷ block [] (X.Return None) ∷ []))
    ≡ S.If c (S.Goto 2 ∷ []) ∷ call ∷ S.Label 2 ∷ S.Return None ∷ []
after_stop call c = refl

-- Before the first block stands a goto to the entry, where that is another one.
later_entry : laid_body (code 1 (block [] (X.Return None) ∷ block [] (X.Jump 0) ∷ []))
    ≡ S.Goto 1 ∷ S.Label 0 ∷ S.Return None ∷ S.Label 1 ∷ S.Goto 0 ∷ []
later_entry = refl

-- No goto leads to the block that follows.
next_block : (s : Stmt)
    → laid_body (code 0 (block (s ∷ []) (X.Jump 1) ∷ block [] (X.Return None) ∷ []))
    ≡ s ∷ S.Return None ∷ []
next_block s = refl
