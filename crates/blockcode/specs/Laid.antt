-- Code of blocks as the body of a C function, by the code's own numbers: its variables are the code's, and a label has
-- the number of its block. A block has a label where a goto leads to it, and a goto stands where the next block isn't the
-- one that follows. This project's own.
use Rattle.std.specs.Prelude.{ℕ, suc, ◌==◌, nat_lt, Bool, true, false, if◌then◌else◌, List, [], ◌∷◌, ◌++◌, map}
use Rattle.pcode_model.specs.Spaces.{or}
use Rattle.cmeaning.specs.declared.tree.Arm.{Arm as Branch}
use Rattle.cmeaning.specs.declared.tree.Stmt.{Stmt}
use Rattle.cmeaning.specs.declared.tree.Stmt.TheVariants as S
use Rattle.blockcode.specs.declared.code.Arm.{Arm}
use Rattle.blockcode.specs.declared.code.Exit.{Exit}
use Rattle.blockcode.specs.declared.code.Exit.TheVariants as X
use Rattle.blockcode.specs.declared.code.Block.{Block}
use Rattle.blockcode.specs.declared.code.Code.{Code}

-- ---- which blocks a goto names

-- whether leaving for a block needs a goto to this one, where another block follows
abbrev pub jump_names : ℕ → ℕ → ℕ → Bool
jump_names next to b = if to == next then false else to == b

abbrev pub arms_name : List Arm → ℕ → Bool
arms_name [] b = false
arms_name (a ∷ rest) b = or (a.to == b) (arms_name rest b)

abbrev pub exit_names : ℕ → Exit → ℕ → Bool
exit_names next (X.Return e) b = false
exit_names next (X.Jump to) b = jump_names next to b
exit_names next (X.Test c taken other) b = or (taken == b) (jump_names next other b)
exit_names next (X.Switch e arms) b = arms_name arms b
exit_names next X.Stop b = false

-- the exits of the blocks from a number on
abbrev pub blocks_name : ℕ → List Block → ℕ → Bool
blocks_name n [] b = false
blocks_name n (x ∷ xs) b = or (exit_names (suc n) x.exit b) (blocks_name (suc n) xs b)

-- Before the first block a goto leads to the entry, where that is another one.
abbrev pub is_named : Code → ℕ → Bool
is_named k b = or (jump_names 0 k.entry b) (blocks_name 0 k.blocks b)

-- ---- the arms of a switch: one for each block that it leads to, by the least value that leads there, and each with all
-- such values as they rise (ArmsRise in specs/Rising.antt, arms_rise in proofs/Arms.antt). The cases are put in the order
-- of their values, and then a block's arm stands where its first case does.

-- in front of the cases whose values aren't below its own
abbrev pub placed : Arm → List Arm → List Arm
placed a [] = a ∷ []
placed a (x ∷ xs) = if nat_lt x.value a.value then x ∷ placed a xs else a ∷ x ∷ xs

-- by their values, and cases of one value in their order
abbrev pub by_value : List Arm → List Arm
by_value [] = []
by_value (a ∷ rest) = placed a (by_value rest)

abbrev pub values_to : ℕ → List Arm → List ℕ
values_to to [] = []
values_to to (a ∷ rest) = if a.to == to then a.value ∷ values_to to rest else values_to to rest

abbrev pub without : ℕ → List ℕ → List ℕ
without x [] = []
without x (y ∷ ys) = if y == x then without x ys else y ∷ without x ys

-- each block once, where it is named first
abbrev pub targets : List Arm → List ℕ
targets [] = []
targets (a ∷ rest) = a.to ∷ without a.to (targets rest)

-- each arm is one goto
abbrev pub branch_to : List Arm → ℕ → Branch
branch_to arms to = record { cases = values_to to arms; body = S.Goto to ∷ [] }

-- by where their first cases stand
abbrev pub branches : List Arm → List Branch
branches arms = map (branch_to arms) (targets arms)

abbrev pub switch_arms : List Arm → List Branch
switch_arms arms = branches (by_value arms)

-- ---- statements

abbrev pub label_line : Bool → ℕ → List Stmt
label_line true b = S.Label b ∷ []
label_line false b = []

-- to a block, where another one follows
abbrev pub goto : ℕ → ℕ → List Stmt
goto next to = if to == next then [] else S.Goto to ∷ []

-- A Stop has no line: the call before it doesn't return.
abbrev pub exit_lines : ℕ → Exit → List Stmt
exit_lines next (X.Return e) = S.Return e ∷ []
exit_lines next (X.Jump to) = goto next to
exit_lines next (X.Test c taken other) = S.If c (S.Goto taken ∷ []) ∷ goto next other
exit_lines next (X.Switch e arms) = S.Switch e (switch_arms arms) ∷ []
exit_lines next X.Stop = []

-- the blocks from a number on, by which ones have a label
abbrev pub laid_from : (ℕ → Bool) → ℕ → List Block → List Stmt
laid_from named n [] = []
laid_from named n (x ∷ xs) = label_line (named n) n ++ (x.body ++ (exit_lines (suc n) x.exit ++ laid_from named (suc n) xs))

abbrev pub laid_body : Code → List Stmt
laid_body k = goto 0 k.entry ++ laid_from (is_named k) 0 k.blocks
