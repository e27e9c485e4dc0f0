-- What a step may rest on where its function is valid: its expressions obey the rules, and the variables that it assigns
-- are there, and as wide as what they take. This project's own.
use Rattle.std.specs.Prelude.{◌≡◌, ℕ, ◌+◌, ◌<◌, ◌≤◌, true, List, Option, Some, None}
use Rattle.pcode_model.specs.declared.listing.Listing.{Listing}
use Rattle.pcode_model.specs.declared.listing.SpaceKind.TheVariants.{Ram}
use Rattle.pcode_model.specs.Spaces.{kind_of, size_of, register_space}
use Rattle.cmeaning.specs.declared.tree.Arm.{Arm}
use Rattle.cmeaning.specs.declared.tree.Expr.{Expr}
use Rattle.cmeaning.specs.declared.tree.Stmt.{Stmt, out-Stmt}
use Rattle.cmeaning.specs.declared.tree.Stmt.TheOpen.{Stmt-F}
use Rattle.cmeaning.specs.Do.{accessed}
use Rattle.cmeaning.specs.Flat.{Flat, Do, Test, Jump, Choose, Give}
use Rattle.cmeaning.specs.Shape.{shape_of, is_right, has_width}
use Rattle.cmeaning.specs.Valid.{are_right}

abbrev pub IsRight : (ℕ → ℕ) → Expr → Type 0
IsRight ws e = is_right (shape_of ws e) ≡ true

-- as wide as a variable that there is
abbrev pub IsFor : (ℕ → ℕ) → ℕ → Expr → Type 0
IsFor ws v e = (0 < ws v) × (has_width (ws v) (shape_of ws e) ≡ true)

abbrev pub IsTarget : (ℕ → ℕ) → Option ℕ → Type 0
IsTarget ws None = Unit {0}
IsTarget ws (Some v) = 0 < ws v

abbrev pub AreRight : (ℕ → ℕ) → List Expr → Type 0
AreRight ws es = are_right ws es ≡ true

abbrev pub may_layer : (ℕ → ℕ) → Stmt-F Stmt Arm → Type 0
may_layer ws (Stmt-F.Assign v e) = IsFor ws v e
may_layer ws (Stmt-F.Load v space address) = (0 < ws v) × IsRight ws address
may_layer ws (Stmt-F.Store space address e) = IsRight ws address × IsRight ws e
may_layer ws (Stmt-F.Call v callee args) = IsTarget ws v × AreRight ws args
may_layer ws (Stmt-F.CallInd v callee args) = IsTarget ws v × IsRight ws callee × AreRight ws args
may_layer ws (Stmt-F.Other v index args) = IsTarget ws v × AreRight ws args
may_layer ws (Stmt-F.Extra v offset) = 0 < ws v
may_layer ws (Stmt-F.Divide v op a b) = IsFor ws v a × IsFor ws v b
may_layer ws s = Unit {0}

abbrev pub MayDo : (ℕ → ℕ) → Stmt → Type 0
MayDo ws s = may_layer ws (out-Stmt s)

abbrev pub may_give : (ℕ → ℕ) → Option Expr → Type 0
may_give ws None = Unit {0}
may_give ws (Some e) = IsRight ws e

abbrev pub MayStep : (ℕ → ℕ) → Flat → Type 0
MayStep ws (Do s) = MayDo ws s
MayStep ws (Test e p q) = IsRight ws e
MayStep ws (Jump p) = Unit {0}
MayStep ws (Choose e cases other) = IsRight ws e
MayStep ws (Give e) = may_give ws e

-- ---- what a step may rest on where its function fits the listing

-- a load and a store are in a ram space, and the bytes that an EXTRAOUT takes lie in the register space
abbrev pub fits_layer : Listing → (ℕ → ℕ) → Stmt-F Stmt Arm → Type 0
fits_layer l ws (Stmt-F.Load v space address) = kind_of l (accessed l space) ≡ Ram
fits_layer l ws (Stmt-F.Store space address e) = kind_of l (accessed l space) ≡ Ram
fits_layer l ws (Stmt-F.Extra v offset) = offset + ws v ≤ size_of l (register_space l)
fits_layer l ws s = Unit {0}

abbrev pub StmtFits : Listing → (ℕ → ℕ) → Stmt → Type 0
StmtFits l ws s = fits_layer l ws (out-Stmt s)

abbrev pub StepFits : Listing → (ℕ → ℕ) → Flat → Type 0
StepFits l ws (Do s) = StmtFits l ws s
StepFits l ws (Test e p q) = Unit {0}
StepFits l ws (Jump p) = Unit {0}
StepFits l ws (Choose e cases other) = Unit {0}
StepFits l ws (Give e) = Unit {0}
