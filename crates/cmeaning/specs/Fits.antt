-- When a function fits a listing, so that the two can be run beside each other. This project's own.
use Rattle.std.specs.Prelude.{ℕ, ◌==◌, ◌&&◌, not, Bool, true, IsTrue, List, [], ◌∷◌, map, Option, Some, None}
use Rattle.pcode_model.specs.declared.listing.Listing.{Listing}
use Rattle.pcode_model.specs.declared.listing.SpaceKind.TheVariants.{Ram}
use Rattle.pcode_model.specs.declared.storage.ParamStorage.{ParamStorage}
use Rattle.pcode_model.specs.declared.storage.ParamStorage.TheVariants.{Register, Unique, Stack}
use Rattle.pcode_model.specs.Ranges.{is_kind, leaves}
use Rattle.pcode_model.specs.Spaces.{first_ram, is_some, register_space, unique_space}
use Rattle.cmeaning.specs.declared.tree.Arm.{Arm}
use Rattle.cmeaning.specs.declared.tree.Param.{Param}
use Rattle.cmeaning.specs.declared.tree.CFunction.{CFunction}
use Rattle.cmeaning.specs.declared.tree.Stmt.{Stmt, fold-Stmt}
use Rattle.cmeaning.specs.declared.tree.Stmt.TheFolds.{fold-Arm}
use Rattle.cmeaning.specs.declared.tree.Stmt.TheOpen.{Stmt-F, Arm-F}
use Rattle.cmeaning.specs.Do.{space_named, widths_in}

-- a name is that of a ram space other than the first, which has none here
abbrev pub names_ram : Listing → Option (List ℕ) → Bool
names_ram l None = true
names_ram l (Some name) = is_kind Ram l.spaces (space_named name l.spaces)
    && not (space_named name l.spaces == first_ram l)

-- so many bytes from an offset on lie in a space
abbrev pub lies_in : Listing → ℕ → ℕ → ℕ → Bool
lies_in l space offset count = not (leaves l.spaces space offset count)

abbrev pub all_true : List Bool → Bool
all_true [] = true
all_true (b ∷ bs) = b && all_true bs

-- ---- statements, at any depth: the spaces that are named, and the register bytes that are taken

-- by the widths of the variables
abbrev pub fits_step : Listing → (ℕ → ℕ) → Stmt-F Bool Bool → Bool
fits_step l ws (Stmt-F.Load v space address) = names_ram l space
fits_step l ws (Stmt-F.Store space address e) = names_ram l space
fits_step l ws (Stmt-F.Extra v offset) = lies_in l (register_space l) offset (ws v)
fits_step l ws (Stmt-F.If c body) = all_true body
fits_step l ws (Stmt-F.IfElse c body other) = all_true body && all_true other
fits_step l ws (Stmt-F.While c body) = all_true body
fits_step l ws (Stmt-F.DoWhile body c) = all_true body
fits_step l ws (Stmt-F.Loop body) = all_true body
fits_step l ws (Stmt-F.Switch e arms) = all_true arms
fits_step l ws s = true

abbrev pub arm_step : Arm-F Bool Bool → Bool
arm_step a = all_true a.body

unfoldable pub stmt_fits : Listing → (ℕ → ℕ) → Stmt → Bool
stmt_fits l ws s = fold-Stmt Bool Bool (fits_step l ws) arm_step s

unfoldable pub arm_fits : Listing → (ℕ → ℕ) → Arm → Bool
arm_fits l ws a = fold-Arm Bool Bool (fits_step l ws) arm_step a

abbrev pub body_fits : Listing → (ℕ → ℕ) → List Stmt → Bool
body_fits l ws body = all_true (map (stmt_fits l ws) body)

-- ---- parameters

-- a storage of so many bytes lies in its space; one on the stack asks for a stack pointer
abbrev pub storage_fits : Listing → ℕ → ParamStorage → Bool
storage_fits l count (Register offset) = lies_in l (register_space l) offset count
storage_fits l count (Unique offset) = lies_in l (unique_space l) offset count
storage_fits l count (Stack offset) = is_some l.stack

abbrev pub param_fits : Listing → Param → Bool
param_fits l p = storage_fits l p.width.bytes p.storage

abbrev pub params_fit : Listing → List Param → Bool
params_fit l ps = all_true (map (param_fits l) ps)

-- ---- functions

pub record Fits (l : Listing) (f : CFunction) : Type 0 where
  pub params : IsTrue (params_fit l f.params)
  pub body : IsTrue (body_fits l (widths_in f) f.body)
