-- Exits under the blocks' new numbers.
use Rattle.std.proofs.Common.{◌≡◌, ◌∙◌, ℕ, zero, suc, ◌==◌, Bool, true, false, cond, List, [], ◌∷◌, Option, Some, None, refl, ap}
use Rattle.std.specs.Prelude.{map, slice_get}
use Rattle.std.specs.Option.{option_map}
use Rattle.cmeaning.specs.declared.tree.Stmt.{Stmt}
use Rattle.cmeaning.specs.Step.{tested}
use Rattle.blockcode.specs.declared.code.Arm.{Arm}
use Rattle.blockcode.specs.declared.code.Exit.{Exit}
use Rattle.blockcode.specs.declared.code.Exit.TheVariants as X
use Rattle.blockcode.specs.declared.code.Block.{Block}
use Rattle.blockcode.specs.declared.code.Code.{Code}
use Rattle.blockcode.specs.Numbers.{AreNumbered}
use Rattle.blockcode.specs.Run.{call_returns}
use Rattle.edges.specs.Exits.{exit_args, Onto, by_arms, leads}
use Rattle.edges.specs.Run.{Blocks, blocks_of_code, exit_at, exit_of, stmts_at, stmts_of}
use Rattle.edges.specs.Follow.{moved}
use Rattle.entry_block.specs.Entered.{entered, shifted, shifted_arm, shifted_block, shifted_exit}
use Rattle.entry_block.proofs.Rows.{entry_row, moved_row}

-- ---- an exit

by_moved_arms : (n : ℕ) (arms : List Arm) (m : ℕ)
    → by_arms (map (shifted_arm n) arms) m ≡ moved (shifted n) (by_arms arms m)
by_moved_arms n [] m = refl
by_moved_arms n (a ∷ rest) m =
    let P : Bool → Type 0 =
    λ c. cond c (Onto (shifted n a.to)) (by_arms (map (shifted_arm n) rest) m)
    ≡ moved (shifted n) (cond c (Onto a.to) (by_arms rest m)) in
    elim (a.value == m) as P [ true ↦ refl | false ↦ by_moved_arms n rest m ]

tested_moved : (n taken other m : ℕ) → tested (shifted n taken) (shifted n other) m ≡ shifted n (tested taken other m)
tested_moved n taken other zero = refl
tested_moved n taken other (suc m) = refl

-- It leads to the new number of where it led.
pub leads_moved : (n : ℕ) (x : Exit) (ns : List ℕ) → leads (shifted_exit n x) ns ≡ moved (shifted n) (leads x ns)
leads_moved n (X.Return None) ns = refl
leads_moved n (X.Return (Some e)) [] = refl
leads_moved n (X.Return (Some e)) (m ∷ ns) = refl
leads_moved n (X.Jump b) ns = refl
leads_moved n (X.Test e taken other) [] = refl
leads_moved n (X.Test e taken other) (m ∷ ns) = ap (λ b. Onto b) (tested_moved n taken other m)
leads_moved n (X.Switch e arms) [] = refl
leads_moved n (X.Switch e arms) (m ∷ ns) = by_moved_arms n arms m
leads_moved n X.Stop ns = refl

-- It reads what it read.
pub args_moved : (n : ℕ) (x : Exit) → exit_args (shifted_exit n x) ≡ exit_args x
args_moved n (X.Return None) = refl
args_moved n (X.Return (Some e)) = refl
args_moved n (X.Jump b) = refl
args_moved n (X.Test e taken other) = refl
args_moved n (X.Switch e arms) = refl
args_moved n X.Stop = refl

-- A call before it returns where it did.
pub returns_moved : (n : ℕ) (rest : List Stmt) (x : Exit) → call_returns rest (shifted_exit n x) ≡ call_returns rest x
returns_moved n [] (X.Return None) = refl
returns_moved n [] (X.Return (Some e)) = refl
returns_moved n [] (X.Jump b) = refl
returns_moved n [] (X.Test e taken other) = refl
returns_moved n [] (X.Switch e arms) = refl
returns_moved n [] X.Stop = refl
returns_moved n (a ∷ rest) x = refl

-- Only the exit Stop becomes Stop.
pub stop_moved : (n : ℕ) (x : Exit) → shifted_exit n x ≡ X.Stop → x ≡ X.Stop
stop_moved n (X.Return e) h = absurd (cc)
stop_moved n (X.Jump b) h = absurd (cc)
stop_moved n (X.Test e taken other) h = absurd (cc)
stop_moved n (X.Switch e arms) h = absurd (cc)
stop_moved n X.Stop h = refl

-- ---- the blocks

stmts_moved : (n : ℕ) (o : Option Block) → stmts_of (option_map (shifted_block n) o) ≡ stmts_of o
stmts_moved n None = refl
stmts_moved n (Some b) = refl

exit_moved : (n : ℕ) (o : Option Block) → exit_of (option_map (shifted_block n) o) ≡ shifted_exit n (exit_of o)
exit_moved n None = refl
exit_moved n (Some b) = refl

module _ (k : Code) (numbered : AreNumbered k) where
  abbrev old : Blocks
  old = blocks_of_code k

  abbrev new : Blocks
  new = blocks_of_code (entered k)

  pub stmts_are : (b : ℕ) → stmts_at new (shifted k.entry b) ≡ stmts_at old b
  stmts_are b = ap stmts_of (moved_row k numbered b) ∙ stmts_moved k.entry (slice_get k.blocks b)

  pub exit_is : (b : ℕ) → exit_at new (shifted k.entry b) ≡ shifted_exit k.entry (exit_at old b)
  exit_is b = ap exit_of (moved_row k numbered b) ∙ exit_moved k.entry (slice_get k.blocks b)

  pub entry_stmts : stmts_at new k.entry ≡ []
  entry_stmts = ap stmts_of (entry_row k numbered)

  pub entry_exit : exit_at new k.entry ≡ X.Jump (suc k.entry)
  entry_exit = ap exit_of (entry_row k numbered)
