-- The rules of shifts.
use Rattle.std.specs.Prelude.{◌≡◌, ◌≢◌, ℕ, ◌-◌, ◌*◌, ◌≤◌}
use Rattle.bits_core.specs.declared.word.Word.{Word}
use Rattle.cmeaning.specs.declared.tree.ShiftOp.{ShiftOp}
use Rattle.cmeaning.specs.declared.tree.ShiftOp.TheVariants.{Sar}
use Rattle.cmeaning.specs.declared.tree.Expr.{Expr}
use Rattle.cmeaning.specs.declared.tree.Expr.TheVariants as E
use Rattle.rules.specs.Letters.{IsWide, IsWord}

pub data Shifting (ws : ℕ → ℕ) : Expr → Expr → Type 0 where
  -- a shift by 0: x
  A1_shift : (op : ShiftOp) (x : Expr) (c : Word) → c.value ≡ 0 → Shifting ws (E.Shift op x (E.Const c)) x
  -- Shl, Shr by the bits or more: 0
  S1 : (op : ShiftOp) (x : Expr) (c z : Word) → op ≢ Sar → IsWide ws x z.width.bytes → 8 * z.width.bytes ≤ c.value
      → z.value ≡ 0 → Shifting ws (E.Shift op x (E.Const c)) (E.Const z)
  -- Sar by the bits or more: Sar by the bits less 1
  S2 : (x : Expr) (w : ℕ) (c e : Word) → IsWide ws x w → 8 * w ≤ c.value → IsWord c.width.bytes (8 * w - 1) e
      → Shifting ws (E.Shift Sar x (E.Const c)) (E.Shift Sar x (E.Const e))
