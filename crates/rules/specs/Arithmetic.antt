-- The rules of sums, differences, products, bits and divisions.
use Rattle.std.specs.Prelude.{◌≡◌, ℕ, ◌-◌}
use Rattle.bits_core.specs.declared.word.Word.{Word}
use Rattle.bits_core.specs.Value.{limit}
use Rattle.cmeaning.specs.declared.tree.UnaryOp.{UnaryOp}
use Rattle.cmeaning.specs.declared.tree.UnaryOp.TheVariants.{Neg}
use Rattle.cmeaning.specs.declared.tree.ArithmeticOp.{ArithmeticOp}
use Rattle.cmeaning.specs.declared.tree.ArithmeticOp.TheVariants.{Add, Sub, Mul, And}
use Rattle.cmeaning.specs.declared.tree.DivisionOp.TheVariants.{Div}
use Rattle.cmeaning.specs.declared.tree.SignedDivisionOp.TheVariants.{SDiv}
use Rattle.cmeaning.specs.declared.tree.Expr.{Expr}
use Rattle.cmeaning.specs.declared.tree.Expr.TheVariants as E
use Rattle.rules.specs.Letters.{IsAtom, IsWide, Folds, KeepsAtZero, FallsAtZero, Cancels, RepeatsItself, IsBitwise}

pub data Summing (ws : ℕ → ℕ) : Expr → Expr → Type 0 where
  -- x + 0, x - 0, x | 0, x ^ 0: x
  A1 : (op : ArithmeticOp) (x : Expr) (c : Word) → KeepsAtZero op → c.value ≡ 0
      → Summing ws (E.Arithmetic op x (E.Const c)) x
  -- x * 1: x
  A2_mul : (x : Expr) (c : Word) → c.value ≡ 1 → Summing ws (E.Arithmetic Mul x (E.Const c)) x
  -- x & ones: x
  A2_and : (x : Expr) (c : Word) → c.value ≡ limit c.width.bytes - 1 → Summing ws (E.Arithmetic And x (E.Const c)) x
  -- x / 1, of unsigned and of signed words: x
  A2_div : (x : Expr) (c : Word) → c.value ≡ 1 → Summing ws (E.Division Div x (E.Const c)) x
  A2_sdiv : (x : Expr) (c : Word) → c.value ≡ 1 → Summing ws (E.SignedDivision SDiv x (E.Const c)) x
  -- x * 0, x & 0: 0
  A3 : (op : ArithmeticOp) (x : Expr) (c : Word) → FallsAtZero op → c.value ≡ 0
      → Summing ws (E.Arithmetic op x (E.Const c)) (E.Const c)
  -- x - x, x ^ x: 0
  A4_none : (op : ArithmeticOp) (x : Expr) (z : Word) → Cancels op → IsAtom x → IsWide ws x z.width.bytes → z.value ≡ 0
      → Summing ws (E.Arithmetic op x x) (E.Const z)
  -- x & x, x | x: x
  A4_same : (op : ArithmeticOp) (x : Expr) → RepeatsItself op → IsAtom x → Summing ws (E.Arithmetic op x x) x
  -- (x + c) + d: x + (c + d)
  A5_add_add : (x : Expr) (c d e : Word) → Folds Add c d e
      → Summing ws (E.Arithmetic Add (E.Arithmetic Add x (E.Const c)) (E.Const d)) (E.Arithmetic Add x (E.Const e))
  A5_add_add_over : (x : Expr) (c d e : Word) → Folds Add c d e
      → Summing ws (E.Arithmetic Add (E.Arithmetic Add (E.Const c) x) (E.Const d)) (E.Arithmetic Add x (E.Const e))
  -- (x - c) - d: x - (c + d)
  A5_sub_sub : (x : Expr) (c d e : Word) → Folds Add c d e
      → Summing ws (E.Arithmetic Sub (E.Arithmetic Sub x (E.Const c)) (E.Const d)) (E.Arithmetic Sub x (E.Const e))
  -- (x + c) - d: x + (c - d)
  A5_add_sub : (x : Expr) (c d e : Word) → Folds Sub c d e
      → Summing ws (E.Arithmetic Sub (E.Arithmetic Add x (E.Const c)) (E.Const d)) (E.Arithmetic Add x (E.Const e))
  A5_add_sub_over : (x : Expr) (c d e : Word) → Folds Sub c d e
      → Summing ws (E.Arithmetic Sub (E.Arithmetic Add (E.Const c) x) (E.Const d)) (E.Arithmetic Add x (E.Const e))
  -- (x - c) + d: x + (d - c)
  A5_sub_add : (x : Expr) (c d e : Word) → Folds Sub d c e
      → Summing ws (E.Arithmetic Add (E.Arithmetic Sub x (E.Const c)) (E.Const d)) (E.Arithmetic Add x (E.Const e))
  -- (x op c) op d: x op (c op d), for And, Or and Xor
  A6 : (op : ArithmeticOp) (x : Expr) (c d e : Word) → IsBitwise op → Folds op c d e
      → Summing ws (E.Arithmetic op (E.Arithmetic op x (E.Const c)) (E.Const d)) (E.Arithmetic op x (E.Const e))
  A6_over : (op : ArithmeticOp) (x : Expr) (c d e : Word) → IsBitwise op → Folds op c d e
      → Summing ws (E.Arithmetic op (E.Arithmetic op (E.Const c) x) (E.Const d)) (E.Arithmetic op x (E.Const e))
  -- -(-x), ~(~x): x
  A7 : (op : UnaryOp) (x : Expr) → Summing ws (E.Unary op (E.Unary op x)) x
  -- x + (-y): x - y
  A8_add : (x y : Expr) → Summing ws (E.Arithmetic Add x (E.Unary Neg y)) (E.Arithmetic Sub x y)
  -- x - (-y): x + y
  A8_sub : (x y : Expr) → Summing ws (E.Arithmetic Sub x (E.Unary Neg y)) (E.Arithmetic Add x y)
