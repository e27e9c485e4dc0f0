-- The rules of parts of words, of words put together and of extensions. Where a piece is the whole value, the value
-- itself stands.
use Rattle.std.specs.Prelude.{◌≡◌, ℕ, ◌+◌, ◌-◌, ◌<◌, ◌≤◌}
use Rattle.bits_core.specs.declared.word.Width.{Width}
use Rattle.bits_core.specs.declared.word.Word.{Word}
use Rattle.cmeaning.specs.declared.tree.ExtendOp.{ExtendOp}
use Rattle.cmeaning.specs.declared.tree.ExtendOp.TheVariants.{Zext, Sext}
use Rattle.cmeaning.specs.declared.tree.Expr.{Expr}
use Rattle.cmeaning.specs.declared.tree.Expr.TheVariants as E
use Rattle.rules.specs.Letters.{IsAtom, IsWide, IsWord}

pub data Parting (ws : ℕ → ℕ) : Expr → Expr → Type 0 where
  -- Sub(Concat(x, y), k, w), wholly in y: Sub(y, k, w), or y
  Z1_low : (x y : Expr) (k u : ℕ) (w : Width) → IsWide ws y u → k + w.bytes ≤ u → w.bytes < u
      → Parting ws (E.Part k w (E.Concat x y)) (E.Part k w y)
  Z1_low_whole : (x y : Expr) (w : Width) → IsWide ws y w.bytes → Parting ws (E.Part 0 w (E.Concat x y)) y
  -- wholly in x: Sub(x, k - width of y, w), or x
  Z1_high : (x y : Expr) (k t u : ℕ) (w : Width) → IsWide ws x t → IsWide ws y u → u ≤ k → w.bytes < t
      → Parting ws (E.Part k w (E.Concat x y)) (E.Part (k - u) w x)
  Z1_high_whole : (x y : Expr) (k : ℕ) (w : Width) → IsWide ws x w.bytes → IsWide ws y k
      → Parting ws (E.Part k w (E.Concat x y)) x
  -- Sub(Zext x, k, w), within x: Sub(x, k, w), or x
  Z2_within : (x : Expr) (k u : ℕ) (v w : Width) → IsWide ws x u → k + w.bytes ≤ u → w.bytes < u
      → Parting ws (E.Part k w (E.Extend Zext v x)) (E.Part k w x)
  Z2_whole : (x : Expr) (v w : Width) → IsWide ws x w.bytes → Parting ws (E.Part 0 w (E.Extend Zext v x)) x
  -- past x: 0
  Z2_past : (x : Expr) (k u : ℕ) (v w : Width) (z : Word) → IsWide ws x u → u ≤ k → IsWord w.bytes 0 z
      → Parting ws (E.Part k w (E.Extend Zext v x)) (E.Const z)
  -- from the lowest byte on and wider than x: Zext x
  Z2_wider : (x : Expr) (u : ℕ) (v w : Width) → IsWide ws x u → u < w.bytes
      → Parting ws (E.Part 0 w (E.Extend Zext v x)) (E.Extend Zext w x)
  -- Sub(Sub(x, j, v), k, w): Sub(x, j + k, w)
  Z3 : (x : Expr) (j k : ℕ) (v w : Width) → Parting ws (E.Part k w (E.Part j v x)) (E.Part (j + k) w x)
  -- Concat(Sub(x, k + b, a), Sub(x, k, b)): Sub(x, k, a + b), or x
  Z4 : (x : Expr) (j k t : ℕ) (a b c : Width) → IsAtom x → j ≡ k + b.bytes → c.bytes ≡ a.bytes + b.bytes
      → IsWide ws x t → c.bytes < t → Parting ws (E.Concat (E.Part j a x) (E.Part k b x)) (E.Part k c x)
  Z4_whole : (x : Expr) (j : ℕ) (a b : Width) → IsAtom x → j ≡ b.bytes → IsWide ws x (a.bytes + b.bytes)
      → Parting ws (E.Concat (E.Part j a x) (E.Part 0 b x)) x
  -- Concat(0, y): Zext y
  Z5 : (y : Expr) (u : ℕ) (c : Word) (w : Width) → c.value ≡ 0 → IsWide ws y u → w.bytes ≡ c.width.bytes + u
      → Parting ws (E.Concat (E.Const c) y) (E.Extend Zext w y)
  -- Zext(Zext x), Sext(Zext x): Zext x
  Z6_zext : (op : ExtendOp) (x : Expr) (v w : Width)
      → Parting ws (E.Extend op w (E.Extend Zext v x)) (E.Extend Zext w x)
  -- Sext(Sext x): Sext x
  Z6_sext : (x : Expr) (v w : Width) → Parting ws (E.Extend Sext w (E.Extend Sext v x)) (E.Extend Sext w x)
