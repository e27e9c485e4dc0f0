-- What the rules of shifts keep.
use Rattle.std.proofs.Common.{◌≡◌, ◌≢◌, ℕ, ◌-◌, ◌*◌, ◌<◌, ◌≤◌, refl, sym, ap, ◌∙◌, subst, arith}
use Rattle.bits_core.specs.declared.word.Word.{Word}
use Rattle.bits_core.specs.Value.{limit, binary_value}
use Rattle.laws.proofs.Shifts.{left_zero, right_zero, sright_zero, left_out, right_out, sright_out}
use Rattle.cmeaning.specs.declared.tree.ShiftOp.{ShiftOp}
use Rattle.cmeaning.specs.declared.tree.ShiftOp.TheVariants.{Shl, Shr, Sar}
use Rattle.cmeaning.specs.declared.tree.Expr.{Expr}
use Rattle.cmeaning.specs.declared.tree.Expr.TheVariants as E
use Rattle.cmeaning.specs.Value.{shift_of}
use Rattle.rules.specs.Size.{depth_of}
use Rattle.rules.specs.Letters.{IsWide, IsWord}
use Rattle.rules.specs.Shifts.{Shifting, A1_shift, S1, S2}
use Rattle.rules.proofs.Nodes.{depths}
use Rattle.rules.proofs.Has as H
use Rattle.rules.proofs.Has.{Under, Has, Beside}

at_zero : (op : ShiftOp) (w s x : ℕ) → 0 < w → x < limit w → binary_value (shift_of op) w x s 0 w ≡ x
at_zero Shl w s x some p = left_zero w x p
at_zero Shr w s x some p = right_zero x
at_zero Sar w s x some p = sright_zero w x some p

past : (op : ShiftOp) (w s x k : ℕ) → op ≢ Sar → x < limit w → 8 * w ≤ k → binary_value (shift_of op) w x s k w ≡ 0
past Shl w s x k plain p h = left_out w x k h
past Shr w s x k plain p h = right_out w x k p h
past Sar w s x k plain p h = absurd (plain refl)

module _ (ws : ℕ → ℕ) (u : Under ws) where
  beside : (op : ShiftOp) (x : Expr) (c : Word) (w n : ℕ) → Has ws u (E.Shift op x (E.Const c)) w n
      → (s : ℕ) × Beside ws u x c w s (λ a b. binary_value (shift_of op) w a s b w) n
  beside op x c w n h =
      let p = H.shift_has ws u op x (E.Const c) h in
      (p.0, H.beside ws u x c w p.0 (λ a b. binary_value (shift_of op) w a p.0 b w) n p.1)

  a1 : (op : ShiftOp) (x : Expr) (c : Word) → c.value ≡ 0 → (w n : ℕ)
      → Has ws u (E.Shift op x (E.Const c)) w n → Has ws u x w n
  a1 op x c z w n h =
      let b = beside op x c w n h in
      let v : ℕ → ℕ = λ k. binary_value (shift_of op) w b.1.x b.0 k w in
      let law : v 0 ≡ b.1.x = at_zero op w b.0 b.1.x (H.some ws u x b.1.left.size) (H.below ws u x b.1.left) in
      subst (λ k. Has ws u x w k) (sym law ∙ ap v (sym z) ∙ b.1.is) b.1.left

  s1 : (op : ShiftOp) (x : Expr) (c z : Word) → op ≢ Sar → IsWide ws x z.width.bytes → 8 * z.width.bytes ≤ c.value
      → z.value ≡ 0 → (w n : ℕ)
      → Has ws u (E.Shift op x (E.Const c)) w n → Has ws u (E.Const z) w n
  s1 op x c z plain s more e w n h =
      let b = beside op x c w n h in
      let t : z.width.bytes ≡ w = H.one_width ws u x b.1.left s in
      let m : 8 * w ≤ c.value = subst (λ k. 8 * k ≤ c.value) t more in
      H.const_made ws u z w n t (e ∙ sym (past op w b.0 b.1.x c.value plain (H.below ws u x b.1.left) m) ∙ b.1.is)

  s2 : (x : Expr) (v : ℕ) (c e : Word)
      → IsWide ws x v
      → 8 * v ≤ c.value
      → IsWord c.width.bytes (8 * v - 1) e
      → (w n : ℕ)
      → Has ws u (E.Shift Sar x (E.Const c)) w n → Has ws u (E.Shift Sar x (E.Const e)) w n
  s2 x v c e s more f w n h =
      let b = beside Sar x c w n h in
      let t : v ≡ w = H.one_width ws u x b.1.left s in
      let m : 8 * w ≤ c.value = subst (λ k. 8 * k ≤ c.value) t more in
      let by : e.value ≡ 8 * w - 1 = f.value ∙ ap (λ k. 8 * k - 1) t in
      let at : ℕ → ℕ = λ k. binary_value (shift_of Sar) w b.1.x b.0 k w in
      let law : at c.value ≡ at (8 * w - 1) =
      sright_out w b.1.x c.value (H.some ws u x b.1.left.size) (H.below ws u x b.1.left) m in
      H.shift_made ws u Sar x (E.Const e) n b.1.left (H.const_made ws u e b.0 e.value (f.width ∙ b.1.width) refl)
      (ap at by ∙ sym law ∙ b.1.is)

pub shift_has : (ws : ℕ → ℕ) (u : Under ws) (l r : Expr) → Shifting ws l r → (w n : ℕ) → Has ws u l w n → Has ws u r w n
shift_has ws u l r (A1_shift op x c z) w n h = a1 ws u op x c z w n h
shift_has ws u l r (S1 op x c z plain s more e) w n h = s1 ws u op x c z plain s more e w n h
shift_has ws u l r (S2 x v c e s more f) w n h = s2 ws u x v c e s more f w n h

pub shift_depth : (ws : ℕ → ℕ) (l r : Expr) → Shifting ws l r → depth_of r ≤ depth_of l
shift_depth ws l r (A1_shift op x c z) = simp depths (omega arith)
shift_depth ws l r (S1 op x c z plain s more e) = simp depths (omega arith)
shift_depth ws l r (S2 x v c e s more f) = simp depths (omega arith)
