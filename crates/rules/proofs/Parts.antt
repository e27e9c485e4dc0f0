-- What the rules of parts, of words put together and of extensions keep.
use Rattle.std.proofs.Common.{◌≡◌, ℕ, ◌+◌, ◌-◌, ◌<◌, ◌≤◌, sym, ap, ◌∙◌, subst, arith}
use Rattle.bits_core.specs.declared.word.Width.{Width}
use Rattle.bits_core.specs.declared.word.Word.{Word}
use Rattle.bits_core.specs.Value.{limit, part, concat, zext, sext, unary_value}
use Rattle.laws.proofs.Parts as parts
use Rattle.cmeaning.specs.declared.tree.ExtendOp.{ExtendOp}
use Rattle.cmeaning.specs.declared.tree.ExtendOp.TheVariants.{Zext, Sext}
use Rattle.cmeaning.specs.declared.tree.Expr.{Expr}
use Rattle.cmeaning.specs.declared.tree.Expr.TheVariants as E
use Rattle.cmeaning.specs.Value.{extend_of}
use Rattle.rules.specs.Size.{depth_of}
use Rattle.rules.specs.Letters.{IsWide, IsWord}
use Rattle.rules.specs.Parts.{Parting, Z1_low, Z1_low_whole, Z1_high, Z1_high_whole, Z2_within, Z2_whole, Z2_past, Z2_wider, Z3, Z4, Z4_whole, Z5, Z6_zext, Z6_sext}
use Rattle.rules.proofs.Nodes.{depths}
use Rattle.rules.proofs.Has as H
use Rattle.rules.proofs.Has.{Under, Has, Pair}

-- a node extended twice, by the outer operation
twice : (op : ExtendOp) (t v w x : ℕ) → t < v → v ≤ w → x < limit t → unary_value (extend_of op) v (zext x) w ≡ zext x
twice Zext t v w x h k p = parts.zext_zext x
twice Sext t v w x h k p = parts.sext_zext t v w x h k p

-- a part of two words put together
record Joined (ws : ℕ → ℕ) (u : Under ws) (x y : Expr) (k : ℕ) (v : Width) (w n : ℕ) : Type 0 where
  high : ℕ
  low : ℕ
  a : ℕ
  b : ℕ
  left : Has ws u x high a
  right : Has ws u y low b
  value : part (concat low a b) k v.bytes ≡ n
  inside : k + v.bytes ≤ high + low
  wide : v.bytes ≡ w

-- a part of a word extended by zeros
record Extended (ws : ℕ → ℕ) (u : Under ws) (x : Expr) (k : ℕ) (v w : Width) (t n : ℕ) : Type 0 where
  width : ℕ
  a : ℕ
  operand : Has ws u x width a
  value : part (zext a) k w.bytes ≡ n
  narrow : width < v.bytes
  less : w.bytes < v.bytes
  wide : w.bytes ≡ t

-- the part that is the whole
whole : (a v w : ℕ) → v ≡ w → a < limit w → part a 0 v ≡ a
whole a v w e p = ap (part a 0) e ∙ parts.part_whole a w p

module _ (ws : ℕ → ℕ) (u : Under ws) where
  joined : (x y : Expr) (k : ℕ) (v : Width) (w n : ℕ) → Has ws u (E.Part k v (E.Concat x y)) w n
      → Joined ws u x y k v w n
  joined x y k v w n h =
      let p = H.part_has ws u k v (E.Concat x y) h in
      let q = H.concat_has ws u x y p.1.1.0 in
      let e : q.0 + q.1.0 ≡ p.0 = q.1.1.1 in
      record {
        high = q.0;
        low = q.1.0;
        a = q.1.1.0.x;
        b = q.1.1.0.y;
        left = q.1.1.0.left;
        right = q.1.1.0.right;
        value = ap (λ m. part m k v.bytes) q.1.1.0.is ∙ p.1.1.1;
        inside = subst (λ t. k + v.bytes ≤ t) (sym e) p.1.1.2;
        wide = p.1.1.4;
      }

  z1_low : (x y : Expr) (k t : ℕ) (v : Width) → IsWide ws y t → k + v.bytes ≤ t → v.bytes < t → (w n : ℕ)
      → Has ws u (E.Part k v (E.Concat x y)) w n → Has ws u (E.Part k v y) w n
  z1_low x y k t v s inside less w n h =
      let j = joined x y k v w n h in
      let e : t ≡ j.low = H.one_width ws u y j.right s in
      let le : k + v.bytes ≤ j.low = subst (λ z. k + v.bytes ≤ z) e inside in
      let lt : v.bytes < j.low = subst (λ z. v.bytes < z) e less in
      H.part_made ws u k v y w n j.right le lt j.wide (sym (parts.part_low j.low j.a j.b k v.bytes le) ∙ j.value)

  z1_low_whole : (x y : Expr) (v : Width) → IsWide ws y v.bytes → (w n : ℕ)
      → Has ws u (E.Part 0 v (E.Concat x y)) w n → Has ws u y w n
  z1_low_whole x y v s w n h =
      let j = joined x y 0 v w n h in
      let e : v.bytes ≡ j.low = H.one_width ws u y j.right s in
      let le : 0 + v.bytes ≤ j.low = omega arith in
      let law : part (concat j.low j.a j.b) 0 v.bytes ≡ j.b =
      parts.part_low j.low j.a j.b 0 v.bytes le ∙ whole j.b v.bytes j.low e (H.below ws u y j.right) in
      subst (λ m. Has ws u y w m) (sym law ∙ j.value) (subst (λ t. Has ws u y t j.b) (sym e ∙ j.wide) j.right)

  z1_high : (x y : Expr) (k t s : ℕ) (v : Width) → IsWide ws x t → IsWide ws y s → s ≤ k → v.bytes < t → (w n : ℕ)
      → Has ws u (E.Part k v (E.Concat x y)) w n → Has ws u (E.Part (k - s) v x) w n
  z1_high x y k t s v i i' past less w n h =
      let j = joined x y k v w n h in
      let e : t ≡ j.high = H.one_width ws u x j.left i in
      let f : s ≡ j.low = H.one_width ws u y j.right i' in
      let all : k + v.bytes ≤ j.high + j.low = j.inside in
      let le : (k - s) + v.bytes ≤ j.high = omega arith in
      let lt : v.bytes < j.high = subst (λ z. v.bytes < z) e less in
      let after : j.low ≤ k = subst (λ z. z ≤ k) f past in
      let law = parts.part_high j.low j.a j.b k v.bytes (H.below ws u y j.right) after in
      H.part_made ws u (k - s) v x w n j.left le lt j.wide (ap (λ z. part j.a (k - z) v.bytes) f ∙ sym law ∙ j.value)

  z1_high_whole : (x y : Expr) (k : ℕ) (v : Width) → IsWide ws x v.bytes → IsWide ws y k → (w n : ℕ)
      → Has ws u (E.Part k v (E.Concat x y)) w n → Has ws u x w n
  z1_high_whole x y k v i i' w n h =
      let j = joined x y k v w n h in
      let e : v.bytes ≡ j.high = H.one_width ws u x j.left i in
      let f : k ≡ j.low = H.one_width ws u y j.right i' in
      let after : j.low ≤ k = omega arith in
      let none : k - j.low ≡ 0 = omega arith in
      let law : part (concat j.low j.a j.b) k v.bytes ≡ j.a =
      parts.part_high j.low j.a j.b k v.bytes (H.below ws u y j.right) after
      ∙ ap (λ z. part j.a z v.bytes) none ∙ whole j.a v.bytes j.high e (H.below ws u x j.left) in
      subst (λ m. Has ws u x w m) (sym law ∙ j.value) (subst (λ t. Has ws u x t j.a) (sym e ∙ j.wide) j.left)

  extended : (x : Expr) (k : ℕ) (v w : Width) (t n : ℕ) → Has ws u (E.Part k w (E.Extend Zext v x)) t n
      → Extended ws u x k v w t n
  extended x k v w t n h =
      let p = H.part_has ws u k w (E.Extend Zext v x) h in
      let q = H.extend_has ws u Zext v x p.1.1.0 in
      record {
        width = q.0;
        a = q.1.0;
        operand = q.1.1.0;
        value = ap (λ m. part m k w.bytes) q.1.1.1 ∙ p.1.1.1;
        narrow = q.1.1.2;
        less = subst (λ z. w.bytes < z) (sym q.1.1.3) p.1.1.3;
        wide = p.1.1.4;
      }

  z2_within : (x : Expr) (k t : ℕ) (v w : Width) → IsWide ws x t → k + w.bytes ≤ t → w.bytes < t → (s n : ℕ)
      → Has ws u (E.Part k w (E.Extend Zext v x)) s n → Has ws u (E.Part k w x) s n
  z2_within x k t v w i inside less s n h =
      let p = extended x k v w s n h in
      let e : t ≡ p.width = H.one_width ws u x p.operand i in
      let le : k + w.bytes ≤ p.width = subst (λ z. k + w.bytes ≤ z) e inside in
      let lt : w.bytes < p.width = subst (λ z. w.bytes < z) e less in
      H.part_made ws u k w x s n p.operand le lt p.wide (sym (parts.part_within p.a k w.bytes) ∙ p.value)

  z2_whole : (x : Expr) (v w : Width) → IsWide ws x w.bytes → (s n : ℕ)
      → Has ws u (E.Part 0 w (E.Extend Zext v x)) s n → Has ws u x s n
  z2_whole x v w i s n h =
      let p = extended x 0 v w s n h in
      let e : w.bytes ≡ p.width = H.one_width ws u x p.operand i in
      let law : part (zext p.a) 0 w.bytes ≡ p.a =
      parts.part_within p.a 0 w.bytes ∙ whole p.a w.bytes p.width e (H.below ws u x p.operand) in
      subst (λ m. Has ws u x s m) (sym law ∙ p.value) (subst (λ t. Has ws u x t p.a) (sym e ∙ p.wide) p.operand)

  z2_past : (x : Expr) (k t : ℕ) (v w : Width) (z : Word) → IsWide ws x t → t ≤ k → IsWord w.bytes 0 z → (s n : ℕ)
      → Has ws u (E.Part k w (E.Extend Zext v x)) s n → Has ws u (E.Const z) s n
  z2_past x k t v w z i past f s n h =
      let p = extended x k v w s n h in
      let e : t ≡ p.width = H.one_width ws u x p.operand i in
      let after : p.width ≤ k = subst (λ m. m ≤ k) e past in
      let law = parts.part_past p.width p.a k w.bytes (H.below ws u x p.operand) after in
      H.const_made ws u z s n (f.width ∙ p.wide) (f.value ∙ sym law ∙ p.value)

  z2_wider : (x : Expr) (t : ℕ) (v w : Width) → IsWide ws x t → t < w.bytes → (s n : ℕ)
      → Has ws u (E.Part 0 w (E.Extend Zext v x)) s n → Has ws u (E.Extend Zext w x) s n
  z2_wider x t v w i wider s n h =
      let p = extended x 0 v w s n h in
      let e : t ≡ p.width = H.one_width ws u x p.operand i in
      let lt : p.width < w.bytes = subst (λ m. m < w.bytes) e wider in
      let law = parts.part_wider p.width p.a w.bytes (H.below ws u x p.operand) (omega arith) in
      H.extend_made ws u Zext w x s n p.operand lt p.wide (sym law ∙ p.value)

  z3 : (x : Expr) (j k : ℕ) (v w : Width) (s n : ℕ)
      → Has ws u (E.Part k w (E.Part j v x)) s n → Has ws u (E.Part (j + k) w x) s n
  z3 x j k v w s n h =
      let p = H.part_has ws u k w (E.Part j v x) h in
      let q = H.part_has ws u j v x p.1.1.0 in
      let e : v.bytes ≡ p.0 = q.1.1.4 in
      let outer : k + w.bytes ≤ p.0 = p.1.1.2 in
      let inner : j + v.bytes ≤ q.0 = q.1.1.2 in
      let le : k + w.bytes ≤ v.bytes = omega arith in
      let lt : w.bytes < p.0 = p.1.1.3 in
      let lt' : v.bytes < q.0 = q.1.1.3 in
      H.part_made ws u (j + k) w x s n q.1.1.0 (omega arith) (omega arith) p.1.1.4
      (sym (parts.part_part q.1.0 j v.bytes k w.bytes le) ∙ ap (λ m. part m k w.bytes) q.1.1.1 ∙ p.1.1.1)

  -- two parts of one letter put together
  parts_of : (x : Expr) (j k : ℕ) (a b : Width) (s n : ℕ) → j ≡ k + b.bytes
      → Has ws u (E.Concat (E.Part j a x) (E.Part k b x)) s n
      → (t : ℕ) × ((y : ℕ) × (Has ws u x t y × (part y k (a.bytes + b.bytes) ≡ n)
      × (k + (a.bytes + b.bytes) ≤ t) × (a.bytes + b.bytes ≡ s)))
  parts_of x j k a b s n is h =
      let c = H.concat_has ws u (E.Part j a x) (E.Part k b x) h in
      let p = H.part_has ws u j a x c.1.1.0.left in
      let q = H.part_has ws u k b x c.1.1.0.right in
      let o = H.one_value ws u x q.1.1.0 p.1.1.0 in
      let ea : a.bytes ≡ c.0 = p.1.1.4 in
      let eb : b.bytes ≡ c.1.0 = q.1.1.4 in
      let ec : c.0 + c.1.0 ≡ s = c.1.1.1 in
      let le : j + a.bytes ≤ p.0 = p.1.1.2 in
      let high : part p.1.0 (k + b.bytes) a.bytes ≡ c.1.1.0.x = ap (λ z. part p.1.0 z a.bytes) (sym is) ∙ p.1.1.1 in
      let low : part p.1.0 k b.bytes ≡ c.1.1.0.y = ap (λ z. part z k b.bytes) (sym o.1) ∙ q.1.1.1 in
      let both : concat b.bytes (part p.1.0 (k + b.bytes) a.bytes) (part p.1.0 k b.bytes) ≡ n =
      ap (λ z. concat z (part p.1.0 (k + b.bytes) a.bytes) (part p.1.0 k b.bytes)) eb
      ∙ ap (λ z. concat c.1.0 z (part p.1.0 k b.bytes)) high ∙ ap (concat c.1.0 c.1.1.0.x) low ∙ c.1.1.0.is in
      (p.0, (p.1.0, (p.1.1.0, sym (parts.parts_joined p.1.0 k a.bytes b.bytes) ∙ both, omega arith, omega arith)))

  z4 : (x : Expr) (j k t : ℕ) (a b c : Width) → j ≡ k + b.bytes → c.bytes ≡ a.bytes + b.bytes → IsWide ws x t
      → c.bytes < t → (s n : ℕ)
      → Has ws u (E.Concat (E.Part j a x) (E.Part k b x)) s n → Has ws u (E.Part k c x) s n
  z4 x j k t a b c is sum i less s n h =
      let p = parts_of x j k a b s n is h in
      let e : t ≡ p.0 = H.one_width ws u x p.1.1.0 i in
      let all : k + (a.bytes + b.bytes) ≤ p.0 = p.1.1.2 in
      let wide : a.bytes + b.bytes ≡ s = p.1.1.3 in
      H.part_made ws u k c x s n p.1.1.0 (omega arith) (omega arith) (sum ∙ wide) (ap (part p.1.0 k) sum ∙ p.1.1.1)

  z4_whole : (x : Expr) (j : ℕ) (a b : Width) → j ≡ b.bytes → IsWide ws x (a.bytes + b.bytes) → (s n : ℕ)
      → Has ws u (E.Concat (E.Part j a x) (E.Part 0 b x)) s n → Has ws u x s n
  z4_whole x j a b is i s n h =
      let from : j ≡ 0 + b.bytes = omega arith in
      let p = parts_of x j 0 a b s n from h in
      let e : a.bytes + b.bytes ≡ p.0 = H.one_width ws u x p.1.1.0 i in
      let law = whole p.1.0 (a.bytes + b.bytes) p.0 e (H.below ws u x p.1.1.0) in
      subst (λ m. Has ws u x s m) (sym law ∙ p.1.1.1)
      (subst (λ t. Has ws u x t p.1.0) (sym e ∙ p.1.1.3) p.1.1.0)

  z5 : (y : Expr) (t : ℕ) (c : Word) (v : Width) → c.value ≡ 0 → IsWide ws y t → v.bytes ≡ c.width.bytes + t → (w n : ℕ)
      → Has ws u (E.Concat (E.Const c) y) w n → Has ws u (E.Extend Zext v y) w n
  z5 y t c v z i sum w n h =
      let p = H.concat_has ws u (E.Const c) y h in
      let k = H.const_is ws u c p.1.1.0.left in
      let e : t ≡ p.1.0 = H.one_width ws u y p.1.1.0.right i in
      let f : c.width.bytes ≡ p.0 = k.0 in
      let g : p.0 + p.1.0 ≡ w = p.1.1.1 in
      let some : 0 < c.width.bytes = c.width.from in
      let zero : 0 ≡ p.1.1.0.x = sym z ∙ k.1 in
      let law = parts.concat_zero p.1.0 p.1.1.0.y in
      H.extend_made ws u Zext v y w n p.1.1.0.right (omega arith) (omega arith)
      (sym law ∙ ap (λ a. concat p.1.0 a p.1.1.0.y) zero ∙ p.1.1.0.is)

  z6_zext : (op : ExtendOp) (x : Expr) (v w : Width) (s n : ℕ)
      → Has ws u (E.Extend op w (E.Extend Zext v x)) s n → Has ws u (E.Extend Zext w x) s n
  z6_zext op x v w s n h =
      let p = H.extend_has ws u op w (E.Extend Zext v x) h in
      let q = H.extend_has ws u Zext v x p.1.1.0 in
      let e : v.bytes ≡ p.0 = q.1.1.3 in
      let inner : q.0 < v.bytes = q.1.1.2 in
      let outer : p.0 < w.bytes = p.1.1.2 in
      let narrow : q.0 < p.0 = omega arith in
      let le : p.0 ≤ w.bytes = omega arith in
      let law = twice op q.0 p.0 w.bytes q.1.0 narrow le (H.below ws u x q.1.1.0) in
      H.extend_made ws u Zext w x s n q.1.1.0 (omega arith) p.1.1.3
      (sym law ∙ ap (λ m. unary_value (extend_of op) p.0 m w.bytes) q.1.1.1 ∙ p.1.1.1)

  z6_sext : (x : Expr) (v w : Width) (s n : ℕ)
      → Has ws u (E.Extend Sext w (E.Extend Sext v x)) s n → Has ws u (E.Extend Sext w x) s n
  z6_sext x v w s n h =
      let p = H.extend_has ws u Sext w (E.Extend Sext v x) h in
      let q = H.extend_has ws u Sext v x p.1.1.0 in
      let e : v.bytes ≡ p.0 = q.1.1.3 in
      let inner : q.0 < v.bytes = q.1.1.2 in
      let outer : p.0 < w.bytes = p.1.1.2 in
      let le : v.bytes ≤ w.bytes = omega arith in
      let narrow : q.0 ≤ v.bytes = omega arith in
      let law =
      parts.sext_sext q.0 v.bytes w.bytes q.1.0 (H.some ws u x q.1.1.0.size) narrow le (H.below ws u x q.1.1.0) in
      H.extend_made ws u Sext w x s n q.1.1.0 (omega arith) p.1.1.3
      (sym law ∙ ap (λ t. sext t w.bytes (sext q.0 v.bytes q.1.0)) e ∙ ap (sext p.0 w.bytes) q.1.1.1 ∙ p.1.1.1)

pub part_has : (ws : ℕ → ℕ) (u : Under ws) (l r : Expr) → Parting ws l r → (w n : ℕ) → Has ws u l w n → Has ws u r w n
part_has ws u l r (Z1_low x y k t v s i j) w n h = z1_low ws u x y k t v s i j w n h
part_has ws u l r (Z1_low_whole x y v s) w n h = z1_low_whole ws u x y v s w n h
part_has ws u l r (Z1_high x y k t s v i j past less) w n h = z1_high ws u x y k t s v i j past less w n h
part_has ws u l r (Z1_high_whole x y k v i j) w n h = z1_high_whole ws u x y k v i j w n h
part_has ws u l r (Z2_within x k t v c i j less) w n h = z2_within ws u x k t v c i j less w n h
part_has ws u l r (Z2_whole x v c i) w n h = z2_whole ws u x v c i w n h
part_has ws u l r (Z2_past x k t v c z i past f) w n h = z2_past ws u x k t v c z i past f w n h
part_has ws u l r (Z2_wider x t v c i wider) w n h = z2_wider ws u x t v c i wider w n h
part_has ws u l r (Z3 x j k v c) w n h = z3 ws u x j k v c w n h
part_has ws u l r (Z4 x j k t a b c at is sum i less) w n h = z4 ws u x j k t a b c is sum i less w n h
part_has ws u l r (Z4_whole x j a b at is i) w n h = z4_whole ws u x j a b is i w n h
part_has ws u l r (Z5 y t c v z i sum) w n h = z5 ws u y t c v z i sum w n h
part_has ws u l r (Z6_zext op x v c) w n h = z6_zext ws u op x v c w n h
part_has ws u l r (Z6_sext x v c) w n h = z6_sext ws u x v c w n h

pub part_depth : (ws : ℕ → ℕ) (l r : Expr) → Parting ws l r → depth_of r ≤ depth_of l
part_depth ws l r (Z1_low x y k t v s i j) = simp depths (omega arith)
part_depth ws l r (Z1_low_whole x y v s) = simp depths (omega arith)
part_depth ws l r (Z1_high x y k t s v i j past less) = simp depths (omega arith)
part_depth ws l r (Z1_high_whole x y k v i j) = simp depths (omega arith)
part_depth ws l r (Z2_within x k t v c i j less) = simp depths (omega arith)
part_depth ws l r (Z2_whole x v c i) = simp depths (omega arith)
part_depth ws l r (Z2_past x k t v c z i past f) = simp depths (omega arith)
part_depth ws l r (Z2_wider x t v c i wider) = simp depths (omega arith)
part_depth ws l r (Z3 x j k v c) = simp depths (omega arith)
part_depth ws l r (Z4 x j k t a b c at is sum i less) = simp depths (omega arith)
part_depth ws l r (Z4_whole x j a b at is i) = simp depths (omega arith)
part_depth ws l r (Z5 y t c v z i sum) = simp depths (omega arith)
part_depth ws l r (Z6_zext op x v c) = simp depths (omega arith)
part_depth ws l r (Z6_sext x v c) = simp depths (omega arith)
