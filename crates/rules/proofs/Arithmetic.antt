-- What the rules of sums, differences, products, bits and divisions keep.
use Rattle.std.proofs.Common.{◌≡◌, ℕ, ◌-◌, ◌<◌, ◌≤◌, refl, sym, ap, ◌∙◌, subst, arith}
use Rattle.std.specs.Int.Bits.{or_zero_r, xor_zero_r, and_zero_r, xor_self, and_self, or_self, and_comm, or_comm, xor_comm, xor_assoc}
use Rattle.std.proofs.lemmas.Nat.{and_assoc}
use Rattle.bits_core.specs.declared.word.Word.{Word}
use Rattle.bits_core.specs.declared.ops.Divide.TheVariants as D
use Rattle.bits_core.specs.Value.{limit, sub, binary_value, unary_value, quotient_or_rest}
use Rattle.laws.proofs.Sums as sums
use Rattle.laws.proofs.Bits.{and_ones, or_assoc}
use Rattle.laws.proofs.Division.{div_one, sdiv_one}
use Rattle.cmeaning.specs.declared.tree.UnaryOp.{UnaryOp}
use Rattle.cmeaning.specs.declared.tree.UnaryOp.TheVariants.{Neg, Not}
use Rattle.cmeaning.specs.declared.tree.ArithmeticOp.{ArithmeticOp}
use Rattle.cmeaning.specs.declared.tree.ArithmeticOp.TheVariants.{Add, Sub, Mul, And, Or, Xor}
use Rattle.cmeaning.specs.declared.tree.DivisionOp.TheVariants.{Div}
use Rattle.cmeaning.specs.declared.tree.SignedDivisionOp.TheVariants.{SDiv}
use Rattle.cmeaning.specs.declared.tree.Expr.{Expr}
use Rattle.cmeaning.specs.declared.tree.Expr.TheVariants as E
use Rattle.cmeaning.specs.Value.{unary_of, arithmetic_of}
use Rattle.rules.specs.Size.{depth_of}
use Rattle.rules.specs.Letters.{IsWide, IsWord, Folds, KeepsAtZero, FallsAtZero, Cancels, RepeatsItself, IsBitwise, Commutes}
use Rattle.rules.specs.Arithmetic.{Summing, A1, A2_mul, A2_and, A2_div, A2_sdiv, A3, A4_none, A4_same, A5_add_add, A5_add_add_over, A5_sub_sub, A5_add_sub, A5_add_sub_over, A5_sub_add, A6, A6_over, A7, A8_add, A8_sub}
use Rattle.rules.proofs.Nodes.{depths}
use Rattle.rules.proofs.Has as H
use Rattle.rules.proofs.Has.{Under, Has, Beside}

-- the value of an operation of the table
abbrev pub on : ArithmeticOp → ℕ → ℕ → ℕ → ℕ
on op w x y = binary_value (arithmetic_of op) w x w y w

pub commutes : (op : ArithmeticOp) (w a b : ℕ) → Commutes op → on op w a b ≡ on op w b a
commutes Add w a b h = sums.sum_comm w a b
commutes Sub w a b h = absurd h
commutes Mul w a b h = sums.product_comm w a b
commutes And w a b h = and_comm a b
commutes Or w a b h = or_comm a b
commutes Xor w a b h = xor_comm a b

at_zero : (op : ArithmeticOp) (w x : ℕ) → KeepsAtZero op → x < limit w → on op w x 0 ≡ x
at_zero Add w x k p = sums.add_zero w x p
at_zero Sub w x k p = sums.sub_zero w x p
at_zero Mul w x k p = absurd k
at_zero And w x k p = absurd k
at_zero Or w x k p = or_zero_r x
at_zero Xor w x k p = xor_zero_r x

falls : (op : ArithmeticOp) (w x : ℕ) → FallsAtZero op → on op w x 0 ≡ 0
falls Add w x k = absurd k
falls Sub w x k = absurd k
falls Mul w x k = sums.mul_zero w x
falls And w x k = and_zero_r x
falls Or w x k = absurd k
falls Xor w x k = absurd k

cancels : (op : ArithmeticOp) (w x : ℕ) → Cancels op → x < limit w → on op w x x ≡ 0
cancels Add w x k p = absurd k
cancels Sub w x k p = sums.sub_self w x p
cancels Mul w x k p = absurd k
cancels And w x k p = absurd k
cancels Or w x k p = absurd k
cancels Xor w x k p = xor_self x

repeats : (op : ArithmeticOp) (w x : ℕ) → RepeatsItself op → on op w x x ≡ x
repeats Add w x k = absurd k
repeats Sub w x k = absurd k
repeats Mul w x k = absurd k
repeats And w x k = and_self x
repeats Or w x k = or_self x
repeats Xor w x k = absurd k

bitwise_nests : (op : ArithmeticOp) (w a b c : ℕ) → IsBitwise op → on op w (on op w a b) c ≡ on op w a (on op w b c)
bitwise_nests Add w a b c k = absurd k
bitwise_nests Sub w a b c k = absurd k
bitwise_nests Mul w a b c k = absurd k
bitwise_nests And w a b c k = and_assoc c a b
bitwise_nests Or w a b c k = or_assoc a b c
bitwise_nests Xor w a b c k = xor_assoc a b c

pub bitwise_commutes : (op : ArithmeticOp) → IsBitwise op → Commutes op
bitwise_commutes Add k = absurd k
bitwise_commutes Sub k = absurd k
bitwise_commutes Mul k = absurd k
bitwise_commutes And k = tt
bitwise_commutes Or k = tt
bitwise_commutes Xor k = tt

doubled : (op : UnaryOp) (w x : ℕ) → x < limit w
    → unary_value (unary_of op) w (unary_value (unary_of op) w x w) w ≡ x
doubled Neg w x p = sums.neg_neg w x p
doubled Not w x p = sums.complement_complement w x p

module _ (ws : ℕ → ℕ) (u : Under ws) where
  -- operands changed over
  pub turn : (op : ArithmeticOp) (x y : Expr) → Commutes op → (w n : ℕ)
      → Has ws u (E.Arithmetic op y x) w n → Has ws u (E.Arithmetic op x y) w n
  turn op x y k w n h =
      let p = H.arithmetic_has ws u op y x h in
      H.arithmetic_made ws u op x y n p.right p.left (commutes op w p.y p.x k ∙ p.is)

  -- an operation beside a constant
  beside : (op : ArithmeticOp) (x : Expr) (c : Word) {w n : ℕ} → Has ws u (E.Arithmetic op x (E.Const c)) w n
      → Beside ws u x c w w (on op w) n
  beside op x c {w} {n} h = H.beside ws u x c w w (on op w) n (H.arithmetic_has ws u op x (E.Const c) h)

  -- the operand alone, by a law that the value is the operand's
  alone : (x : Expr) (c : Word) (w n : ℕ) (v : ℕ → ℕ → ℕ) → Beside ws u x c w w v n
      → ((y : ℕ) → y < limit w → c.width.bytes ≡ w → v y c.value ≡ y)
      → Has ws u x w n
  alone x c w n v b law =
      let e : b.x ≡ n = sym (law b.x (H.below ws u x b.left) b.width) ∙ b.is in
      subst (λ k. Has ws u x w k) e b.left

  a1 : (op : ArithmeticOp) (x : Expr) (c : Word) → KeepsAtZero op → c.value ≡ 0 → (w n : ℕ)
      → Has ws u (E.Arithmetic op x (E.Const c)) w n → Has ws u x w n
  a1 op x c k z w n h = alone x c w n (on op w) (beside op x c h) (λ y p e. ap (on op w y) z ∙ at_zero op w y k p)

  a2_mul : (x : Expr) (c : Word) → c.value ≡ 1 → (w n : ℕ)
      → Has ws u (E.Arithmetic Mul x (E.Const c)) w n → Has ws u x w n
  a2_mul x c z w n h = alone x c w n (on Mul w) (beside Mul x c h) (λ y p e. ap (on Mul w y) z ∙ sums.mul_one w y p)

  a2_and : (x : Expr) (c : Word) → c.value ≡ limit c.width.bytes - 1 → (w n : ℕ)
      → Has ws u (E.Arithmetic And x (E.Const c)) w n → Has ws u x w n
  a2_and x c z w n h = alone x c w n (on And w) (beside And x c h)
      (λ y p e. ap (on And w y) (z ∙ ap (λ k. limit k - 1) e) ∙ and_ones w y p)

  a2_div : (x : Expr) (c : Word) → c.value ≡ 1 → (w n : ℕ)
      → Has ws u (E.Division Div x (E.Const c)) w n → Has ws u x w n
  a2_div x c z w n h =
      let v : ℕ → ℕ → ℕ = quotient_or_rest D.Quotient w in
      alone x c w n v (H.beside ws u x c w w v n (H.division_has ws u Div x (E.Const c) h))
      (λ y p e. ap (v y) z ∙ div_one y)

  a2_sdiv : (x : Expr) (c : Word) → c.value ≡ 1 → (w n : ℕ)
      → Has ws u (E.SignedDivision SDiv x (E.Const c)) w n → Has ws u x w n
  a2_sdiv x c z w n h =
      let v : ℕ → ℕ → ℕ = quotient_or_rest D.SignedQuotient w in
      let b = H.beside ws u x c w w v n (H.signed_division_has ws u SDiv x (E.Const c) h) in
      alone x c w n v b (λ y p e. ap (v y) z ∙ sdiv_one w y (H.some ws u x b.left.size) p)

  a3 : (op : ArithmeticOp) (x : Expr) (c : Word) → FallsAtZero op → c.value ≡ 0 → (w n : ℕ)
      → Has ws u (E.Arithmetic op x (E.Const c)) w n → Has ws u (E.Const c) w n
  a3 op x c k z w n h =
      let b = beside op x c h in
      H.const_made ws u c w n b.width (z ∙ sym (falls op w b.x k) ∙ ap (on op w b.x) (sym z) ∙ b.is)

  -- one operand twice
  twice : (op : ArithmeticOp) (x : Expr) {w n : ℕ} → Has ws u (E.Arithmetic op x x) w n
      → (a : ℕ) × (Has ws u x w a × (on op w a a ≡ n))
  twice op x {w} h =
      let p = H.arithmetic_has ws u op x x h in
      let same : p.x ≡ p.y = (H.one_value ws u x p.left p.right).1 in
      (p.x, (p.left, ap (on op w p.x) same ∙ p.is))

  a4_none : (op : ArithmeticOp) (x : Expr) (z : Word) → Cancels op → IsWide ws x z.width.bytes → z.value ≡ 0 → (w n : ℕ)
      → Has ws u (E.Arithmetic op x x) w n → Has ws u (E.Const z) w n
  a4_none op x z k s e w n h =
      let t = twice op x h in
      H.const_made ws u z w n (H.one_width ws u x t.1.0 s) (e ∙ sym (cancels op w t.0 k (H.below ws u x t.1.0)) ∙ t.1.1)

  a4_same : (op : ArithmeticOp) (x : Expr) → RepeatsItself op → (w n : ℕ)
      → Has ws u (E.Arithmetic op x x) w n → Has ws u x w n
  a4_same op x k w n h =
      let t = twice op x h in
      subst (λ m. Has ws u x w m) (sym (repeats op w t.0 k) ∙ t.1.1) t.1.0

  -- nested constants, by the law of the row: e is what `fold` makes of them
  nested : (inner outer op : ArithmeticOp) (x : Expr) (c d e : Word) (fold : ℕ → ℕ → ℕ → ℕ)
      → ((w : ℕ) → c.width.bytes ≡ w → d.width.bytes ≡ w → IsWord w (fold w c.value d.value) e)
      → ((w a : ℕ) → a < limit w → c.value < limit w → d.value < limit w
      → on outer w (on inner w a c.value) d.value ≡ on op w a (fold w c.value d.value))
      → (w n : ℕ)
      → Has ws u (E.Arithmetic outer (E.Arithmetic inner x (E.Const c)) (E.Const d)) w n
      → Has ws u (E.Arithmetic op x (E.Const e)) w n
  nested inner outer op x c d e fold f law w n h =
      let p = beside outer (E.Arithmetic inner x (E.Const c)) d h in
      let q = beside inner x c p.left in
      let g = f w q.width p.width in
      let bc : c.value < limit w = subst (λ k. c.value < limit k) q.width c.below in
      let bd : d.value < limit w = subst (λ k. d.value < limit k) p.width d.below in
      let i : on outer w (on inner w q.x c.value) d.value ≡ n = ap (λ v. on outer w v d.value) q.is ∙ p.is in
      H.arithmetic_made ws u op x (E.Const e) n q.left (H.const_made ws u e w e.value g.width refl)
      (ap (on op w q.x) g.value ∙ sym (law w q.x (H.below ws u x q.left) bc bd) ∙ i)

  a5_add_add : (x : Expr) (c d e : Word) → Folds Add c d e → (w n : ℕ)
      → Has ws u (E.Arithmetic Add (E.Arithmetic Add x (E.Const c)) (E.Const d)) w n
      → Has ws u (E.Arithmetic Add x (E.Const e)) w n
  a5_add_add x c d e f = nested Add Add Add x c d e (on Add) (λ w i j. H.folded ws u Add c d e w f i)
      (λ w a p q r. sums.add_add w a c.value d.value p q r)

  a5_sub_sub : (x : Expr) (c d e : Word) → Folds Add c d e → (w n : ℕ)
      → Has ws u (E.Arithmetic Sub (E.Arithmetic Sub x (E.Const c)) (E.Const d)) w n
      → Has ws u (E.Arithmetic Sub x (E.Const e)) w n
  a5_sub_sub x c d e f = nested Sub Sub Sub x c d e (on Add) (λ w i j. H.folded ws u Add c d e w f i)
      (λ w a p q r. sums.sub_sub w a c.value d.value p q r)

  a5_add_sub : (x : Expr) (c d e : Word) → Folds Sub c d e → (w n : ℕ)
      → Has ws u (E.Arithmetic Sub (E.Arithmetic Add x (E.Const c)) (E.Const d)) w n
      → Has ws u (E.Arithmetic Add x (E.Const e)) w n
  a5_add_sub x c d e f = nested Add Sub Add x c d e (on Sub) (λ w i j. H.folded ws u Sub c d e w f i)
      (λ w a p q r. sums.sub_add w a c.value d.value p q r)

  a5_sub_add : (x : Expr) (c d e : Word) → Folds Sub d c e → (w n : ℕ)
      → Has ws u (E.Arithmetic Add (E.Arithmetic Sub x (E.Const c)) (E.Const d)) w n
      → Has ws u (E.Arithmetic Add x (E.Const e)) w n
  a5_sub_add x c d e f = nested Sub Add Add x c d e (λ w i j. sub w j i) (λ w i j. H.folded ws u Sub d c e w f j)
      (λ w a p q r. sums.add_sub w a c.value d.value p q r)

  a6 : (op : ArithmeticOp) (x : Expr) (c d e : Word) → IsBitwise op → Folds op c d e → (w n : ℕ)
      → Has ws u (E.Arithmetic op (E.Arithmetic op x (E.Const c)) (E.Const d)) w n
      → Has ws u (E.Arithmetic op x (E.Const e)) w n
  a6 op x c d e k f = nested op op op x c d e (on op) (λ w i j. H.folded ws u op c d e w f i)
      (λ w a p q r. bitwise_nests op w a c.value d.value k)

  -- with the inner constant on the left
  turned_inner : (inner outer : ArithmeticOp) (x : Expr) (c d : Word) → Commutes inner → (w n : ℕ)
      → Has ws u (E.Arithmetic outer (E.Arithmetic inner (E.Const c) x) (E.Const d)) w n
      → Has ws u (E.Arithmetic outer (E.Arithmetic inner x (E.Const c)) (E.Const d)) w n
  turned_inner inner outer x c d k w n h =
      H.arithmetic_under ws u outer (E.Arithmetic inner (E.Const c) x) (E.Arithmetic inner x (E.Const c)) (E.Const d)
      (turn inner x (E.Const c) k) h

  a7 : (op : UnaryOp) (x : Expr) (w n : ℕ) → Has ws u (E.Unary op (E.Unary op x)) w n → Has ws u x w n
  a7 op x w n h =
      let p = H.unary_has ws u op (E.Unary op x) h in
      let q = H.unary_has ws u op x p.1.0 in
      let e : unary_value (unary_of op) w (unary_value (unary_of op) w q.0 w) w ≡ n =
      ap (λ k. unary_value (unary_of op) w k w) q.1.1 ∙ p.1.1 in
      subst (λ k. Has ws u x w k) (sym (doubled op w q.0 (H.below ws u x q.1.0)) ∙ e) q.1.0

  -- a sum or a difference with a negation
  with_negation : (op to : ArithmeticOp) (x y : Expr)
      → ((w a b : ℕ) → a < limit w → b < limit w → on op w a (unary_value (unary_of Neg) w b w) ≡ on to w a b)
      → (w n : ℕ)
      → Has ws u (E.Arithmetic op x (E.Unary Neg y)) w n → Has ws u (E.Arithmetic to x y) w n
  with_negation op to x y law w n h =
      let p = H.arithmetic_has ws u op x (E.Unary Neg y) h in
      let q = H.unary_has ws u Neg y p.right in
      H.arithmetic_made ws u to x y n p.left q.1.0
      (sym (law w p.x q.0 (H.below ws u x p.left) (H.below ws u y q.1.0)) ∙ ap (on op w p.x) q.1.1 ∙ p.is)

pub sum_has : (ws : ℕ → ℕ) (u : Under ws) (l r : Expr) → Summing ws l r → (w n : ℕ) → Has ws u l w n → Has ws u r w n
sum_has ws u l r (A1 op x c k z) w n h = a1 ws u op x c k z w n h
sum_has ws u l r (A2_mul x c z) w n h = a2_mul ws u x c z w n h
sum_has ws u l r (A2_and x c z) w n h = a2_and ws u x c z w n h
sum_has ws u l r (A2_div x c z) w n h = a2_div ws u x c z w n h
sum_has ws u l r (A2_sdiv x c z) w n h = a2_sdiv ws u x c z w n h
sum_has ws u l r (A3 op x c k z) w n h = a3 ws u op x c k z w n h
sum_has ws u l r (A4_none op x z k a s e) w n h = a4_none ws u op x z k s e w n h
sum_has ws u l r (A4_same op x k a) w n h = a4_same ws u op x k w n h
sum_has ws u l r (A5_add_add x c d e f) w n h = a5_add_add ws u x c d e f w n h
sum_has ws u l r (A5_add_add_over x c d e f) w n h =
    a5_add_add ws u x c d e f w n (turned_inner ws u Add Add x c d tt w n h)
sum_has ws u l r (A5_sub_sub x c d e f) w n h = a5_sub_sub ws u x c d e f w n h
sum_has ws u l r (A5_add_sub x c d e f) w n h = a5_add_sub ws u x c d e f w n h
sum_has ws u l r (A5_add_sub_over x c d e f) w n h =
    a5_add_sub ws u x c d e f w n (turned_inner ws u Add Sub x c d tt w n h)
sum_has ws u l r (A5_sub_add x c d e f) w n h = a5_sub_add ws u x c d e f w n h
sum_has ws u l r (A6 op x c d e k f) w n h = a6 ws u op x c d e k f w n h
sum_has ws u l r (A6_over op x c d e k f) w n h =
    a6 ws u op x c d e k f w n (turned_inner ws u op op x c d (bitwise_commutes op k) w n h)
sum_has ws u l r (A7 op x) w n h = a7 ws u op x w n h
sum_has ws u l r (A8_add x y) w n h = with_negation ws u Add Sub x y (λ v a b p q. sums.add_neg v a b p q) w n h
sum_has ws u l r (A8_sub x y) w n h = with_negation ws u Sub Add x y (λ v a b p q. sums.sub_neg v a b p q) w n h

pub sum_depth : (ws : ℕ → ℕ) (l r : Expr) → Summing ws l r → depth_of r ≤ depth_of l
sum_depth ws l r (A1 op x c k z) = simp depths (omega arith)
sum_depth ws l r (A2_mul x c z) = simp depths (omega arith)
sum_depth ws l r (A2_and x c z) = simp depths (omega arith)
sum_depth ws l r (A2_div x c z) = simp depths (omega arith)
sum_depth ws l r (A2_sdiv x c z) = simp depths (omega arith)
sum_depth ws l r (A3 op x c k z) = simp depths (omega arith)
sum_depth ws l r (A4_none op x z k a s e) = simp depths (omega arith)
sum_depth ws l r (A4_same op x k a) = simp depths (omega arith)
sum_depth ws l r (A5_add_add x c d e f) = simp depths (omega arith)
sum_depth ws l r (A5_add_add_over x c d e f) = simp depths (omega arith)
sum_depth ws l r (A5_sub_sub x c d e f) = simp depths (omega arith)
sum_depth ws l r (A5_add_sub x c d e f) = simp depths (omega arith)
sum_depth ws l r (A5_add_sub_over x c d e f) = simp depths (omega arith)
sum_depth ws l r (A5_sub_add x c d e f) = simp depths (omega arith)
sum_depth ws l r (A6 op x c d e k f) = simp depths (omega arith)
sum_depth ws l r (A6_over op x c d e k f) = simp depths (omega arith)
sum_depth ws l r (A7 op x) = simp depths (omega arith)
sum_depth ws l r (A8_add x y) = simp depths (omega arith)
sum_depth ws l r (A8_sub x y) = simp depths (omega arith)
