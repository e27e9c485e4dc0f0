-- What the rules of comparisons, carries and borrows keep.
use Rattle.std.proofs.Common.{◌≡◌, ℕ, ◌<◌, ◌≤◌, refl, sym, ap, ◌∙◌, subst, arith}
use Rattle.bits_core.specs.declared.word.Word.{Word}
use Rattle.bits_core.specs.Value.{limit, sub, slt, sborrow, eq, ne, binary_value}
use Rattle.laws.proofs.Compare as compare
use Rattle.cmeaning.specs.declared.tree.ArithmeticOp.{ArithmeticOp}
use Rattle.cmeaning.specs.declared.tree.ArithmeticOp.TheVariants as A
use Rattle.cmeaning.specs.declared.tree.CompareOp.{CompareOp}
use Rattle.cmeaning.specs.declared.tree.CompareOp.TheVariants.{Eq, Ne, Lt, Le}
use Rattle.cmeaning.specs.declared.tree.SignedCompareOp.{SignedCompareOp}
use Rattle.cmeaning.specs.declared.tree.SignedCompareOp.TheVariants.{SLt, SLe}
use Rattle.cmeaning.specs.declared.tree.OverflowOp.{OverflowOp}
use Rattle.cmeaning.specs.declared.tree.OverflowOp.TheVariants.{Carry, SCarry, SBorrow}
use Rattle.cmeaning.specs.declared.tree.Expr.{Expr}
use Rattle.cmeaning.specs.declared.tree.Expr.TheVariants as E
use Rattle.cmeaning.specs.Value.{compare_of, signed_compare_of, overflow_of}
use Rattle.rules.specs.Size.{depth_of}
use Rattle.rules.specs.Letters.{IsWord, Folds, IsEquality, CommutesFlag, of_self, of_signed_self}
use Rattle.rules.specs.Comparisons.{Comparing, C1_sub, C1_xor, C2_add, C2_add_over, C2_sub, C3_ne, C3_eq, C4_signed, C4_signed_over, C4, C4_over, C5_signed, C5_signed_over, C5, C5_over, C6, C7_below_zero, C7_from_zero, C7_below_one, C7_to_zero, C8, C8_signed}
use Rattle.rules.proofs.Nodes.{depths}
use Rattle.rules.proofs.Has as H
use Rattle.rules.proofs.Has.{Under, Has, Pair}
use Rattle.rules.proofs.Arithmetic.{on, turn}

-- the values of tests
abbrev test : CompareOp → ℕ → ℕ → ℕ → ℕ
test op t x y = binary_value (compare_of op) t x t y 1

abbrev signed_test : SignedCompareOp → ℕ → ℕ → ℕ → ℕ
signed_test op t x y = binary_value (signed_compare_of op) t x t y 1

abbrev flag_of : OverflowOp → ℕ → ℕ → ℕ → ℕ
flag_of op t x y = binary_value (overflow_of op) t x t y 1

pub equality_commutes : (op : CompareOp) (t a b : ℕ) → IsEquality op → test op t a b ≡ test op t b a
equality_commutes Eq t a b k = compare.eq_comm a b
equality_commutes Ne t a b k = compare.ne_comm a b
equality_commutes Lt t a b k = absurd k
equality_commutes Le t a b k = absurd k

pub flag_commutes : (op : OverflowOp) (t a b : ℕ) → CommutesFlag op → flag_of op t a b ≡ flag_of op t b a
flag_commutes Carry t a b k = compare.carry_comm t a b
flag_commutes SCarry t a b k = compare.scarry_comm t a b
flag_commutes SBorrow t a b k = absurd k

difference : (op : CompareOp) (t x y : ℕ) → IsEquality op → x < limit t → y < limit t
    → test op t (on A.Sub t x y) 0 ≡ test op t x y
difference Eq t x y k p q = compare.sub_eq_zero t x y p q
difference Ne t x y k p q = compare.sub_ne_zero t x y p q
difference Lt t x y k p q = absurd k
difference Le t x y k p q = absurd k

unlike : (op : CompareOp) (t x y : ℕ) → IsEquality op → x < limit t → y < limit t
    → test op t (on A.Xor t x y) 0 ≡ test op t x y
unlike Eq t x y k p q = compare.xor_eq_zero x y
unlike Ne t x y k p q = compare.xor_ne_zero x y
unlike Lt t x y k p q = absurd k
unlike Le t x y k p q = absurd k

moved_sum : (op : CompareOp) (t x c d : ℕ) → IsEquality op → x < limit t → c < limit t → d < limit t
    → test op t (on A.Add t x c) d ≡ test op t x (on A.Sub t d c)
moved_sum Eq t x c d k p q r = compare.add_eq t x c d p q r
moved_sum Ne t x c d k p q r = compare.add_ne t x c d p q r
moved_sum Lt t x c d k p q r = absurd k
moved_sum Le t x c d k p q r = absurd k

moved_difference : (op : CompareOp) (t x c d : ℕ) → IsEquality op → x < limit t → c < limit t → d < limit t
    → test op t (on A.Sub t x c) d ≡ test op t x (on A.Add t d c)
moved_difference Eq t x c d k p q r = compare.sub_eq t x c d p q r
moved_difference Ne t x c d k p q r = compare.sub_ne t x c d p q r
moved_difference Lt t x c d k p q r = absurd k
moved_difference Le t x c d k p q r = absurd k

flagless : (op : OverflowOp) (t x : ℕ) → 0 < t → x < limit t → flag_of op t x 0 ≡ 0
flagless Carry t x some p = compare.carry_none t x p
flagless SCarry t x some p = compare.scarry_none t x some p
flagless SBorrow t x some p = compare.sborrow_none t x some p

itself : (op : CompareOp) (t x : ℕ) → test op t x x ≡ of_self op
itself Eq t x = compare.eq_self x
itself Ne t x = compare.ne_self x
itself Lt t x = compare.lt_self x
itself Le t x = compare.le_self x

signed_itself : (op : SignedCompareOp) (t x : ℕ) → signed_test op t x x ≡ of_signed_self op
signed_itself SLt t x = compare.slt_self t x
signed_itself SLe t x = compare.sle_self t x

-- an operand of a comparison beside a constant, whose value is as the constant's
record Against (ws : ℕ → ℕ) (u : Under ws) (a : Expr) (c : Word) (op : CompareOp) (w n : ℕ) : Type 0 where
  width : ℕ
  x : ℕ
  left : Has ws u a width x
  const : c.width.bytes ≡ width
  is : test op width x c.value ≡ n
  byte : w ≡ 1

-- two letters with their values, under two nodes
record Letters (ws : ℕ → ℕ) (u : Under ws) (x y : Expr) (v q : ℕ → ℕ → ℕ → ℕ) (w m k : ℕ) : Type 0 where
  width : ℕ
  a : ℕ
  b : ℕ
  left : Has ws u x width a
  right : Has ws u y width b
  first : v width a b ≡ m
  second : q width a b ≡ k
  byte : w ≡ 1

module _ (ws : ℕ → ℕ) (u : Under ws) where
  against : (op : CompareOp) (a : Expr) (c : Word) (w n : ℕ) → Has ws u (E.Compare op a (E.Const c)) w n
      → Against ws u a c op w n
  against op a c w n h =
      let p = H.compare_has ws u op a (E.Const c) h in
      let k = H.const_is ws u c p.two.right in
      record {
        width = p.width;
        x = p.two.x;
        left = p.two.left;
        const = k.0;
        is = ap (test op p.width p.two.x) k.1 ∙ p.two.is;
        byte = p.byte;
      }

  pub turn_test : (op : CompareOp) (x y : Expr) → IsEquality op → (w n : ℕ)
      → Has ws u (E.Compare op y x) w n → Has ws u (E.Compare op x y) w n
  turn_test op x y k w n h =
      let p = H.compare_has ws u op y x h in
      H.compare_made ws u op x y w n p.two.right p.two.left p.byte
      (equality_commutes op p.width p.two.y p.two.x k ∙ p.two.is)

  pub turn_flag : (op : OverflowOp) (x y : Expr) → CommutesFlag op → (w n : ℕ)
      → Has ws u (E.Overflow op y x) w n → Has ws u (E.Overflow op x y) w n
  turn_flag op x y k w n h =
      let p = H.overflow_has ws u op y x h in
      H.overflow_made ws u op x y w n p.two.right p.two.left p.byte
      (flag_commutes op p.width p.two.y p.two.x k ∙ p.two.is)

  -- a difference, or the bits that differ, compared with 0
  c1 : (op : CompareOp) (inner : ArithmeticOp) (x y : Expr) (c : Word) → c.value ≡ 0
      → ((t a b : ℕ) → a < limit t → b < limit t → test op t (on inner t a b) 0 ≡ test op t a b)
      → (w n : ℕ)
      → Has ws u (E.Compare op (E.Arithmetic inner x y) (E.Const c)) w n → Has ws u (E.Compare op x y) w n
  c1 op inner x y c z law w n h =
      let p = against op (E.Arithmetic inner x y) c w n h in
      let q = H.arithmetic_has ws u inner x y p.left in
      let e : test op p.width (on inner p.width q.x q.y) 0 ≡ n =
      ap (test op p.width (on inner p.width q.x q.y)) (sym z) ∙ ap (λ v. test op p.width v c.value) q.is ∙ p.is in
      H.compare_made ws u op x y w n q.left q.right p.byte
      (sym (law p.width q.x q.y (H.below ws u x q.left) (H.below ws u y q.right)) ∙ e)

  -- a constant moved to the other side
  c2 : (op : CompareOp) (inner outer : ArithmeticOp) (x : Expr) (c d e : Word) → Folds outer d c e
      → ((t a : ℕ) → a < limit t → c.value < limit t → d.value < limit t
      → test op t (on inner t a c.value) d.value ≡ test op t a (on outer t d.value c.value))
      → (w n : ℕ)
      → Has ws u (E.Compare op (E.Arithmetic inner x (E.Const c)) (E.Const d)) w n
      → Has ws u (E.Compare op x (E.Const e)) w n
  c2 op inner outer x c d e f law w n h =
      let p = against op (E.Arithmetic inner x (E.Const c)) d w n h in
      let q = H.beside ws u x c p.width p.width (on inner p.width) p.x
      (H.arithmetic_has ws u inner x (E.Const c) p.left) in
      let g = H.folded ws u outer d c e p.width f p.const in
      let bc : c.value < limit p.width = subst (λ k. c.value < limit k) q.width c.below in
      let bd : d.value < limit p.width = subst (λ k. d.value < limit k) p.const d.below in
      let i : test op p.width (on inner p.width q.x c.value) d.value ≡ n =
      ap (λ v. test op p.width v d.value) q.is ∙ p.is in
      H.compare_made ws u op x (E.Const e) w n q.left (H.const_made ws u e p.width e.value g.width refl) p.byte
      (ap (test op p.width q.x) g.value ∙ sym (law p.width q.x (H.below ws u x q.left) bc bd) ∙ i)

  -- with the inner constant on the left
  turned_inner : (op : CompareOp) (x : Expr) (c d : Word) (w n : ℕ)
      → Has ws u (E.Compare op (E.Arithmetic A.Add (E.Const c) x) (E.Const d)) w n
      → Has ws u (E.Compare op (E.Arithmetic A.Add x (E.Const c)) (E.Const d)) w n
  turned_inner op x c d w n h =
      H.compare_under ws u op (E.Arithmetic A.Add (E.Const c) x) (E.Arithmetic A.Add x (E.Const c)) (E.Const d)
      (turn ws u A.Add x (E.Const c) tt) h

  -- SLt(x - y, 0) and SBorrow(x, y)
  flags : (x y : Expr) (c : Word) → c.value ≡ 0 → (s w m k : ℕ)
      → Has ws u (E.SignedCompare SLt (E.Arithmetic A.Sub x y) (E.Const c)) s m
      → Has ws u (E.Overflow SBorrow x y) s k → w ≡ 1
      → Letters ws u x y (λ t a b. slt t (sub t a b) 0) sborrow w m k
  flags x y c z s w m k l r one =
      let p = H.signed_compare_has ws u SLt (E.Arithmetic A.Sub x y) (E.Const c) l in
      let q = H.arithmetic_has ws u A.Sub x y p.two.left in
      let o = H.overflow_has ws u SBorrow x y r in
      let i = H.one_value ws u x o.two.left q.left in
      let j = H.one_value ws u y o.two.right q.right in
      let zero : 0 ≡ p.two.y = sym z ∙ (H.const_is ws u c p.two.right).1 in
      record {
        width = p.width;
        a = q.x;
        b = q.y;
        left = q.left;
        right = q.right;
        first = ap (λ v. slt p.width v 0) q.is ∙ ap (slt p.width p.two.x) zero ∙ p.two.is;
        second = ap (λ t. sborrow t q.x q.y) (sym i.0) ∙ ap (λ v. sborrow o.width v q.y) (sym i.1)
            ∙ ap (sborrow o.width o.two.x) (sym j.1) ∙ o.two.is;
        byte = one;
      }

  c3_ne : (x y : Expr) (c : Word) → c.value ≡ 0 → (w n : ℕ)
      → Has ws u (E.Compare Ne (E.SignedCompare SLt (E.Arithmetic A.Sub x y) (E.Const c)) (E.Overflow SBorrow x y)) w n
      → Has ws u (E.SignedCompare SLt x y) w n
  c3_ne x y c z w n h =
      let p =
      H.compare_has ws u Ne (E.SignedCompare SLt (E.Arithmetic A.Sub x y) (E.Const c)) (E.Overflow SBorrow x y) h in
      let f = flags x y c z p.width w p.two.x p.two.y p.two.left p.two.right p.byte in
      let law =
      compare.slt_by_borrow f.width f.a f.b (H.some ws u x f.left.size) (H.below ws u x f.left)
      (H.below ws u y f.right) in
      H.signed_compare_made ws u SLt x y w n f.left f.right p.byte
      (sym law ∙ ap (λ v. ne v (sborrow f.width f.a f.b)) f.first ∙ ap (ne p.two.x) f.second ∙ p.two.is)

  c3_eq : (x y : Expr) (c : Word) → c.value ≡ 0 → (w n : ℕ)
      → Has ws u (E.Compare Eq (E.SignedCompare SLt (E.Arithmetic A.Sub x y) (E.Const c)) (E.Overflow SBorrow x y)) w n
      → Has ws u (E.SignedCompare SLe y x) w n
  c3_eq x y c z w n h =
      let p =
      H.compare_has ws u Eq (E.SignedCompare SLt (E.Arithmetic A.Sub x y) (E.Const c)) (E.Overflow SBorrow x y) h in
      let f = flags x y c z p.width w p.two.x p.two.y p.two.left p.two.right p.byte in
      let law =
      compare.sle_by_borrow f.width f.a f.b (H.some ws u x f.left.size) (H.below ws u x f.left)
      (H.below ws u y f.right) in
      H.signed_compare_made ws u SLe y x w n f.right f.left p.byte
      (sym law ∙ ap (λ v. eq v (sborrow f.width f.a f.b)) f.first ∙ ap (eq p.two.x) f.second ∙ p.two.is)

  -- a test of equality beside a comparison of the same letters, both under a bitwise operation
  joined_signed : (outer : ArithmeticOp) (op : CompareOp) (q to : SignedCompareOp) (x y : Expr)
      → ((v t a b : ℕ)
      → a < limit t
      → b < limit t
      → on outer v (test op t a b) (signed_test q t a b) ≡ signed_test to t a b)
      → (w n : ℕ)
      → Has ws u (E.Arithmetic outer (E.Compare op x y) (E.SignedCompare q x y)) w n
      → Has ws u (E.SignedCompare to x y) w n
  joined_signed outer op q to x y law w n h =
      let p = H.arithmetic_has ws u outer (E.Compare op x y) (E.SignedCompare q x y) h in
      let f = H.compare_has ws u op x y p.left in
      let s = H.signed_compare_has ws u q x y p.right in
      let i = H.one_value ws u x f.two.left s.two.left in
      let j = H.one_value ws u y f.two.right s.two.right in
      let a = s.two.x in
      let b = s.two.y in
      let equal : test op s.width a b ≡ p.x =
      ap (λ t. test op t a b) (sym i.0) ∙ ap (λ v. test op f.width v b) (sym i.1)
      ∙ ap (test op f.width f.two.x) (sym j.1) ∙ f.two.is in
      H.signed_compare_made ws u to x y w n s.two.left s.two.right s.byte
      (sym (law w s.width a b (H.below ws u x s.two.left) (H.below ws u y s.two.right))
      ∙ ap (λ v. on outer w v (signed_test q s.width a b)) equal ∙ ap (on outer w p.x) s.two.is ∙ p.is)

  joined : (outer : ArithmeticOp) (op q to : CompareOp) (x y : Expr)
      → ((v t a b : ℕ) → on outer v (test op t a b) (test q t a b) ≡ test to t a b)
      → (w n : ℕ)
      → Has ws u (E.Arithmetic outer (E.Compare op x y) (E.Compare q x y)) w n
      → Has ws u (E.Compare to x y) w n
  joined outer op q to x y law w n h =
      let p = H.arithmetic_has ws u outer (E.Compare op x y) (E.Compare q x y) h in
      let f = H.compare_has ws u op x y p.left in
      let s = H.compare_has ws u q x y p.right in
      let i = H.one_value ws u x f.two.left s.two.left in
      let j = H.one_value ws u y f.two.right s.two.right in
      let a = s.two.x in
      let b = s.two.y in
      let equal : test op s.width a b ≡ p.x =
      ap (λ t. test op t a b) (sym i.0) ∙ ap (λ v. test op f.width v b) (sym i.1)
      ∙ ap (test op f.width f.two.x) (sym j.1) ∙ f.two.is in
      H.compare_made ws u to x y w n s.two.left s.two.right s.byte
      (sym (law w s.width a b) ∙ ap (λ v. on outer w v (test q s.width a b)) equal
      ∙ ap (on outer w p.x) s.two.is ∙ p.is)

  -- with the letters of the equality the other way round
  equality_turned : (outer : ArithmeticOp) (op : CompareOp) (x y b : Expr) → IsEquality op → (w n : ℕ)
      → Has ws u (E.Arithmetic outer (E.Compare op y x) b) w n → Has ws u (E.Arithmetic outer (E.Compare op x y) b) w n
  equality_turned outer op x y b k w n h =
      H.arithmetic_under ws u outer (E.Compare op y x) (E.Compare op x y) b (turn_test op x y k) h

  c4_signed : (x y : Expr) (w n : ℕ)
      → Has ws u (E.Arithmetic A.Or (E.Compare Eq x y) (E.SignedCompare SLt x y)) w n
      → Has ws u (E.SignedCompare SLe x y) w n
  c4_signed x y = joined_signed A.Or Eq SLt SLe x y (λ v t a b p q. compare.eq_or_slt t a b p q)

  c4 : (x y : Expr) (w n : ℕ)
      → Has ws u (E.Arithmetic A.Or (E.Compare Eq x y) (E.Compare Lt x y)) w n
      → Has ws u (E.Compare Le x y) w n
  c4 x y = joined A.Or Eq Lt Le x y (λ v t a b. compare.eq_or_lt a b)

  c5_signed : (x y : Expr) (w n : ℕ)
      → Has ws u (E.Arithmetic A.And (E.Compare Ne x y) (E.SignedCompare SLe x y)) w n
      → Has ws u (E.SignedCompare SLt x y) w n
  c5_signed x y = joined_signed A.And Ne SLe SLt x y (λ v t a b p q. compare.ne_and_sle t a b p q)

  c5 : (x y : Expr) (w n : ℕ)
      → Has ws u (E.Arithmetic A.And (E.Compare Ne x y) (E.Compare Le x y)) w n
      → Has ws u (E.Compare Lt x y) w n
  c5 x y = joined A.And Ne Le Lt x y (λ v t a b. compare.ne_and_le a b)

  c6 : (op : OverflowOp) (x : Expr) (c z : Word) → c.value ≡ 0 → IsWord 1 0 z → (w n : ℕ)
      → Has ws u (E.Overflow op x (E.Const c)) w n → Has ws u (E.Const z) w n
  c6 op x c z none f w n h =
      let p = H.overflow_has ws u op x (E.Const c) h in
      let zero : 0 ≡ p.two.y = sym none ∙ (H.const_is ws u c p.two.right).1 in
      let law = flagless op p.width p.two.x (H.some ws u x p.two.left.size) (H.below ws u x p.two.left) in
      H.const_made ws u z w n (f.width ∙ sym p.byte)
      (f.value ∙ sym law ∙ ap (flag_of op p.width p.two.x) zero ∙ p.two.is)

  -- a comparison with a constant that comes out the same whatever the operand is
  settled : (op : CompareOp) (x : Expr) (c z : Word) (m k : ℕ) → c.value ≡ m → IsWord 1 k z
      → ((t a : ℕ) → test op t a m ≡ k) → (w n : ℕ)
      → Has ws u (E.Compare op x (E.Const c)) w n → Has ws u (E.Const z) w n
  settled op x c z m k i f law w n h =
      let p = against op x c w n h in
      H.const_made ws u z w n (f.width ∙ sym p.byte)
      (f.value ∙ sym (law p.width p.x) ∙ ap (test op p.width p.x) (sym i) ∙ p.is)

  c7_from_zero : (x : Expr) (c o : Word) → c.value ≡ 0 → IsWord 1 1 o → (w n : ℕ)
      → Has ws u (E.Compare Le (E.Const c) x) w n → Has ws u (E.Const o) w n
  c7_from_zero x c o z f w n h =
      let p = H.compare_has ws u Le (E.Const c) x h in
      let zero : 0 ≡ p.two.x = sym z ∙ (H.const_is ws u c p.two.left).1 in
      H.const_made ws u o w n (f.width ∙ sym p.byte)
      (f.value ∙ sym (compare.le_from_zero p.two.y) ∙ ap (λ v. test Le p.width v p.two.y) zero ∙ p.two.is)

  -- a comparison with a constant that is an equality with 0
  is_zero : (op : CompareOp) (x : Expr) (c z : Word) (m : ℕ) → c.value ≡ m → IsWord c.width.bytes 0 z
      → ((t a : ℕ) → test op t a m ≡ eq a 0) → (w n : ℕ)
      → Has ws u (E.Compare op x (E.Const c)) w n → Has ws u (E.Compare Eq x (E.Const z)) w n
  is_zero op x c z m i f law w n h =
      let p = against op x c w n h in
      H.compare_made ws u Eq x (E.Const z) w n p.left (H.const_made ws u z p.width 0 (f.width ∙ p.const) f.value) p.byte
      (sym (law p.width p.x) ∙ ap (test op p.width p.x) (sym i) ∙ p.is)

  c8 : (op : CompareOp) (x : Expr) (o : Word) → IsWord 1 (of_self op) o → (w n : ℕ)
      → Has ws u (E.Compare op x x) w n → Has ws u (E.Const o) w n
  c8 op x o f w n h =
      let p = H.compare_has ws u op x x h in
      let same : p.two.x ≡ p.two.y = (H.one_value ws u x p.two.left p.two.right).1 in
      H.const_made ws u o w n (f.width ∙ sym p.byte)
      (f.value ∙ sym (itself op p.width p.two.x) ∙ ap (test op p.width p.two.x) same ∙ p.two.is)

  c8_signed : (op : SignedCompareOp) (x : Expr) (o : Word) → IsWord 1 (of_signed_self op) o → (w n : ℕ)
      → Has ws u (E.SignedCompare op x x) w n → Has ws u (E.Const o) w n
  c8_signed op x o f w n h =
      let p = H.signed_compare_has ws u op x x h in
      let same : p.two.x ≡ p.two.y = (H.one_value ws u x p.two.left p.two.right).1 in
      H.const_made ws u o w n (f.width ∙ sym p.byte)
      (f.value ∙ sym (signed_itself op p.width p.two.x) ∙ ap (signed_test op p.width p.two.x) same ∙ p.two.is)

pub comparison_has : (ws : ℕ → ℕ) (u : Under ws) (l r : Expr) → Comparing l r → (w n : ℕ)
    → Has ws u l w n → Has ws u r w n
comparison_has ws u l r (C1_sub op x y c k z) w n h =
    c1 ws u op A.Sub x y c z (λ t a b p q. difference op t a b k p q) w n h
comparison_has ws u l r (C1_xor op x y c k z) w n h =
    c1 ws u op A.Xor x y c z (λ t a b p q. unlike op t a b k p q) w n h
comparison_has ws u l r (C2_add op x c d e k f) w n h =
    c2 ws u op A.Add A.Sub x c d e f (λ t a p q s. moved_sum op t a c.value d.value k p q s) w n h
comparison_has ws u l r (C2_add_over op x c d e k f) w n h =
    c2 ws u op A.Add A.Sub x c d e f (λ t a p q s. moved_sum op t a c.value d.value k p q s) w n
    (turned_inner ws u op x c d w n h)
comparison_has ws u l r (C2_sub op x c d e k f) w n h =
    c2 ws u op A.Sub A.Add x c d e f (λ t a p q s. moved_difference op t a c.value d.value k p q s) w n h
comparison_has ws u l r (C3_ne x y c a b z) w n h = c3_ne ws u x y c z w n h
comparison_has ws u l r (C3_eq x y c a b z) w n h = c3_eq ws u x y c z w n h
comparison_has ws u l r (C4_signed x y a b) w n h = c4_signed ws u x y w n h
comparison_has ws u l r (C4_signed_over x y a b) w n h =
    c4_signed ws u x y w n (equality_turned ws u A.Or Eq x y (E.SignedCompare SLt x y) tt w n h)
comparison_has ws u l r (C4 x y a b) w n h = c4 ws u x y w n h
comparison_has ws u l r (C4_over x y a b) w n h =
    c4 ws u x y w n (equality_turned ws u A.Or Eq x y (E.Compare Lt x y) tt w n h)
comparison_has ws u l r (C5_signed x y a b) w n h = c5_signed ws u x y w n h
comparison_has ws u l r (C5_signed_over x y a b) w n h =
    c5_signed ws u x y w n (equality_turned ws u A.And Ne x y (E.SignedCompare SLe x y) tt w n h)
comparison_has ws u l r (C5 x y a b) w n h = c5 ws u x y w n h
comparison_has ws u l r (C5_over x y a b) w n h =
    c5 ws u x y w n (equality_turned ws u A.And Ne x y (E.Compare Le x y) tt w n h)
comparison_has ws u l r (C6 op x c z k f) w n h = c6 ws u op x c z k f w n h
comparison_has ws u l r (C7_below_zero x c z k f) w n h =
    settled ws u Lt x c z 0 0 k f (λ t a. compare.lt_zero a) w n h
comparison_has ws u l r (C7_from_zero x c o k f) w n h = c7_from_zero ws u x c o k f w n h
comparison_has ws u l r (C7_below_one x c z k f) w n h = is_zero ws u Lt x c z 1 k f (λ t a. compare.lt_one a) w n h
comparison_has ws u l r (C7_to_zero x c k) w n h =
    is_zero ws u Le x c c 0 k (record { width = refl; value = k }) (λ t a. compare.le_zero a) w n h
comparison_has ws u l r (C8 op x o a f) w n h = c8 ws u op x o f w n h
comparison_has ws u l r (C8_signed op x o a f) w n h = c8_signed ws u op x o f w n h

pub comparison_depth : (l r : Expr) → Comparing l r → depth_of r ≤ depth_of l
comparison_depth l r (C1_sub op x y c k z) = simp depths (omega arith)
comparison_depth l r (C1_xor op x y c k z) = simp depths (omega arith)
comparison_depth l r (C2_add op x c d e k f) = simp depths (omega arith)
comparison_depth l r (C2_add_over op x c d e k f) = simp depths (omega arith)
comparison_depth l r (C2_sub op x c d e k f) = simp depths (omega arith)
comparison_depth l r (C3_ne x y c a b z) = simp depths (omega arith)
comparison_depth l r (C3_eq x y c a b z) = simp depths (omega arith)
comparison_depth l r (C4_signed x y a b) = simp depths (omega arith)
comparison_depth l r (C4_signed_over x y a b) = simp depths (omega arith)
comparison_depth l r (C4 x y a b) = simp depths (omega arith)
comparison_depth l r (C4_over x y a b) = simp depths (omega arith)
comparison_depth l r (C5_signed x y a b) = simp depths (omega arith)
comparison_depth l r (C5_signed_over x y a b) = simp depths (omega arith)
comparison_depth l r (C5 x y a b) = simp depths (omega arith)
comparison_depth l r (C5_over x y a b) = simp depths (omega arith)
comparison_depth l r (C6 op x c z k f) = simp depths (omega arith)
comparison_depth l r (C7_below_zero x c z k f) = simp depths (omega arith)
comparison_depth l r (C7_from_zero x c o k f) = simp depths (omega arith)
comparison_depth l r (C7_below_one x c z k f) = simp depths (omega arith)
comparison_depth l r (C7_to_zero x c k) = simp depths (omega arith)
comparison_depth l r (C8 op x o a f) = simp depths (omega arith)
comparison_depth l r (C8_signed op x o a f) = simp depths (omega arith)
