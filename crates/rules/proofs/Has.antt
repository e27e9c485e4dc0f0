-- What has a width and a value: taken apart and put together, node by node.
use Rattle.std.proofs.Common.{◌≡◌, ℕ, ◌+◌, ◌<◌, ◌≤◌, ◌==◌, ◌&&◌, nat_lt, nat_le, Bool, true, false, Option, Some, None, refl, sym, ap, ◌∙◌, subst}
use Rattle.std.proofs.lemmas.Bool.{eq-eqb, lt-ltb, le-leb, ltb-true, leb-true, and_parts}
use Rattle.bits_core.specs.declared.word.Width.{Width}
use Rattle.bits_core.specs.declared.word.Word.{Word}
use Rattle.bits_core.specs.declared.ops.Binary.TheVariants as B
use Rattle.bits_core.specs.Value.{limit, part, concat, unary_value, binary_value, quotient_or_rest}
use Rattle.cmeaning.specs.declared.tree.UnaryOp.{UnaryOp}
use Rattle.cmeaning.specs.declared.tree.ArithmeticOp.{ArithmeticOp}
use Rattle.cmeaning.specs.declared.tree.DivisionOp.{DivisionOp}
use Rattle.cmeaning.specs.declared.tree.SignedDivisionOp.{SignedDivisionOp}
use Rattle.cmeaning.specs.declared.tree.ShiftOp.{ShiftOp}
use Rattle.cmeaning.specs.declared.tree.CompareOp.{CompareOp}
use Rattle.cmeaning.specs.declared.tree.SignedCompareOp.{SignedCompareOp}
use Rattle.cmeaning.specs.declared.tree.ExtendOp.{ExtendOp}
use Rattle.cmeaning.specs.declared.tree.OverflowOp.{OverflowOp}
use Rattle.cmeaning.specs.declared.tree.Expr.{Expr}
use Rattle.cmeaning.specs.declared.tree.Expr.TheVariants as E
use Rattle.cmeaning.specs.Shape.{is_part}
use Rattle.cmeaning.specs.Value.{unary_of, arithmetic_of, division_of, signed_division_of, shift_of, compare_of, signed_compare_of, extend_of, overflow_of, with_value, with_values}
use Rattle.rules.specs.Size.{one_size, two_size, size_of, AreWords}
use Rattle.rules.specs.Readings.{Reading, IsReading, value_by}
use Rattle.rules.specs.Letters.{IsWide, IsWord, Folds}
use Rattle.rules.proofs.Nodes as N
use Rattle.rules.proofs.Nodes.{wide}
use Rattle.rules.proofs.Words.{some_is, chosen, value_one, value_two, eq_of, good}

-- how divisions read, and what the variables hold
pub record Under (ws : ℕ → ℕ) : Type 0 where
  pub reading : Reading
  pub reads : IsReading reading
  pub env : ℕ → Option ℕ
  pub words : AreWords ws env

-- an expression of right widths, its width and its value
pub record Has (ws : ℕ → ℕ) (u : Under ws) (e : Expr) (w n : ℕ) : Type 0 where
  pub size : size_of ws e ≡ Some w
  pub value : value_by u.reading ws u.env e ≡ Some n

-- Two operands with their widths and values, and the value of the node over them.
pub record Pair (ws : ℕ → ℕ) (u : Under ws) (a b : Expr) (t s : ℕ) (v : ℕ → ℕ → ℕ) (n : ℕ) : Type 0 where
  pub x : ℕ
  pub y : ℕ
  pub left : Has ws u a t x
  pub right : Has ws u b s y
  pub is : v x y ≡ n

-- Of a node that is one byte wide, over operands of one width.
pub record Test (ws : ℕ → ℕ) (u : Under ws) (a b : Expr) (v : ℕ → ℕ → ℕ → ℕ) (w n : ℕ) : Type 0 where
  pub width : ℕ
  pub two : Pair ws u a b width width (v width) n
  pub byte : w ≡ 1

-- One operand.
pub record Single (ws : ℕ → ℕ) (u : Under ws) (a : Expr) (v : ℕ → ℕ → ℕ) (n : ℕ) : Type 0 where
  pub width : ℕ
  pub x : ℕ
  pub operand : Has ws u a width x
  pub is : v width x ≡ n

-- An operand beside a constant.
pub record Beside (ws : ℕ → ℕ) (u : Under ws) (a : Expr) (c : Word) (t s : ℕ) (v : ℕ → ℕ → ℕ) (n : ℕ) : Type 0 where
  pub x : ℕ
  pub left : Has ws u a t x
  pub width : c.width.bytes ≡ s
  pub is : v x c.value ≡ n

-- ---- operands that agree

pub alike : (to : ℕ → ℕ → ℕ) (o p : Option ℕ) (w : ℕ) → two_size (λ v u. v == u) to o p ≡ Some w
    → (t : ℕ) × ((o ≡ Some t) × (p ≡ Some t) × (to t t ≡ w))
alike to None p w is = cc
alike to (Some t) None w is = cc
alike to (Some t) (Some s) w is =
    let c = chosen (t == s) (to t s) w is in
    let e : t ≡ s = eq_of t s c.0 in
    (t, (refl, ap Some (sym e), ap (λ k. to t k) e ∙ c.1))

alike_made : (to : ℕ → ℕ → ℕ) (o p : Option ℕ) (t : ℕ) → o ≡ Some t → p ≡ Some t
    → two_size (λ v u. v == u) to o p ≡ Some (to t t)
alike_made to o p t i j = rw (i, j, eq-eqb t t refl) refl

either_width : (o p : Option ℕ) (w : ℕ) → two_size (λ v u. true) (λ v u. v) o p ≡ Some w
    → (s : ℕ) × ((o ≡ Some w) × (p ≡ Some s))
either_width None p w is = cc
either_width (Some t) None w is = cc
either_width (Some t) (Some s) w is = (s, (is, refl))

pub joined : (o p : Option ℕ) (w : ℕ) → two_size (λ v u. nat_le (v + u) 16) (λ v u. v + u) o p ≡ Some w
    → (t : ℕ) × ((s : ℕ) × ((o ≡ Some t) × (p ≡ Some s) × (t + s ≡ w)))
joined None p w is = cc
joined (Some t) None w is = cc
joined (Some t) (Some s) w is = (t, (s, (refl, refl, (chosen (nat_le (t + s) 16) (t + s) w is).1)))

pub single_width : (right : ℕ → Bool) (to : ℕ → ℕ) (o : Option ℕ) (w : ℕ) → one_size right to o ≡ Some w
    → (t : ℕ) × ((o ≡ Some t) × (right t ≡ true) × (to t ≡ w))
single_width right to None w is = cc
single_width right to (Some t) w is = let c = chosen (right t) (to t) w is in (t, (refl, c.0, c.1))

-- the w bytes after k lie in a word of t, and are fewer
pub is_within : (k w t : ℕ) → is_part k w t ≡ true → (k + w ≤ t) × (w < t)
is_within k w t h =
    let b = and_parts (nat_le (k + w) t) (nat_lt w t) h in
    (leb-true (k + w) t b.0, ltb-true w t b.1)

module _ (ws : ℕ → ℕ) (u : Under ws) where
  -- the value in this reading
  abbrev at : Expr → Option ℕ
  at e = value_by u.reading ws u.env e

  abbrev wide_of : Expr → ℕ
  wide_of e = wide u.reading ws e

  -- a value is a word
  pub below : (e : Expr) {w n : ℕ} → Has ws u e w n → n < limit w
  below e {w} {n} h = (good u.reading u.reads ws u.env u.words e w h.size).below n h.value

  -- widths are not 0
  pub some : (e : Expr) {w : ℕ} → size_of ws e ≡ Some w → 0 < w
  some e {w} s = (good u.reading u.reads ws u.env u.words e w s).some

  pub width_is : (e : Expr) (w : ℕ) → size_of ws e ≡ Some w → wide_of e ≡ w
  width_is e w s = (good u.reading u.reads ws u.env u.words e w s).width

  -- two values of one expression are one
  pub one_value : (e : Expr) {w v m n : ℕ} → Has ws u e w m → Has ws u e v n → (w ≡ v) × (m ≡ n)
  one_value e a b = (some_is _ _ (sym a.size ∙ b.size), some_is _ _ (sym a.value ∙ b.value))

  -- and so a width that is known
  pub one_width : (e : Expr) {w v n : ℕ} → Has ws u e w n → IsWide ws e v → v ≡ w
  one_width e h s = some_is _ _ (sym s ∙ h.size)

  -- ---- constants

  pub const_is : (c : Word) {w n : ℕ} → Has ws u (E.Const c) w n → (c.width.bytes ≡ w) × (c.value ≡ n)
  const_is c h = (
    some_is _ _ (sym (N.size_of_const ws c) ∙ h.size),
    some_is _ _ (sym (N.value_by_const u.reading ws u.env c) ∙ h.value),
  )

  pub const_made : (c : Word) (w n : ℕ) → c.width.bytes ≡ w → c.value ≡ n → Has ws u (E.Const c) w n
  const_made c w n e is = record {
    size = N.size_of_const ws c ∙ ap Some e;
    value = N.value_by_const u.reading ws u.env c ∙ ap Some is;
  }

  pub word_made : (c : Word) (w n m : ℕ) → IsWord w n c → n ≡ m → Has ws u (E.Const c) w m
  word_made c w n m f e = const_made c w m f.width (f.value ∙ e)

  pub beside : (a : Expr) (c : Word) (t s : ℕ) (v : ℕ → ℕ → ℕ) (n : ℕ) → Pair ws u a (E.Const c) t s v n
      → Beside ws u a c t s v n
  beside a c t s v n p =
      let k = const_is c p.right in
      record { x = p.x; left = p.left; width = k.0; is = ap (v p.x) k.1 ∙ p.is }

  -- a folded constant, at the width of what stands around it
  pub folded : (op : ArithmeticOp) (c d e : Word) (w : ℕ) → Folds op c d e → c.width.bytes ≡ w
      → IsWord w (binary_value (arithmetic_of op) w c.value w d.value w) e
  folded op c d e w f is = record {
    width = f.width ∙ is;
    value = f.value ∙ ap (λ k. binary_value (arithmetic_of op) k c.value k d.value k) is;
  }

  -- ---- nodes with two operands

  pair : (a b : Expr) (t s : ℕ) (v : ℕ → ℕ → ℕ → ℕ → ℕ) (n : ℕ)
      → size_of ws a ≡ Some t → size_of ws b ≡ Some s
      → with_values (at a) (at b) (λ x y. Some (v (wide_of a) x (wide_of b) y)) ≡ Some n
      → Pair ws u a b t s (λ x y. v t x s y) n
  pair a b t s v n i j is =
      let p = value_two (λ x y. Some (v (wide_of a) x (wide_of b) y)) (at a) (at b) n is in
      let l : v t p.0 s p.1.0 ≡ v (wide_of a) p.0 s p.1.0 = ap (λ k. v k p.0 s p.1.0) (sym (width_is a t i)) in
      let r : v (wide_of a) p.0 s p.1.0 ≡ v (wide_of a) p.0 (wide_of b) p.1.0 =
      ap (λ k. v (wide_of a) p.0 k p.1.0) (sym (width_is b s j)) in
      record {
        x = p.0;
        y = p.1.0;
        left = record { size = i; value = p.1.1.0 };
        right = record { size = j; value = p.1.1.1 };
        is = l ∙ r ∙ some_is _ _ p.1.1.2;
      }

  paired : (a b : Expr) (t s x y : ℕ) (v : ℕ → ℕ → ℕ → ℕ → ℕ) (n : ℕ)
      → Has ws u a t x → Has ws u b s y → v t x s y ≡ n
      → with_values (at a) (at b) (λ x y. Some (v (wide_of a) x (wide_of b) y)) ≡ Some n
  paired a b t s x y v n l r is = rw (l.value, r.value, width_is a t l.size, width_is b s r.size) (ap Some is)

  pub arithmetic_has : (op : ArithmeticOp) (a b : Expr) {w n : ℕ} → Has ws u (E.Arithmetic op a b) w n
      → Pair ws u a b w w (λ x y. binary_value (arithmetic_of op) w x w y w) n
  arithmetic_has op a b {w} {n} h =
      let s = alike (λ v k. v) (size_of ws a) (size_of ws b) w (sym (N.size_of_arithmetic ws op a b) ∙ h.size) in
      pair a b w w (λ t x k y. binary_value (arithmetic_of op) t x k y t) n (s.1.0 ∙ ap Some s.1.2)
      (s.1.1 ∙ ap Some s.1.2)
      (sym (N.value_by_arithmetic u.reading ws u.env op a b) ∙ h.value)

  pub arithmetic_made : (op : ArithmeticOp) (a b : Expr) {w x y : ℕ} (n : ℕ) → Has ws u a w x → Has ws u b w y
      → binary_value (arithmetic_of op) w x w y w ≡ n → Has ws u (E.Arithmetic op a b) w n
  arithmetic_made op a b {w} {x} {y} n l r is = record {
    size = N.size_of_arithmetic ws op a b
        ∙ alike_made (λ v k. v) (size_of ws a) (size_of ws b) w l.size r.size;
    value = N.value_by_arithmetic u.reading ws u.env op a b
        ∙ paired a b w w x y (λ t x k y. binary_value (arithmetic_of op) t x k y t) n l r is;
  }

  pub compare_has : (op : CompareOp) (a b : Expr) {w n : ℕ} → Has ws u (E.Compare op a b) w n
      → Test ws u a b (λ t x y. binary_value (compare_of op) t x t y 1) w n
  compare_has op a b {w} {n} h =
      let s = alike (λ v k. 1) (size_of ws a) (size_of ws b) w (sym (N.size_of_compare ws op a b) ∙ h.size) in
      record {
        width = s.0;
        two = pair a b s.0 s.0 (λ t x k y. binary_value (compare_of op) t x k y 1) n s.1.0 s.1.1
            (sym (N.value_by_compare u.reading ws u.env op a b) ∙ h.value);
        byte = sym s.1.2;
      }

  pub compare_made : (op : CompareOp) (a b : Expr) {t x y : ℕ} (w n : ℕ) → Has ws u a t x → Has ws u b t y
      → w ≡ 1 → binary_value (compare_of op) t x t y 1 ≡ n → Has ws u (E.Compare op a b) w n
  compare_made op a b {t} {x} {y} w n l r one is = record {
    size = N.size_of_compare ws op a b
        ∙ alike_made (λ v k. 1) (size_of ws a) (size_of ws b) t l.size r.size ∙ ap Some (sym one);
    value = N.value_by_compare u.reading ws u.env op a b
        ∙ paired a b t t x y (λ v x k y. binary_value (compare_of op) v x k y 1) n l r is;
  }

  pub signed_compare_has : (op : SignedCompareOp) (a b : Expr) {w n : ℕ} → Has ws u (E.SignedCompare op a b) w n
      → Test ws u a b (λ t x y. binary_value (signed_compare_of op) t x t y 1) w n
  signed_compare_has op a b {w} {n} h =
      let s = alike (λ v k. 1) (size_of ws a) (size_of ws b) w (sym (N.size_of_signed_compare ws op a b) ∙ h.size) in
      record {
        width = s.0;
        two = pair a b s.0 s.0 (λ t x k y. binary_value (signed_compare_of op) t x k y 1) n s.1.0 s.1.1
            (sym (N.value_by_signed_compare u.reading ws u.env op a b) ∙ h.value);
        byte = sym s.1.2;
      }

  pub signed_compare_made : (op : SignedCompareOp) (a b : Expr) {t x y : ℕ} (w n : ℕ) → Has ws u a t x → Has ws u b t y
      → w ≡ 1 → binary_value (signed_compare_of op) t x t y 1 ≡ n → Has ws u (E.SignedCompare op a b) w n
  signed_compare_made op a b {t} {x} {y} w n l r one is = record {
    size = N.size_of_signed_compare ws op a b
        ∙ alike_made (λ v k. 1) (size_of ws a) (size_of ws b) t l.size r.size ∙ ap Some (sym one);
    value = N.value_by_signed_compare u.reading ws u.env op a b
        ∙ paired a b t t x y (λ v x k y. binary_value (signed_compare_of op) v x k y 1) n l r is;
  }

  pub overflow_has : (op : OverflowOp) (a b : Expr) {w n : ℕ} → Has ws u (E.Overflow op a b) w n
      → Test ws u a b (λ t x y. binary_value (overflow_of op) t x t y 1) w n
  overflow_has op a b {w} {n} h =
      let s = alike (λ v k. 1) (size_of ws a) (size_of ws b) w (sym (N.size_of_overflow ws op a b) ∙ h.size) in
      record {
        width = s.0;
        two = pair a b s.0 s.0 (λ t x k y. binary_value (overflow_of op) t x k y 1) n s.1.0 s.1.1
            (sym (N.value_by_overflow u.reading ws u.env op a b) ∙ h.value);
        byte = sym s.1.2;
      }

  pub overflow_made : (op : OverflowOp) (a b : Expr) {t x y : ℕ} (w n : ℕ) → Has ws u a t x → Has ws u b t y
      → w ≡ 1 → binary_value (overflow_of op) t x t y 1 ≡ n → Has ws u (E.Overflow op a b) w n
  overflow_made op a b {t} {x} {y} w n l r one is = record {
    size = N.size_of_overflow ws op a b
        ∙ alike_made (λ v k. 1) (size_of ws a) (size_of ws b) t l.size r.size ∙ ap Some (sym one);
    value = N.value_by_overflow u.reading ws u.env op a b
        ∙ paired a b t t x y (λ v x k y. binary_value (overflow_of op) v x k y 1) n l r is;
  }

  -- the count's width is any
  pub shift_has : (op : ShiftOp) (a b : Expr) {w n : ℕ} → Has ws u (E.Shift op a b) w n
      → (s : ℕ) × Pair ws u a b w s (λ x y. binary_value (shift_of op) w x s y w) n
  shift_has op a b {w} {n} h =
      let s = either_width (size_of ws a) (size_of ws b) w (sym (N.size_of_shift ws op a b) ∙ h.size) in (
        s.0,
        pair a b w s.0 (λ t x k y. binary_value (shift_of op) t x k y t) n s.1.0 s.1.1
            (sym (N.value_by_shift u.reading ws u.env op a b) ∙ h.value),
      )

  pub shift_made : (op : ShiftOp) (a b : Expr) {w s x y : ℕ} (n : ℕ) → Has ws u a w x → Has ws u b s y
      → binary_value (shift_of op) w x s y w ≡ n → Has ws u (E.Shift op a b) w n
  shift_made op a b {w} {s} {x} {y} n l r is = record {
    size = N.size_of_shift ws op a b ∙ rw (l.size, r.size) refl;
    value = N.value_by_shift u.reading ws u.env op a b
        ∙ paired a b w s x y (λ t x k y. binary_value (shift_of op) t x k y t) n l r is;
  }

  pub concat_has : (a b : Expr) {w n : ℕ} → Has ws u (E.Concat a b) w n
      → (t : ℕ) × ((s : ℕ) × (Pair ws u a b t s (λ x y. concat s x y) n × (t + s ≡ w)))
  concat_has a b {w} {n} h =
      let s = joined (size_of ws a) (size_of ws b) w (sym (N.size_of_concat ws a b) ∙ h.size) in (
        s.0,
        (
          s.1.0,
          (
            pair a b s.0 s.1.0 (λ t x k y. binary_value B.Piece t x k y (t + k)) n s.1.1.0 s.1.1.1
                (sym (N.value_by_concat u.reading ws u.env a b) ∙ h.value),
            s.1.1.2,
          ),
        ),
      )

  quotient : (a b : Expr) (w : ℕ) (q : ℕ → ℕ → ℕ → Option ℕ) (v : ℕ → ℕ → ℕ → ℕ) (n : ℕ)
      → ((t x y m : ℕ) → q t x y ≡ Some m → v t x y ≡ m)
      → size_of ws a ≡ Some w → size_of ws b ≡ Some w
      → with_values (at a) (at b) (q (wide_of a)) ≡ Some n
      → Pair ws u a b w w (v w) n
  quotient a b w q v n reads i j is =
      let p = value_two (q (wide_of a)) (at a) (at b) n is in
      record {
        x = p.0;
        y = p.1.0;
        left = record { size = i; value = p.1.1.0 };
        right = record { size = j; value = p.1.1.1 };
        is = ap (λ k. v k p.0 p.1.0) (sym (width_is a w i)) ∙ reads (wide_of a) p.0 p.1.0 n p.1.1.2;
      }

  pub division_has : (op : DivisionOp) (a b : Expr) {w n : ℕ} → Has ws u (E.Division op a b) w n
      → Pair ws u a b w w (quotient_or_rest (division_of op) w) n
  division_has op a b {w} {n} h =
      let s = alike (λ v k. v) (size_of ws a) (size_of ws b) w (sym (N.size_of_division ws op a b) ∙ h.size) in
      quotient a b w (u.reading.plain (division_of op)) (quotient_or_rest (division_of op)) n
      (u.reads.plain (division_of op)) (s.1.0 ∙ ap Some s.1.2) (s.1.1 ∙ ap Some s.1.2)
      (sym (N.value_by_division u.reading ws u.env op a b) ∙ h.value)

  pub signed_division_has : (op : SignedDivisionOp) (a b : Expr) {w n : ℕ} → Has ws u (E.SignedDivision op a b) w n
      → Pair ws u a b w w (quotient_or_rest (signed_division_of op) w) n
  signed_division_has op a b {w} {n} h =
      let s = alike (λ v k. v) (size_of ws a) (size_of ws b) w (sym (N.size_of_signed_division ws op a b) ∙ h.size) in
      quotient a b w (u.reading.signed (signed_division_of op)) (quotient_or_rest (signed_division_of op)) n
      (u.reads.signed (signed_division_of op)) (s.1.0 ∙ ap Some s.1.2) (s.1.1 ∙ ap Some s.1.2)
      (sym (N.value_by_signed_division u.reading ws u.env op a b) ∙ h.value)

  -- ---- nodes with one operand

  single : (a : Expr) (t : ℕ) (v : ℕ → ℕ → ℕ) (n : ℕ) → size_of ws a ≡ Some t
      → with_value (at a) (λ x. Some (v (wide_of a) x)) ≡ Some n
      → Single ws u a v n
  single a t v n i is =
      let p = value_one (λ x. Some (v (wide_of a) x)) (at a) n is in
      record {
        width = t;
        x = p.0;
        operand = record { size = i; value = p.1.0 };
        is = ap (λ k. v k p.0) (sym (width_is a t i)) ∙ some_is _ _ p.1.1;
      }

  pub unary_has : (op : UnaryOp) (a : Expr) {w n : ℕ} → Has ws u (E.Unary op a) w n
      → (x : ℕ) × (Has ws u a w x × (unary_value (unary_of op) w x w ≡ n))
  unary_has op a {w} {n} h =
      let s = single_width (λ v. true) (λ v. v) (size_of ws a) w (sym (N.size_of_unary ws op a) ∙ h.size) in
      let p = single a s.0 (λ t x. unary_value (unary_of op) t x t) n s.1.0
      (sym (N.value_by_unary u.reading ws u.env op a) ∙ h.value) in
      let e : p.width ≡ w = some_is _ _ (sym p.operand.size ∙ s.1.0) ∙ s.1.2 in
      (p.x, (subst (λ k. Has ws u a k p.x) e p.operand, ap (λ k. unary_value (unary_of op) k p.x k) (sym e) ∙ p.is))

  pub unary_made : (op : UnaryOp) (a : Expr) {w x : ℕ} (n : ℕ) → Has ws u a w x
      → unary_value (unary_of op) w x w ≡ n → Has ws u (E.Unary op a) w n
  unary_made op a {w} {x} n h is = record {
    size = N.size_of_unary ws op a ∙ rw (h.size) refl;
    value = N.value_by_unary u.reading ws u.env op a ∙ rw (h.value, width_is a w h.size) (ap Some is);
  }

  -- to more bytes
  pub extend_has : (op : ExtendOp) (v : Width) (a : Expr) {w n : ℕ} → Has ws u (E.Extend op v a) w n
      → (t : ℕ)
      × ((x : ℕ) × (Has ws u a t x × (unary_value (extend_of op) t x v.bytes ≡ n) × (t < v.bytes) × (v.bytes ≡ w)))
  extend_has op v a {w} {n} h =
      let s = single_width (λ t. nat_lt t v.bytes) (λ t. v.bytes) (size_of ws a) w
      (sym (N.size_of_extend ws op v a) ∙ h.size) in
      let p = single a s.0 (λ t x. unary_value (extend_of op) t x v.bytes) n s.1.0
      (sym (N.value_by_extend u.reading ws u.env op v a) ∙ h.value) in
      let e : p.width ≡ s.0 = some_is _ _ (sym p.operand.size ∙ s.1.0) in
      (p.width, (p.x, (p.operand, p.is, subst (λ k. k < v.bytes) (sym e) (ltb-true s.0 v.bytes s.1.1), s.1.2)))

  pub extend_made : (op : ExtendOp) (v : Width) (a : Expr) {t x : ℕ} (w n : ℕ) → Has ws u a t x → t < v.bytes
      → v.bytes ≡ w → unary_value (extend_of op) t x v.bytes ≡ n → Has ws u (E.Extend op v a) w n
  extend_made op v a {t} {x} w n h less e is = record {
    size = N.size_of_extend ws op v a ∙ rw (h.size, lt-ltb t v.bytes less) (ap Some e);
    value = N.value_by_extend u.reading ws u.env op v a ∙ rw (h.value, width_is a t h.size) (ap Some is);
  }

  pub part_has : (k : ℕ) (v : Width) (a : Expr) {w n : ℕ} → Has ws u (E.Part k v a) w n
      → (t : ℕ)
      × ((x : ℕ) × (Has ws u a t x × (part x k v.bytes ≡ n) × (k + v.bytes ≤ t) × (v.bytes < t) × (v.bytes ≡ w)))
  part_has k v a {w} {n} h =
      let s = single_width (is_part k v.bytes) (λ t. v.bytes) (size_of ws a) w
      (sym (N.size_of_part ws k v a) ∙ h.size) in
      let p = single a s.0 (λ t x. binary_value B.Subpiece t x 1 k v.bytes) n s.1.0
      (sym (N.value_by_part u.reading ws u.env k v a) ∙ h.value) in
      let e : s.0 ≡ p.width = some_is _ _ (sym s.1.0 ∙ p.operand.size) in
      let i = is_within k v.bytes p.width (subst (λ t. is_part k v.bytes t ≡ true) e s.1.1) in
      (p.width, (p.x, (p.operand, p.is, i.0, i.1, s.1.2)))

  pub part_made : (k : ℕ) (v : Width) (a : Expr) {t x : ℕ} (w n : ℕ) → Has ws u a t x → k + v.bytes ≤ t → v.bytes < t
      → v.bytes ≡ w → part x k v.bytes ≡ n → Has ws u (E.Part k v a) w n
  part_made k v a {t} {x} w n h inside less e is = record {
    size = N.size_of_part ws k v a
        ∙ rw (h.size, le-leb (k + v.bytes) t inside, lt-ltb v.bytes t less) (ap Some e);
    value = N.value_by_part u.reading ws u.env k v a ∙ rw (h.value) (ap Some is);
  }

  -- ---- under a node

  pub arithmetic_under : (op : ArithmeticOp) (a c b : Expr)
      → ((w n : ℕ) → Has ws u a w n → Has ws u c w n)
      → {w n : ℕ} → Has ws u (E.Arithmetic op a b) w n → Has ws u (E.Arithmetic op c b) w n
  arithmetic_under op a c b f {w} {n} h =
      let p = arithmetic_has op a b h in
      arithmetic_made op c b n (f w p.x p.left) p.right p.is

  pub compare_under : (op : CompareOp) (a c b : Expr)
      → ((w n : ℕ) → Has ws u a w n → Has ws u c w n)
      → {w n : ℕ} → Has ws u (E.Compare op a b) w n → Has ws u (E.Compare op c b) w n
  compare_under op a c b f {w} {n} h =
      let p = compare_has op a b h in
      compare_made op c b w n (f p.width p.two.x p.two.left) p.two.right p.byte p.two.is
