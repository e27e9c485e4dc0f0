-- What the rules of a valid tree say of the operands of an expression.
use Rattle.std.proofs.Common.{◌≡◌, ℕ, ◌+◌, ◌^◌, ◌<◌, ◌≤◌, ◌&&◌, nat_lt, max, Bool, true, false, if◌then◌else◌, Option, Some, None, refl, sym, ap, ◌∙◌, subst, arith}
use Rattle.std.proofs.lemmas.Bool.{eqb-true, leb-true, ltb-true}
use Rattle.bits_core.specs.declared.word.Width.{Width}
use Rattle.bits_core.specs.declared.word.Word.{Word}
use Rattle.cmeaning.specs.declared.shape.Shape.{Shape}
use Rattle.cmeaning.specs.declared.tree.UnaryOp.{UnaryOp}
use Rattle.cmeaning.specs.declared.tree.ArithmeticOp.{ArithmeticOp}
use Rattle.cmeaning.specs.declared.tree.DivisionOp.{DivisionOp}
use Rattle.cmeaning.specs.declared.tree.SignedDivisionOp.{SignedDivisionOp}
use Rattle.cmeaning.specs.declared.tree.ShiftOp.{ShiftOp}
use Rattle.cmeaning.specs.declared.tree.CompareOp.{CompareOp}
use Rattle.cmeaning.specs.declared.tree.SignedCompareOp.{SignedCompareOp}
use Rattle.cmeaning.specs.declared.tree.ExtendOp.{ExtendOp}
use Rattle.cmeaning.specs.declared.tree.OverflowOp.{OverflowOp}
use Rattle.cmeaning.specs.declared.tree.CountOp.{CountOp}
use Rattle.cmeaning.specs.declared.tree.Expr.{Expr, ind-Expr, roll-Expr, map-Expr}
use Rattle.cmeaning.specs.declared.tree.Expr.TheOpen.{Expr-F}
use Rattle.cmeaning.specs.declared.tree.Expr.TheVariants as E
use Rattle.cmeaning.specs.Shape.{leaf, above, one_shape, two_shape, shape_step, shape_of, is_right, same_width, left_width, may_divide, may_divide_signed, may_join, by_constant, by_signed, is_part}
use Rattle.cmeaning.specs.Value.{Meaning, meaning_step, meaning_of, width_of}
use Rattle.cmeaning.proofs.Layers.{shape_roll}
use Rattle.cmeaning.proofs.Value.{meaning_roll}

-- ---- shapes

chosen : (b : Bool) (r s : Shape) → (if b then Some r else None) ≡ Some s → r ≡ s
chosen true r s is = cc
chosen false r s is = cc

record Rises (b : Bool) (w : ℕ) (s : Shape) : Type 0 where
  holds : b ≡ true
  width : s.width ≡ w

above_is : (b : Bool) (w d : ℕ) (c : Bool) (s : Shape) → above b w d c ≡ Some s → Rises b w s
above_is true w d c s is =
    record {
      holds = refl;
      width =
          ap (λ (x : Shape). x.width)
          (sym (chosen (nat_lt d 64) (record { width = w; depth = d + 1; constant = None; comparison = c }) s is));
    }
above_is false w d c s is = cc

record Of_one (r : ℕ → Bool) (w : ℕ → ℕ) (x : Option Shape) (s : Shape) : Type 0 where
  operand : Shape
  is : x ≡ Some operand
  holds : r operand.width ≡ true
  width : s.width ≡ w operand.width

one : (r : ℕ → Bool) (w : ℕ → ℕ) (x : Option Shape) (s : Shape) → one_shape r w x ≡ Some s → Of_one r w x s
one r w None s is = cc
one r w (Some p) s is =
    let up = above_is (r p.width) (w p.width) p.depth false s is in
    record { operand = p; is = refl; holds = up.holds; width = up.width }

record Of_two (r : Shape → Shape → Bool) (w : ℕ → ℕ → ℕ) (x y : Option Shape) (s : Shape) : Type 0 where
  left : Shape
  right : Shape
  left_is : x ≡ Some left
  right_is : y ≡ Some right
  holds : r left right ≡ true
  width : s.width ≡ w left.width right.width

two : (r : Shape → Shape → Bool) (w : ℕ → ℕ → ℕ) (c : Bool) (x y : Option Shape) (s : Shape)
    → two_shape r w c x y ≡ Some s
    → Of_two r w x y s
two r w c None y s is = cc
two r w c (Some p) None s is = cc
two r w c (Some p) (Some q) s is =
    let up = above_is (r p q) (w p.width q.width) (max p.depth q.depth) c s is in
    record { left = p; right = q; left_is = refl; right_is = refl; holds = up.holds; width = up.width }

-- ---- the width of a shape is the expression's

abbrev Agrees : (ℕ → ℕ) → Expr → Type 0
Agrees ws e = (s : Shape) → shape_of ws e ≡ Some s → s.width ≡ width_of ws e

width_roll : (ws : ℕ → ℕ) (l : Expr-F Expr)
    → width_of ws (roll-Expr l) ≡ (meaning_step ws (map-Expr Expr Meaning (meaning_of ws) l)).width
width_roll ws l = ap (λ (m : Meaning). m.width) (meaning_roll ws l)

leaf_agrees : (w n : ℕ) (c : Option Word) (s : Shape) → leaf w c ≡ Some s → s.width ≡ w
leaf_agrees w n c s is =
    let same : record { width = w; depth = 1; constant = c; comparison = false } ≡ s = cc in
    ap (λ (x : Shape). x.width) (sym same)

variable_agrees : (b : Bool) (w : ℕ) (s : Shape) → (if b then leaf w None else None) ≡ Some s → s.width ≡ w
variable_agrees true w s is = leaf_agrees w 0 None s is
variable_agrees false w s is = cc

layer_agrees : (ws : ℕ → ℕ) {A : Type 0} (f : A → Expr)
    → ((a : A) → Agrees ws (f a))
    → (l : Expr-F A)
    → Agrees ws (roll-Expr (map-Expr A Expr f l))
layer_agrees ws f h (Expr-F.Const c) s is =
    leaf_agrees c.width.bytes 0 (Some c) s (sym (shape_roll ws (Expr-F.Const c)) ∙ is)
    ∙ sym (width_roll ws (Expr-F.Const c))
layer_agrees ws f h (Expr-F.Var v) s is =
    variable_agrees (nat_lt v (2 ^ 32) && nat_lt 0 (ws v)) (ws v) s (sym (shape_roll ws (Expr-F.Var v)) ∙ is)
    ∙ sym (width_roll ws (Expr-F.Var v))
layer_agrees ws f h (Expr-F.Unary op a) s is =
    let o = one (λ v. true) (λ v. v) (shape_of ws (f a)) s (sym (shape_roll ws (Expr-F.Unary op (f a))) ∙ is) in
    o.width ∙ h a o.operand o.is ∙ sym (width_roll ws (Expr-F.Unary op (f a)))
layer_agrees ws f h (Expr-F.Extend op out a) s is =
    let o =
    one
    (λ v. nat_lt v out.bytes)
    (λ v. out.bytes)
    (shape_of ws (f a)) s (sym (shape_roll ws (Expr-F.Extend op out (f a))) ∙ is) in
    o.width ∙ sym (width_roll ws (Expr-F.Extend op out (f a)))
layer_agrees ws f h (Expr-F.Part dropped out a) s is =
    let o =
    one (is_part dropped out.bytes) (λ v. out.bytes) (shape_of ws (f a)) s
    (sym (shape_roll ws (Expr-F.Part dropped out (f a))) ∙ is) in
    o.width ∙ sym (width_roll ws (Expr-F.Part dropped out (f a)))
layer_agrees ws f h (Expr-F.Count op a) s is =
    let o = one (λ v. true) (λ v. 1) (shape_of ws (f a)) s (sym (shape_roll ws (Expr-F.Count op (f a))) ∙ is) in
    o.width ∙ sym (width_roll ws (Expr-F.Count op (f a)))
layer_agrees ws f h (Expr-F.Arithmetic op a b) s is =
    let o =
    two same_width left_width false (shape_of ws (f a)) (shape_of ws (f b)) s
    (sym (shape_roll ws (Expr-F.Arithmetic op (f a) (f b))) ∙ is) in
    o.width ∙ h a o.left o.left_is ∙ sym (width_roll ws (Expr-F.Arithmetic op (f a) (f b)))
layer_agrees ws f h (Expr-F.Division op a b) s is =
    let o =
    two may_divide left_width false (shape_of ws (f a)) (shape_of ws (f b)) s
    (sym (shape_roll ws (Expr-F.Division op (f a) (f b))) ∙ is) in
    o.width ∙ h a o.left o.left_is ∙ sym (width_roll ws (Expr-F.Division op (f a) (f b)))
layer_agrees ws f h (Expr-F.SignedDivision op a b) s is =
    let o =
    two may_divide_signed left_width false (shape_of ws (f a)) (shape_of ws (f b)) s
    (sym (shape_roll ws (Expr-F.SignedDivision op (f a) (f b))) ∙ is) in
    o.width ∙ h a o.left o.left_is ∙ sym (width_roll ws (Expr-F.SignedDivision op (f a) (f b)))
layer_agrees ws f h (Expr-F.Shift op a b) s is =
    let o =
    two (λ x y. true) left_width false (shape_of ws (f a)) (shape_of ws (f b)) s
    (sym (shape_roll ws (Expr-F.Shift op (f a) (f b))) ∙ is) in
    o.width ∙ h a o.left o.left_is ∙ sym (width_roll ws (Expr-F.Shift op (f a) (f b)))
layer_agrees ws f h (Expr-F.Compare op a b) s is =
    let o =
    two same_width (λ v w. 1) true (shape_of ws (f a)) (shape_of ws (f b)) s
    (sym (shape_roll ws (Expr-F.Compare op (f a) (f b))) ∙ is) in
    o.width ∙ sym (width_roll ws (Expr-F.Compare op (f a) (f b)))
layer_agrees ws f h (Expr-F.SignedCompare op a b) s is =
    let o =
    two same_width (λ v w. 1) true (shape_of ws (f a)) (shape_of ws (f b)) s
    (sym (shape_roll ws (Expr-F.SignedCompare op (f a) (f b))) ∙ is) in
    o.width ∙ sym (width_roll ws (Expr-F.SignedCompare op (f a) (f b)))
layer_agrees ws f h (Expr-F.Concat a b) s is =
    let o =
    two may_join (λ v w. v + w) false (shape_of ws (f a)) (shape_of ws (f b)) s
    (sym (shape_roll ws (Expr-F.Concat (f a) (f b))) ∙ is) in
    o.width
    ∙ ap (λ n. n + o.right.width) (h a o.left o.left_is)
    ∙ ap (λ n. width_of ws (f a) + n) (h b o.right o.right_is)
    ∙ sym (width_roll ws (Expr-F.Concat (f a) (f b)))
layer_agrees ws f h (Expr-F.Overflow op a b) s is =
    let o =
    two same_width (λ v w. 1) false (shape_of ws (f a)) (shape_of ws (f b)) s
    (sym (shape_roll ws (Expr-F.Overflow op (f a) (f b))) ∙ is) in
    o.width ∙ sym (width_roll ws (Expr-F.Overflow op (f a) (f b)))

-- the width that the shape of an expression tells is that of its meaning
pub agrees : (ws : ℕ → ℕ) (e : Expr) → Agrees ws e
agrees ws e =
    ind-Expr (Agrees ws)
    (λ l y is.
    let P : Expr-F Expr → Type 0 = λ z. Agrees ws (roll-Expr z) in
    subst P is (layer_agrees ws (λ p. p.0) (λ p. p.1) y))
    e

-- ---- operands

record Right (o : Option Shape) : Type 0 where
  shape : Shape
  is : o ≡ Some shape

some : (o : Option Shape) → is_right o ≡ true → Right o
some None h = cc
some (Some s) h = record { shape = s; is = refl }

right_of : (o : Option Shape) (s : Shape) → o ≡ Some s → is_right o ≡ true
right_of o s is = ap is_right is

of_layer : (ws : ℕ → ℕ) (e : Expr) (l : Expr-F Expr)
    → roll-Expr l ≡ e
    → is_right (shape_of ws e) ≡ true
    → Right (shape_step ws (map-Expr Expr (Option Shape) (shape_of ws) l))
of_layer ws e l is h =
    some (shape_step ws (map-Expr Expr (Option Shape) (shape_of ws) l))
    (ap is_right (sym (ap (shape_of ws) (sym is) ∙ shape_roll ws l)) ∙ h)

pub record Operands (ws : ℕ → ℕ) (a b : Expr) : Type 0 where
  pub left : is_right (shape_of ws a) ≡ true
  pub right : is_right (shape_of ws b) ≡ true

pub record Alike (ws : ℕ → ℕ) (a b : Expr) : Type 0 where
  pub left : is_right (shape_of ws a) ≡ true
  pub right : is_right (shape_of ws b) ≡ true
  pub same : width_of ws a ≡ width_of ws b

pub record Short (ws : ℕ → ℕ) (a b : Expr) : Type 0 where
  pub left : is_right (shape_of ws a) ≡ true
  pub right : is_right (shape_of ws b) ≡ true
  pub few : width_of ws a + width_of ws b ≤ 16

first_holds : (a b : Bool) → a && b ≡ true → a ≡ true
first_holds true b h = refl
first_holds false b h = cc

pub arithmetic_right : (ws : ℕ → ℕ) (op : ArithmeticOp) (a b : Expr)
    → is_right (shape_of ws (E.Arithmetic op a b)) ≡ true
    → Alike ws a b
arithmetic_right ws op a b h =
    let r = of_layer ws (E.Arithmetic op a b) (Expr-F.Arithmetic op a b) (E.rolls-Arithmetic op a b) h in
    let o = two same_width left_width false (shape_of ws a) (shape_of ws b) r.shape r.is in
    let same : o.left.width ≡ o.right.width = eqb-true o.left.width o.right.width (o.holds) in
    record {
      left = right_of (shape_of ws a) o.left o.left_is;
      right = right_of (shape_of ws b) o.right o.right_is;
      same = sym (agrees ws a o.left o.left_is) ∙ same ∙ agrees ws b o.right o.right_is;
    }

pub division_right : (ws : ℕ → ℕ) (op : DivisionOp) (a b : Expr)
    → is_right (shape_of ws (E.Division op a b)) ≡ true
    → Alike ws a b
division_right ws op a b h =
    let r = of_layer ws (E.Division op a b) (Expr-F.Division op a b) (E.rolls-Division op a b) h in
    let o = two may_divide left_width false (shape_of ws a) (shape_of ws b) r.shape r.is in
    let same : o.left.width ≡ o.right.width =
    eqb-true o.left.width o.right.width
    (first_holds (same_width o.left o.right) (by_constant o.right.constant) o.holds) in
    record {
      left = right_of (shape_of ws a) o.left o.left_is;
      right = right_of (shape_of ws b) o.right o.right_is;
      same = sym (agrees ws a o.left o.left_is) ∙ same ∙ agrees ws b o.right o.right_is;
    }

pub signed_division_right : (ws : ℕ → ℕ) (op : SignedDivisionOp) (a b : Expr)
    → is_right (shape_of ws (E.SignedDivision op a b)) ≡ true
    → Alike ws a b
signed_division_right ws op a b h =
    let r = of_layer ws (E.SignedDivision op a b) (Expr-F.SignedDivision op a b) (E.rolls-SignedDivision op a b) h in
    let o = two may_divide_signed left_width false (shape_of ws a) (shape_of ws b) r.shape r.is in
    let same : o.left.width ≡ o.right.width =
    eqb-true o.left.width o.right.width
    (first_holds (same_width o.left o.right) (by_signed o.right.constant) o.holds) in
    record {
      left = right_of (shape_of ws a) o.left o.left_is;
      right = right_of (shape_of ws b) o.right o.right_is;
      same = sym (agrees ws a o.left o.left_is) ∙ same ∙ agrees ws b o.right o.right_is;
    }

pub shift_right : (ws : ℕ → ℕ) (op : ShiftOp) (a b : Expr)
    → is_right (shape_of ws (E.Shift op a b)) ≡ true
    → Operands ws a b
shift_right ws op a b h =
    let r = of_layer ws (E.Shift op a b) (Expr-F.Shift op a b) (E.rolls-Shift op a b) h in
    let o = two (λ x y. true) left_width false (shape_of ws a) (shape_of ws b) r.shape r.is in
    record { left = right_of (shape_of ws a) o.left o.left_is; right = right_of (shape_of ws b) o.right o.right_is }

pub compare_right : (ws : ℕ → ℕ) (op : CompareOp) (a b : Expr)
    → is_right (shape_of ws (E.Compare op a b)) ≡ true
    → Alike ws a b
compare_right ws op a b h =
    let r = of_layer ws (E.Compare op a b) (Expr-F.Compare op a b) (E.rolls-Compare op a b) h in
    let o = two same_width (λ v w. 1) true (shape_of ws a) (shape_of ws b) r.shape r.is in
    let same : o.left.width ≡ o.right.width = eqb-true o.left.width o.right.width (o.holds) in
    record {
      left = right_of (shape_of ws a) o.left o.left_is;
      right = right_of (shape_of ws b) o.right o.right_is;
      same = sym (agrees ws a o.left o.left_is) ∙ same ∙ agrees ws b o.right o.right_is;
    }

pub signed_compare_right : (ws : ℕ → ℕ) (op : SignedCompareOp) (a b : Expr)
    → is_right (shape_of ws (E.SignedCompare op a b)) ≡ true
    → Alike ws a b
signed_compare_right ws op a b h =
    let r = of_layer ws (E.SignedCompare op a b) (Expr-F.SignedCompare op a b) (E.rolls-SignedCompare op a b) h in
    let o = two same_width (λ v w. 1) true (shape_of ws a) (shape_of ws b) r.shape r.is in
    let same : o.left.width ≡ o.right.width = eqb-true o.left.width o.right.width (o.holds) in
    record {
      left = right_of (shape_of ws a) o.left o.left_is;
      right = right_of (shape_of ws b) o.right o.right_is;
      same = sym (agrees ws a o.left o.left_is) ∙ same ∙ agrees ws b o.right o.right_is;
    }

pub concat_right : (ws : ℕ → ℕ) (a b : Expr) → is_right (shape_of ws (E.Concat a b)) ≡ true → Short ws a b
concat_right ws a b h =
    let r = of_layer ws (E.Concat a b) (Expr-F.Concat a b) (E.rolls-Concat a b) h in
    let o = two may_join (λ v w. v + w) false (shape_of ws a) (shape_of ws b) r.shape r.is in
    let few : o.left.width + o.right.width ≤ 16 = leb-true (o.left.width + o.right.width) 16 o.holds in
    record {
      left = right_of (shape_of ws a) o.left o.left_is;
      right = right_of (shape_of ws b) o.right o.right_is;
      few = omega (arith, agrees ws a o.left o.left_is, agrees ws b o.right o.right_is);
    }

pub overflow_right : (ws : ℕ → ℕ) (op : OverflowOp) (a b : Expr)
    → is_right (shape_of ws (E.Overflow op a b)) ≡ true
    → Alike ws a b
overflow_right ws op a b h =
    let r = of_layer ws (E.Overflow op a b) (Expr-F.Overflow op a b) (E.rolls-Overflow op a b) h in
    let o = two same_width (λ v w. 1) false (shape_of ws a) (shape_of ws b) r.shape r.is in
    let same : o.left.width ≡ o.right.width = eqb-true o.left.width o.right.width (o.holds) in
    record {
      left = right_of (shape_of ws a) o.left o.left_is;
      right = right_of (shape_of ws b) o.right o.right_is;
      same = sym (agrees ws a o.left o.left_is) ∙ same ∙ agrees ws b o.right o.right_is;
    }

pub unary_right : (ws : ℕ → ℕ) (op : UnaryOp) (a : Expr)
    → is_right (shape_of ws (E.Unary op a)) ≡ true
    → is_right (shape_of ws a) ≡ true
unary_right ws op a h =
    let r = of_layer ws (E.Unary op a) (Expr-F.Unary op a) (E.rolls-Unary op a) h in
    let o = one (λ v. true) (λ v. v) (shape_of ws a) r.shape r.is in right_of (shape_of ws a) o.operand o.is

pub extend_right : (ws : ℕ → ℕ) (op : ExtendOp) (out : Width) (a : Expr)
    → is_right (shape_of ws (E.Extend op out a)) ≡ true
    → is_right (shape_of ws a) ≡ true
extend_right ws op out a h =
    let r = of_layer ws (E.Extend op out a) (Expr-F.Extend op out a) (E.rolls-Extend op out a) h in
    let o = one (λ v. nat_lt v out.bytes) (λ v. out.bytes) (shape_of ws a) r.shape r.is in
    right_of (shape_of ws a) o.operand o.is

pub part_right : (ws : ℕ → ℕ) (dropped : ℕ) (out : Width) (a : Expr)
    → is_right (shape_of ws (E.Part dropped out a)) ≡ true
    → is_right (shape_of ws a) ≡ true
part_right ws dropped out a h =
    let r = of_layer ws (E.Part dropped out a) (Expr-F.Part dropped out a) (E.rolls-Part dropped out a) h in
    let o = one (is_part dropped out.bytes) (λ v. out.bytes) (shape_of ws a) r.shape r.is in
    right_of (shape_of ws a) o.operand o.is

pub count_right : (ws : ℕ → ℕ) (op : CountOp) (a : Expr)
    → is_right (shape_of ws (E.Count op a)) ≡ true
    → is_right (shape_of ws a) ≡ true
count_right ws op a h =
    let r = of_layer ws (E.Count op a) (Expr-F.Count op a) (E.rolls-Count op a) h in
    let o = one (λ v. true) (λ v. 1) (shape_of ws a) r.shape r.is in right_of (shape_of ws a) o.operand o.is

pub extend_wider : (ws : ℕ → ℕ) (op : ExtendOp) (out : Width) (a : Expr)
    → is_right (shape_of ws (E.Extend op out a)) ≡ true
    → width_of ws a < out.bytes
extend_wider ws op out a h =
    let r = of_layer ws (E.Extend op out a) (Expr-F.Extend op out a) (E.rolls-Extend op out a) h in
    let o = one (λ v. nat_lt v out.bytes) (λ v. out.bytes) (shape_of ws a) r.shape r.is in
    let less : o.operand.width < out.bytes = ltb-true o.operand.width out.bytes o.holds in
    omega (arith, agrees ws a o.operand o.is)
