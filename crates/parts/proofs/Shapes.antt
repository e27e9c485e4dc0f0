-- An expression that obeys the rules of a valid tree has a value wherever the variables have one that it reads: it
-- divides by constants alone, and these are not 0. Its shape's depth is its depth.
use Rattle.std.proofs.Common.{◌≡◌, ℕ, ◌+◌, ◌-◌, ◌==◌, ◌&&◌, max, nat_lt, Bool, true, false, not, cond, Option, Some, None, refl, sym, ap, ◌∙◌}
use Rattle.std.proofs.lemmas.Bool.{and_parts, eqb-true}
use Rattle.bits_core.specs.declared.word.Word.{Word}
use Rattle.bits_core.specs.declared.ops.Divide.{Divide}
use Rattle.bits_core.specs.Value.{limit, half, divide_value, quotient_or_rest}
use Rattle.cmeaning.specs.declared.shape.Shape.{Shape}
use Rattle.cmeaning.specs.declared.tree.Expr.{Expr, fold-roll-Expr, roll-Expr, map-Expr}
use Rattle.cmeaning.specs.declared.tree.Expr.TheOpen.{Expr-F}
use Rattle.cmeaning.specs.declared.tree.Expr.TheVariants as E
use Rattle.cmeaning.specs.Shape.{leaf, above, one_shape, two_shape, same_width, may_divide, may_divide_signed, by_constant, by_signed, may_join, is_part, shape_step, shape_of, is_right}
use Rattle.cmeaning.specs.Value.{with_value, with_values, signed_quotient, width_of, value_of}
use Rattle.cmeaning.proofs.Value.{value_of_const, value_of_var, width_of_const, width_of_var}
use Rattle.parts.specs.Exprs.{One, Unary, Extend, Part, Count, Two, Arithmetic, Division, SignedDivision, Shift, Compare, SignedCompare, Concat, Overflow, Env, one, two, one_width, two_width, one_value, two_value, depth, IsTotal}
use Rattle.parts.proofs.Nodes.{by_parts, width_one, width_two, value_one, value_two, depth_const, depth_var, depth_one, depth_two}
use Rattle.parts.proofs.Values.{reads_self, in_one, in_left, in_right}

-- ---- the shape of a node

abbrev one_right : One → ℕ → Bool
one_right (Unary op) v = true
one_right (Extend op w) v = nat_lt v w.bytes
one_right (Part dropped w) v = is_part dropped w.bytes v
one_right (Count op) v = true

abbrev two_right : Two → Shape → Shape → Bool
two_right (Arithmetic op) a b = same_width a b
two_right (Division op) a b = may_divide a b
two_right (SignedDivision op) a b = may_divide_signed a b
two_right (Shift op) a b = true
two_right (Compare op) a b = same_width a b
two_right (SignedCompare op) a b = same_width a b
two_right Concat a b = may_join a b
two_right (Overflow op) a b = same_width a b

abbrev compares : Two → Bool
compares (Compare op) = true
compares (SignedCompare op) = true
compares k = false

module _ (ws : ℕ → ℕ) where
  shape_layer : (e : Expr) (l : Expr-F Expr)
      → roll-Expr l ≡ e
      → shape_of ws e ≡ shape_step ws (map-Expr Expr (Option Shape) (shape_of ws) l)
  unfolding shape_of
  shape_layer e l is = ap (shape_of ws) (sym is) ∙ fold-roll-Expr (Option Shape) (shape_step ws) l

  shape_one : (k : One) (a : Expr) → shape_of ws (one k a) ≡ one_shape (one_right k) (one_width k) (shape_of ws a)
  shape_one (Unary op) a = shape_layer (E.Unary op a) (Expr-F.Unary op a) (E.rolls-Unary op a)
  shape_one (Extend op w) a = shape_layer (E.Extend op w a) (Expr-F.Extend op w a) (E.rolls-Extend op w a)
  shape_one (Part dropped w) a =
      shape_layer (E.Part dropped w a) (Expr-F.Part dropped w a) (E.rolls-Part dropped w a)
  shape_one (Count op) a = shape_layer (E.Count op a) (Expr-F.Count op a) (E.rolls-Count op a)

  shape_two : (k : Two) (a b : Expr)
      → shape_of ws (two k a b)
      ≡ two_shape (two_right k) (two_width k) (compares k) (shape_of ws a) (shape_of ws b)
  shape_two (Arithmetic op) a b =
      shape_layer (E.Arithmetic op a b) (Expr-F.Arithmetic op a b) (E.rolls-Arithmetic op a b)
  shape_two (Division op) a b = shape_layer (E.Division op a b) (Expr-F.Division op a b) (E.rolls-Division op a b)
  shape_two (SignedDivision op) a b =
      shape_layer (E.SignedDivision op a b) (Expr-F.SignedDivision op a b) (E.rolls-SignedDivision op a b)
  shape_two (Shift op) a b = shape_layer (E.Shift op a b) (Expr-F.Shift op a b) (E.rolls-Shift op a b)
  shape_two (Compare op) a b = shape_layer (E.Compare op a b) (Expr-F.Compare op a b) (E.rolls-Compare op a b)
  shape_two (SignedCompare op) a b =
      shape_layer (E.SignedCompare op a b) (Expr-F.SignedCompare op a b) (E.rolls-SignedCompare op a b)
  shape_two Concat a b = shape_layer (E.Concat a b) (Expr-F.Concat a b) (E.rolls-Concat a b)
  shape_two (Overflow op) a b = shape_layer (E.Overflow op a b) (Expr-F.Overflow op a b) (E.rolls-Overflow op a b)

-- ---- what a shape says

-- a node's shape
record IsAbove (s : Shape) (w d : ℕ) : Type 0 where
  width : s.width ≡ w
  depth : s.depth ≡ d + 1
  constant : s.constant ≡ None

chosen : (b : Bool) (r s : Shape) → cond b (Some r) None ≡ Some s → r ≡ s
chosen true r s is = cc
chosen false r s is = absurd (cc)

above_is : (b : Bool) (w d : ℕ) (c : Bool) (s : Shape) → above b w d c ≡ Some s → (b ≡ true) × IsAbove s w d
above_is true w d c s is =
    let made : Shape = record { width = w; depth = d + 1; constant = None; comparison = c } in
    let same = chosen (nat_lt d 64) made s is in (
      refl,
      record {
        width = ap (λ (x : Shape). x.width) (sym same);
        depth = ap (λ (x : Shape). x.depth) (sym same);
        constant = ap (λ (x : Shape). x.constant) (sym same);
      },
    )
above_is false w d c s is = absurd (cc)

of_one : (r : ℕ → Bool) (w : ℕ → ℕ) (o : Option Shape) (s : Shape)
    → one_shape r w o ≡ Some s
    → (p : Shape) × (o ≡ Some p) × IsAbove s (w p.width) p.depth
of_one r w None s is = absurd (cc)
of_one r w (Some p) s is = (p, refl, (above_is (r p.width) (w p.width) p.depth false s is).1)

of_two : (r : Shape → Shape → Bool) (w : ℕ → ℕ → ℕ) (c : Bool) (o o' : Option Shape) (s : Shape)
    → two_shape r w c o o' ≡ Some s
    → (p : Shape) × (q : Shape)
    × (o ≡ Some p) × (o' ≡ Some q) × (r p q ≡ true) × IsAbove s (w p.width q.width) (max p.depth q.depth)
of_two r w c None o' s is = absurd (cc)
of_two r w c (Some p) None s is = absurd (cc)
of_two r w c (Some p) (Some q) s is =
    let u = above_is (r p q) (w p.width q.width) (max p.depth q.depth) c s is in
    (p, q, refl, refl, u.0, u.1)

record IsLeaf (s : Shape) (w : ℕ) (c : Option Word) : Type 0 where
  width : s.width ≡ w
  depth : s.depth ≡ 1
  constant : s.constant ≡ c

leaf_is : (w : ℕ) (c : Option Word) (s : Shape) → leaf w c ≡ Some s → IsLeaf s w c
leaf_is w c s is =
    let made : Shape = record { width = w; depth = 1; constant = c; comparison = false } in
    let same : made ≡ s = cc in
    record {
      width = ap (λ (x : Shape). x.width) (sym same);
      depth = ap (λ (x : Shape). x.depth) (sym same);
      constant = ap (λ (x : Shape). x.constant) (sym same);
    }

variable_is : (b : Bool) (w : ℕ) (s : Shape) → cond b (leaf w None) None ≡ Some s → IsLeaf s w None
variable_is true w s is = leaf_is w None s is
variable_is false w s is = absurd (cc)

none_some : {c : Word} (o : Option Word) → o ≡ None → o ≡ Some c → ⊥
none_some o e f = cc

same_word : {c d : Word} (o : Option Word) → o ≡ Some c → o ≡ Some d → c ≡ d
same_word o e f = cc

-- Its width is the expression's, and its depth; and one with a constant is that constant.
record Says (ws : ℕ → ℕ) (e : Expr) (s : Shape) : Type 0 where
  width : s.width ≡ width_of ws e
  deep : s.depth ≡ depth e
  constant : (c : Word)
      → s.constant ≡ Some c
      → (width_of ws e ≡ c.width.bytes) × ((env : Env) → value_of ws env e ≡ Some c.value)

says : (ws : ℕ → ℕ) (e : Expr) (s : Shape) → shape_of ws e ≡ Some s → Says ws e s
says ws e = by_parts (λ e. (s : Shape) → shape_of ws e ≡ Some s → Says ws e s)
    (λ d s is.
    let made = sym (shape_layer ws (E.Const d) (Expr-F.Const d) (E.rolls-Const d)) ∙ is in
    let u = leaf_is d.width.bytes (Some d) s made in
    record {
      width = u.width ∙ sym (width_of_const ws d);
      deep = u.depth ∙ sym (depth_const d);
      constant = λ c h.
          let same = same_word s.constant u.constant h in (
            width_of_const ws d ∙ ap (λ (w : Word). w.width.bytes) same,
            λ env. value_of_const ws env d ∙ ap (λ (w : Word). Some w.value) same,
          );
    })
    (λ x s is.
    let u = variable_is _ (ws x) s (sym (shape_layer ws (E.Var x) (Expr-F.Var x) (E.rolls-Var x)) ∙ is) in
    record {
      width = u.width ∙ sym (width_of_var ws x);
      deep = u.depth ∙ sym (depth_var x);
      constant = λ c h. absurd (none_some s.constant u.constant h);
    })
    (λ k a ha s is.
    let u = of_one (one_right k) (one_width k) (shape_of ws a) s (sym (shape_one ws k a) ∙ is) in
    let sa = ha u.0 u.1 in
    record {
      width = u.2.width ∙ ap (one_width k) sa.width ∙ sym (width_one ws k a);
      deep = u.2.depth ∙ ap (λ n. n + 1) sa.deep ∙ sym (depth_one k a);
      constant = λ c h. absurd (none_some s.constant u.2.constant h);
    })
    (λ k a b ha hb s is.
    let made = sym (shape_two ws k a b) ∙ is in
    let u = of_two (two_right k) (two_width k) (compares k) (shape_of ws a) (shape_of ws b) s made in
    let sa = ha u.0 u.2 in
    let sb = hb u.1 u.3 in
    record {
      width =
          u.5.width
          ∙ ap (λ n. two_width k n u.1.width) sa.width
          ∙ ap (two_width k (width_of ws a)) sb.width
          ∙ sym (width_two ws k a b);
      deep =
          u.5.depth
          ∙ ap (λ n. max n u.1.depth + 1) sa.deep
          ∙ ap (λ n. max (depth a) n + 1) sb.deep
          ∙ sym (depth_two k a b);
      constant = λ c h. absurd (none_some s.constant u.5.constant h);
    })
    e

-- ---- values

not_true : (b : Bool) → not b ≡ true → b ≡ false
not_true true e = absurd (cc)
not_true false e = refl

and_false : (a b : Bool) → b ≡ false → a && b ≡ false
and_false true b e = e
and_false false b e = refl

divides : (op : Divide) (w x y : ℕ) → (y == 0) ≡ false → (n : ℕ) × (divide_value op w x y ≡ Some n)
divides op w x y e = (quotient_or_rest op w x y, ap (λ b. cond b None (Some (quotient_or_rest op w x y))) e)

constant_of : (o : Option Word) → by_constant o ≡ true → (c : Word) × (o ≡ Some c) × ((c.value == 0) ≡ false)
constant_of None e = absurd (cc)
constant_of (Some c) e = (c, refl, not_true (c.value == 0) e)

signed_of : (o : Option Word)
    → by_signed o ≡ true
    → (c : Word) × (o ≡ Some c) × ((c.value == 0) ≡ false) × ((c.value == limit c.width.bytes - 1) ≡ false)
signed_of None e = absurd (cc)
signed_of (Some c) e =
    let least = c.value == limit c.width.bytes - 1 in
    let u = and_parts (not (c.value == 0)) (not least) e in
    (c, refl, not_true (c.value == 0) u.0, not_true least u.1)

signed_divides : (op : Divide) (w x y : ℕ)
    → (y == 0) ≡ false
    → (y == limit w - 1) ≡ false
    → (n : ℕ) × (signed_quotient op w x y ≡ Some n)
signed_divides op w x y e f =
    let d = divides op w x y e in
    let none = and_false (x == half w) (y == limit w - 1) f in
    (d.0, ap (λ b. cond b None (divide_value op w x y)) none ∙ d.1)

one_has : (k : One) (v x : ℕ) → (n : ℕ) × (one_value k v x ≡ Some n)
one_has (Unary op) v x = (_, refl)
one_has (Extend op w) v x = (_, refl)
one_has (Part dropped w) v x = (_, refl)
one_has (Count op) v x = (_, refl)

module _
    (ws : ℕ → ℕ) (env : Env) (a b : Expr) (p q : Shape)
    (sa : Says ws a p)
    (sb : Says ws b q)
    (y : ℕ)
    (right_is : value_of ws env b ≡ Some y)
  where
    two_has : (k : Two) (x : ℕ)
        → two_right k p q ≡ true
        → (n : ℕ) × (two_value k (width_of ws a) (width_of ws b) x y ≡ Some n)
    two_has (Arithmetic op) x right = (_, refl)
    two_has (Division op) x right =
        let c = constant_of q.constant (and_parts (same_width p q) (by_constant q.constant) right).1 in
        let same : c.0.value ≡ y = let v = sym ((sb.constant c.0 c.1).1 env) ∙ right_is in cc in
        divides _ (width_of ws a) x y (ap (λ z. z == 0) (sym same) ∙ c.2)
    two_has (SignedDivision op) x right =
        let r = and_parts (same_width p q) (by_signed q.constant) right in
        let c = signed_of q.constant r.1 in
        let same : c.0.value ≡ y = let v = sym ((sb.constant c.0 c.1).1 env) ∙ right_is in cc in
        let width : c.0.width.bytes ≡ width_of ws a =
        sym (sb.constant c.0 c.1).0 ∙ sym sb.width ∙ sym (eqb-true p.width q.width r.0) ∙ sa.width in
        signed_divides _ (width_of ws a) x y (ap (λ z. z == 0) (sym same) ∙ c.2)
        (ap (λ z. z == limit (width_of ws a) - 1) (sym same)
        ∙ ap (λ w. c.0.value == limit w - 1) (sym width)
        ∙ c.3)
    two_has (Shift op) x right = (_, refl)
    two_has (Compare op) x right = (_, refl)
    two_has (SignedCompare op) x right = (_, refl)
    two_has Concat x right = (_, refl)
    two_has (Overflow op) x right = (_, refl)

-- An expression that obeys the rules has a value wherever its variables have one.
pub shape_total : (ws : ℕ → ℕ) (e : Expr) (s : Shape) → shape_of ws e ≡ Some s → IsTotal ws e
shape_total ws e = by_parts (λ e. (s : Shape) → shape_of ws e ≡ Some s → IsTotal ws e)
    (λ c s is env h. (c.value, value_of_const ws env c))
    (λ x s is env h. let r = h x (reads_self x) in (r.0, value_of_var ws env x ∙ r.1))
    (λ k a ha s is env h.
    let u = of_one (one_right k) (one_width k) (shape_of ws a) s (sym (shape_one ws k a) ∙ is) in
    let r = ha u.0 u.1 env (λ v i. h v (in_one k a v i)) in
    let n = one_has k (width_of ws a) r.0 in
    (n.0, value_one ws env k a ∙ ap (λ o. with_value o (one_value k (width_of ws a))) r.1 ∙ n.1))
    (λ k a b ha hb s is env h.
    let made = sym (shape_two ws k a b) ∙ is in
    let u = of_two (two_right k) (two_width k) (compares k) (shape_of ws a) (shape_of ws b) s made in
    let g = two_value k (width_of ws a) (width_of ws b) in
    let x = ha u.0 u.2 env (λ v i. h v (in_left k a b v i)) in
    let y = hb u.1 u.3 env (λ v i. h v (in_right k a b v i)) in
    let n = two_has ws env a b u.0 u.1 (says ws a u.0 u.2) (says ws b u.1 u.3) y.0 y.1 k x.0 u.4 in (
      n.0,
      value_two ws env k a b
          ∙ ap (λ o. with_values o (value_of ws env b) g) x.1
          ∙ ap (λ o. with_value o (g x.0)) y.1
          ∙ n.1,
    ))
    e

-- The depth of a shape is that of its expression.
pub shape_depth : (ws : ℕ → ℕ) (e : Expr) (s : Shape) → shape_of ws e ≡ Some s → s.depth ≡ depth e
shape_depth ws e s is = (says ws e s is).deep

right_some : (o : Option Shape) → is_right o ≡ true → (s : Shape) × (o ≡ Some s)
right_some None e = absurd (cc)
right_some (Some s) e = (s, refl)

pub right_total : (ws : ℕ → ℕ) (e : Expr) → is_right (shape_of ws e) ≡ true → IsTotal ws e
right_total ws e right = let s = right_some (shape_of ws e) right in shape_total ws e s.0 s.1
