-- What obeys the rules of expressions, and mentions variables alone: leaves, and each kind of node over operands.
-- A range is the concatenation of at most 16 variables, so an operand is at most so deep.
use Rattle.std.proofs.Common.{◌≡◌, ℕ, suc, ◌+◌, ◌<◌, ◌≤◌, ◌^◌, Bool, true, false, List, [], ◌∷◌, ◌++◌, Option, Some, None, refl, sym, ap, ◌∙◌, subst, arith}
use Rattle.std.specs.Prelude.{◌&&◌, max, nat_lt, cond}
use Rattle.std.proofs.lemmas.Bool.Decides.{nat_tests}
use Rattle.cmeaning.specs.declared.shape.Shape.{Shape}
use Rattle.cmeaning.specs.declared.tree.UnaryOp.{UnaryOp}
use Rattle.cmeaning.specs.declared.tree.ArithmeticOp.{ArithmeticOp}
use Rattle.cmeaning.specs.declared.tree.DivisionOp.{DivisionOp}
use Rattle.cmeaning.specs.declared.tree.SignedDivisionOp.{SignedDivisionOp}
use Rattle.cmeaning.specs.declared.tree.ShiftOp.{ShiftOp}
use Rattle.cmeaning.specs.declared.tree.CompareOp.{CompareOp}
use Rattle.cmeaning.specs.declared.tree.SignedCompareOp.{SignedCompareOp}
use Rattle.cmeaning.specs.declared.tree.ExtendOp.{ExtendOp}
use Rattle.cmeaning.specs.declared.tree.OverflowOp.{OverflowOp}
use Rattle.cmeaning.specs.declared.tree.CountOp.{CountOp}
use Rattle.cmeaning.specs.declared.tree.Expr.{Expr, fold-roll-Expr, roll-Expr, map-Expr}
use Rattle.cmeaning.specs.declared.tree.Expr.TheOpen.{Expr-F}
use Rattle.cmeaning.specs.declared.tree.Expr.TheVariants as E
use Rattle.cmeaning.specs.Shape.{leaf, above, one_shape, two_shape, same_width, by_constant, by_signed, is_part, may_divide, may_divide_signed, may_join, left_width, shape_step, shape_of}
use Rattle.cmeaning.specs.Mentions.{Mention, Variable, Callee, LabelLine, in_expr}
use Rattle.cmeaning.proofs.Mentions.{in_layer}
use Rattle.op_values.specs.Nodes.{constant, nearest, width_by, word_by}
use Rattle.op_values.proofs.Means.{nearest_is}

-- ---- mentions

abbrev pub IsBelow : ℕ → Mention → Type 0
IsBelow n (Variable v) = v < n
IsBelow n (Callee address) = ⊥
IsBelow n (LabelLine label) = ⊥

-- variables alone, of numbers below one
abbrev pub AllBelow : ℕ → List Mention → Type 0
AllBelow n [] = Unit {0}
AllBelow n (x ∷ xs) = IsBelow n x × AllBelow n xs

pub below_append : (n : ℕ) (xs ys : List Mention) → AllBelow n xs → AllBelow n ys → AllBelow n (xs ++ ys)
below_append n [] ys h g = g
below_append n (x ∷ xs) ys h g = (h.0, below_append n xs ys h.1 g)

-- ---- expressions

-- By the widths of n variables: an expression obeys the rules, with this width, and at most so deep; and it mentions
-- variables alone.
pub record Fits (ws : ℕ → ℕ) (n : ℕ) (e : Expr) (w d : ℕ) : Type 0 where
  pub shape : Shape
  pub is : shape_of ws e ≡ Some shape
  pub width : shape.width ≡ w
  pub depth : shape.depth ≤ d
  pub mentions : AllBelow n (in_expr e)

abbrev node : ℕ → ℕ → Bool → Shape
node w depth comparison = record { width = w; depth = depth + 1; constant = None; comparison = comparison }

above_is : (right : Bool) (w depth : ℕ) (comparison : Bool)
    → right ≡ true
    → depth < 64
    → above right w depth comparison ≡ Some (node w depth comparison)
above_is right w depth comparison r d =
    let t : (right && nat_lt depth 64) ≡ true = grind (arith, nat_tests) in
    ap (λ b. cond b (Some (node w depth comparison)) None) t

equal_widths : (x y : Shape) (u v : ℕ) → u ≡ v → x.width ≡ u → y.width ≡ v → same_width x y ≡ true
equal_widths x y u v is p q = let e : x.width ≡ y.width = p ∙ is ∙ sym q in grind (arith, nat_tests)

join_widths : (x y : Shape) (u v w : ℕ) → w ≡ u + v → w ≤ 16 → x.width ≡ u → y.width ≡ v → may_join x y ≡ true
join_widths x y u v w is small p q = let e : x.width + y.width ≤ 16 = omega (arith, is, small, p, q) in
    grind (arith, nat_tests)

-- the shape of a constant
abbrev pub constant_shape : ℕ → ℕ → Shape
constant_shape w value = record { width = nearest w; depth = 1; constant = Some (word_by w value); comparison = false }

module _ (ws : ℕ → ℕ) (n : ℕ) where
  shape_layer : (e : Expr) (l : Expr-F Expr)
      → roll-Expr l ≡ e
      → shape_of ws e ≡ shape_step ws (map-Expr Expr (Option Shape) (shape_of ws) l)
  unfolding shape_of
  shape_layer e l is = ap (shape_of ws) (sym is) ∙ fold-roll-Expr (Option Shape) (shape_step ws) l

  -- A bound of the depth may be greater.
  pub deeper : (e : Expr) (w d m : ℕ) → d ≤ m → Fits ws n e w d → Fits ws n e w m
  deeper e w d m le f = record {
    shape = f.shape;
    is = f.is;
    width = f.width;
    depth = omega (arith, f.depth, le);
    mentions = f.mentions;
  }

  pub as_wide : (e : Expr) (v w d : ℕ) → v ≡ w → Fits ws n e v d → Fits ws n e w d
  as_wide e v w d is f = record {
    shape = f.shape;
    is = f.is;
    width = f.width ∙ is;
    depth = f.depth;
    mentions = f.mentions;
  }

  -- over one operand
  one : (c e : Expr) (right : ℕ → Bool) (w : ℕ → ℕ) (v d : ℕ)
      → shape_of ws c ≡ one_shape right w (shape_of ws e)
      → in_expr c ≡ in_expr e
      → Fits ws n e v d
      → right v ≡ true
      → d < 64
      → Fits ws n c (w v) (suc d)
  one c e right w v d is same f r small =
      let s = f.shape in
      let deep : s.depth < 64 = omega (arith, f.depth, small) in
      record {
        shape = node (w s.width) s.depth false;
        is = is ∙ ap (one_shape right w) f.is
            ∙ above_is (right s.width) (w s.width) s.depth false (ap right f.width ∙ r) deep;
        width = ap w f.width;
        depth = omega (arith, f.depth);
        mentions = subst (AllBelow n) (sym same) f.mentions;
      }

  -- over two, by their shapes
  two_of : (c a b : Expr) (right : Shape → Shape → Bool) (w : ℕ → ℕ → ℕ) (comparison : Bool) (x y : Shape) (d : ℕ)
      → d < 64
      → shape_of ws c ≡ two_shape right w comparison (shape_of ws a) (shape_of ws b)
      → in_expr c ≡ in_expr a ++ in_expr b
      → shape_of ws a ≡ Some x
      → shape_of ws b ≡ Some y
      → x.depth ≤ d
      → y.depth ≤ d
      → AllBelow n (in_expr a)
      → AllBelow n (in_expr b)
      → right x y ≡ true
      → Fits ws n c (w x.width y.width) (suc d)
  two_of c a b right w comparison x y d small is same f g deep_f deep_g in_a in_b r =
      let deep : max x.depth y.depth < 64 = omega (arith, deep_f, deep_g, small) in
      record {
        shape = node (w x.width y.width) (max x.depth y.depth) comparison;
        is = is ∙ ap (λ s. two_shape right w comparison s (shape_of ws b)) f
            ∙ ap (two_shape right w comparison (Some x)) g
            ∙ above_is (right x y) (w x.width y.width) (max x.depth y.depth) comparison r deep;
        width = refl;
        depth = omega (arith, deep_f, deep_g);
        mentions = subst (AllBelow n) (sym same) (below_append n (in_expr a) (in_expr b) in_a in_b);
      }

  two : (c a b : Expr) (right : Shape → Shape → Bool) (w : ℕ → ℕ → ℕ) (comparison : Bool) (u v d : ℕ)
      → d < 64
      → shape_of ws c ≡ two_shape right w comparison (shape_of ws a) (shape_of ws b)
      → in_expr c ≡ in_expr a ++ in_expr b
      → Fits ws n a u d
      → Fits ws n b v d
      → ((x y : Shape) → x.width ≡ u → y.width ≡ v → right x y ≡ true)
      → Fits ws n c (w u v) (suc d)
  two c a b right w comparison u v d small is same f g r =
      let x = f.shape in
      let y = g.shape in
      as_wide c (w x.width y.width) (w u v) (suc d) (ap (λ k. w k y.width) f.width ∙ ap (w u) g.width)
      (two_of c a b right w comparison x y d small is same f.is g.is f.depth g.depth f.mentions g.mentions
      (r x y f.width g.width))

  -- ---- leaves

  pub variable_fits : (v w : ℕ) → v < n → n ≤ 2 ^ 32 → ws v ≡ w → 0 < w → Fits ws n (E.Var v) w 1
  variable_fits v w within few is some =
      let t : (nat_lt v (2 ^ 32) && nat_lt 0 (ws v)) ≡ true = grind (arith, nat_tests) in
      let m : AllBelow n (Variable v ∷ []) = (within, tt) in
      record {
        shape = record { width = ws v; depth = 1; constant = None; comparison = false };
        is = shape_layer (E.Var v) (Expr-F.Var v) (E.rolls-Var v) ∙ ap (λ b. cond b (leaf (ws v) None) None) t;
        width = is;
        depth = omega arith;
        mentions = subst (AllBelow n) (sym (in_layer (E.Var v) (Expr-F.Var v) (E.rolls-Var v))) m;
      }

  constant_is : (w value : ℕ) → shape_of ws (constant w value) ≡ Some (constant_shape w value)
  constant_is w value =
      let c = word_by w value in
      shape_layer (E.Const c) (Expr-F.Const c) (E.rolls-Const c)

  constant_below : (w value : ℕ) → AllBelow n (in_expr (constant w value))
  constant_below w value =
      let c = word_by w value in
      subst (AllBelow n) (sym (in_layer (E.Const c) (Expr-F.Const c) (E.rolls-Const c))) tt

  pub constant_fits : (w value : ℕ) → 0 < w → w ≤ 16 → Fits ws n (constant w value) w 1
  constant_fits w value some small = record {
    shape = constant_shape w value;
    is = constant_is w value;
    width = nearest_is w some small;
    depth = omega arith;
    mentions = constant_below w value;
  }

  -- ---- nodes over one operand

  pub extend_fits : (op : ExtendOp) (v w d : ℕ) (e : Expr)
      → v < w
      → w ≤ 16
      → d < 64
      → Fits ws n e v d
      → Fits ws n (E.Extend op (width_by w) e) w (suc d)
  extend_fits op v w d e less small deep f =
      let i : nearest w ≡ w = nearest_is w (omega (arith, less)) small in
      let c = E.Extend op (width_by w) e in
      let r : nat_lt v (nearest w) ≡ true = let l : v < nearest w = omega (arith, i, less) in
      grind (arith, nat_tests) in
      as_wide c (nearest w) w (suc d) i (one c e (λ k. nat_lt k (nearest w)) (λ k. nearest w) v d
      (shape_layer c (Expr-F.Extend op (width_by w) e) (E.rolls-Extend op (width_by w) e))
      (in_layer c (Expr-F.Extend op (width_by w) e) (E.rolls-Extend op (width_by w) e)) f r deep)

  -- w of the v bytes, behind k low ones
  pub part_fits : (k v w : ℕ) (e : Expr)
      → k + w ≤ v
      → w < v
      → 0 < w
      → w ≤ 16
      → Fits ws n e v 16
      → Fits ws n (E.Part k (width_by w) e) w 17
  part_fits k v w e inside less some small f =
      let i : nearest w ≡ w = nearest_is w some small in
      let c = E.Part k (width_by w) e in
      let l : k + nearest w ≤ v = omega (arith, i, inside) in
      let m : nearest w < v = omega (arith, i, less) in
      let r : is_part k (nearest w) v ≡ true = grind (arith, nat_tests) in
      as_wide c (nearest w) w 17 i (one c e (is_part k (nearest w)) (λ k. nearest w) v 16
      (shape_layer c (Expr-F.Part k (width_by w) e) (E.rolls-Part k (width_by w) e))
      (in_layer c (Expr-F.Part k (width_by w) e) (E.rolls-Part k (width_by w) e)) f r (omega arith))

  pub unary_fits_by : (op : UnaryOp) (v w : ℕ) (e : Expr)
      → v ≡ w
      → Fits ws n e v 16
      → Fits ws n (E.Unary op e) w 17
  unary_fits_by op v w e same f =
      let c = E.Unary op e in
      as_wide c v w 17 same (one c e (λ k. true) (λ k. k) v 16
      (shape_layer c (Expr-F.Unary op e) (E.rolls-Unary op e))
      (in_layer c (Expr-F.Unary op e) (E.rolls-Unary op e)) f refl (omega arith))

  pub count_fits : (op : CountOp) (v : ℕ) (e : Expr) → Fits ws n e v 16 → Fits ws n (E.Count op e) 1 17
  count_fits op v e f =
      let c = E.Count op e in
      one c e (λ k. true) (λ k. 1) v 16 (shape_layer c (Expr-F.Count op e) (E.rolls-Count op e))
      (in_layer c (Expr-F.Count op e) (E.rolls-Count op e)) f refl (omega arith)

  -- ---- nodes over two operands

  pub concat_fits : (u v w k : ℕ) (d e : Expr)
      → w ≡ u + v
      → w ≤ 16
      → k < 64
      → Fits ws n d u k
      → Fits ws n e v k
      → Fits ws n (E.Concat d e) w (suc k)
  concat_fits u v w k d e p small deep f g =
      let c = E.Concat d e in
      as_wide c (u + v) w (suc k) (sym p) (two c d e may_join (λ x y. x + y) false u v k deep
      (shape_layer c (Expr-F.Concat d e) (E.rolls-Concat d e))
      (in_layer c (Expr-F.Concat d e) (E.rolls-Concat d e)) f g (λ x y i j. join_widths x y u v w p small i j))

  module _ (u v w : ℕ) (d e : Expr) (f : Fits ws n d u 17) (g : Fits ws n e v 17) where
    pub arithmetic_fits : (op : ArithmeticOp) → u ≡ w → v ≡ w → Fits ws n (E.Arithmetic op d e) w 18
    arithmetic_fits op p q =
        let c = E.Arithmetic op d e in
        as_wide c u w 18 p (two c d e same_width left_width false u v 17 (omega arith)
        (shape_layer c (Expr-F.Arithmetic op d e) (E.rolls-Arithmetic op d e))
        (in_layer c (Expr-F.Arithmetic op d e) (E.rolls-Arithmetic op d e)) f g
        (λ x y i j. equal_widths x y u v (p ∙ sym q) i j))

    pub shift_fits : (op : ShiftOp) → u ≡ w → Fits ws n (E.Shift op d e) w 18
    shift_fits op p =
        let c = E.Shift op d e in
        as_wide c u w 18 p (two c d e (λ x y. true) left_width false u v 17 (omega arith)
        (shape_layer c (Expr-F.Shift op d e) (E.rolls-Shift op d e))
        (in_layer c (Expr-F.Shift op d e) (E.rolls-Shift op d e)) f g (λ x y i j. refl))

    pub compare_fits : (op : CompareOp) → u ≡ v → w ≡ 1 → Fits ws n (E.Compare op d e) w 18
    compare_fits op p q =
        let c = E.Compare op d e in
        as_wide c 1 w 18 (sym q) (two c d e same_width (λ x y. 1) true u v 17 (omega arith)
        (shape_layer c (Expr-F.Compare op d e) (E.rolls-Compare op d e))
        (in_layer c (Expr-F.Compare op d e) (E.rolls-Compare op d e)) f g (λ x y i j. equal_widths x y u v p i j))

    pub signed_compare_fits : (op : SignedCompareOp) → u ≡ v → w ≡ 1 → Fits ws n (E.SignedCompare op d e) w 18
    signed_compare_fits op p q =
        let c = E.SignedCompare op d e in
        as_wide c 1 w 18 (sym q) (two c d e same_width (λ x y. 1) true u v 17 (omega arith)
        (shape_layer c (Expr-F.SignedCompare op d e) (E.rolls-SignedCompare op d e))
        (in_layer c (Expr-F.SignedCompare op d e) (E.rolls-SignedCompare op d e)) f g
        (λ x y i j. equal_widths x y u v p i j))

    pub overflow_fits : (op : OverflowOp) → u ≡ v → w ≡ 1 → Fits ws n (E.Overflow op d e) w 18
    overflow_fits op p q =
        let c = E.Overflow op d e in
        as_wide c 1 w 18 (sym q) (two c d e same_width (λ x y. 1) false u v 17 (omega arith)
        (shape_layer c (Expr-F.Overflow op d e) (E.rolls-Overflow op d e))
        (in_layer c (Expr-F.Overflow op d e) (E.rolls-Overflow op d e)) f g (λ x y i j. equal_widths x y u v p i j))

  -- ---- divisions by a constant

  module _ (w value : ℕ) (d : Expr) (some : 0 < w) (small : w ≤ 16) (f : Fits ws n d w 16) where
    by_its_width : same_width f.shape (constant_shape w value) ≡ true
    by_its_width = equal_widths f.shape (constant_shape w value) w w refl f.width (nearest_is w some small)

    pub division_fits : (op : DivisionOp)
        → by_constant (Some (word_by w value)) ≡ true
        → Fits ws n (E.Division op d (constant w value)) w 17
    division_fits op r =
        let e = constant w value in
        let c = E.Division op d e in
        as_wide c (f.shape).width w 17 f.width
        (two_of c d e may_divide left_width false f.shape (constant_shape w value) 16 (omega arith)
        (shape_layer c (Expr-F.Division op d e) (E.rolls-Division op d e))
        (in_layer c (Expr-F.Division op d e) (E.rolls-Division op d e)) f.is (constant_is w value)
        f.depth (omega arith) f.mentions (constant_below w value)
        (ap (λ b. b && by_constant (Some (word_by w value))) by_its_width ∙ r))

    pub signed_division_fits : (op : SignedDivisionOp)
        → by_signed (Some (word_by w value)) ≡ true
        → Fits ws n (E.SignedDivision op d (constant w value)) w 17
    signed_division_fits op r =
        let e = constant w value in
        let c = E.SignedDivision op d e in
        as_wide c (f.shape).width w 17 f.width
        (two_of c d e may_divide_signed left_width false f.shape (constant_shape w value) 16 (omega arith)
        (shape_layer c (Expr-F.SignedDivision op d e) (E.rolls-SignedDivision op d e))
        (in_layer c (Expr-F.SignedDivision op d e) (E.rolls-SignedDivision op d e)) f.is (constant_is w value)
        f.depth (omega arith) f.mentions (constant_below w value)
        (ap (λ b. b && by_signed (Some (word_by w value))) by_its_width ∙ r))
