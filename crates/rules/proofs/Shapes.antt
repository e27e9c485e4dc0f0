-- An expression of a valid tree has the width and the depth that its shape says.
use Rattle.std.proofs.Common.{◌≡◌, ℕ, ◌+◌, ◌==◌, ◌&&◌, nat_lt, nat_le, max, Bool, true, false, if◌then◌else◌, Option, Some, None, refl, sym, ap, ◌∙◌, subst}
use Rattle.std.proofs.lemmas.Bool.{and_parts}
use Rattle.cmeaning.specs.declared.shape.Shape.{Shape}
use Rattle.cmeaning.specs.declared.tree.Expr.{Expr, ind-Expr, roll-Expr, map-Expr}
use Rattle.cmeaning.specs.declared.tree.Expr.TheOpen.{Expr-F}
use Rattle.cmeaning.proofs.Layers.{shape_roll}
use Rattle.cmeaning.specs.Shape.{above, one_shape, two_shape, shape_step, shape_of, same_width, may_divide, may_divide_signed, may_join, is_part}
use Rattle.rules.specs.Size.{one_size, two_size, size_step, size_of, depth_step, depth_of}
use Rattle.rules.proofs.Nodes.{size_roll, depth_roll}

-- what is known of a level above operands
pub record Level (right : Bool) (w d : ℕ) (comparison : Bool) (s : Shape) : Type 0 where
  pub holds : right ≡ true
  pub low : nat_lt d 64 ≡ true
  pub width : w ≡ s.width
  pub depth : d + 1 ≡ s.depth
  pub flag : comparison ≡ s.comparison

made : (b : Bool) (r s : Shape) → (if b then Some r else None) ≡ Some s → (b ≡ true) × (r ≡ s)
made true r s is = (refl, cc)
made false r s is = cc

pub level : (right : Bool) (w d : ℕ) (comparison : Bool) (s : Shape) → above right w d comparison ≡ Some s
    → Level right w d comparison s
level right w d comparison s is =
    let r : Shape = record { width = w; depth = d + 1; constant = None; comparison = comparison } in
    let m = made (right && nat_lt d 64) r s is in
    let b = and_parts right (nat_lt d 64) m.0 in
    record {
      holds = b.0;
      low = b.1;
      width = ap (λ (x : Shape). x.width) m.1;
      depth = ap (λ (x : Shape). x.depth) m.1;
      flag = ap (λ (x : Shape). x.comparison) m.1;
    }

-- a width and a depth as a shape says
abbrev Fits : Option Shape → Option ℕ → ℕ → Type 0
Fits o w d = (s : Shape) → o ≡ Some s → (w ≡ Some s.width) × (d ≡ s.depth)

one_fits : (right : ℕ → Bool) (to : ℕ → ℕ) (o : Option Shape) (w : Option ℕ) (d : ℕ) → Fits o w d
    → Fits (one_shape right to o) (one_size right to w) (d + 1)
one_fits right to None w d h s is = cc
one_fits right to (Some a) w d h s is =
    let p = h a refl in
    let l = level (right a.width) (to a.width) a.depth false s is in
    (rw (p.0, l.holds) (ap Some l.width), ap (λ n. n + 1) p.1 ∙ l.depth)

two_fits : (right : Shape → Shape → Bool) (plain : ℕ → ℕ → Bool) (to : ℕ → ℕ → ℕ) (comparison : Bool)
    (o p : Option Shape) (w v : Option ℕ) (d e : ℕ)
    → ((a b : Shape) → right a b ≡ true → plain a.width b.width ≡ true)
    → Fits o w d → Fits p v e
    → Fits (two_shape right to comparison o p) (two_size plain to w v) (max d e + 1)
two_fits right plain to comparison None p w v d e f g h s is = cc
two_fits right plain to comparison (Some a) None w v d e f g h s is = cc
two_fits right plain to comparison (Some a) (Some b) w v d e f g h s is =
    let p = g a refl in
    let q = h b refl in
    let l = level (right a b) (to a.width b.width) (max a.depth b.depth) comparison s is in (
      rw (p.0, q.0, f a b l.holds) (ap Some l.width),
      ap (λ n. max n e + 1) p.1 ∙ ap (λ n. max a.depth n + 1) q.1 ∙ l.depth,
    )

var_fits : (some number : Bool) (w : ℕ) (s : Shape)
    → (if number && some then Some (record { width = w; depth = 1; constant = None; comparison = false }) else None)
    ≡ Some s
    → ((if some then Some w else None) ≡ Some s.width) × (1 ≡ s.depth)
var_fits some number w s is =
    let r : Shape = record { width = w; depth = 1; constant = None; comparison = false } in
    let m = made (number && some) r s is in
    let b = and_parts number some m.0 in
    (rw (b.1) (ap (λ (x : Shape). Some x.width) m.1), ap (λ (x : Shape). x.depth) m.1)

pub some_shape : (r s : Shape) → Some r ≡ Some s → r ≡ s
some_shape r s is = cc

module _ (ws : ℕ → ℕ) where
  rolled : (l : Expr-F Expr)
      → Fits (shape_step ws (map-Expr Expr (Option Shape) (shape_of ws) l))
      (size_step ws (map-Expr Expr (Option ℕ) (size_of ws) l)) (depth_step (map-Expr Expr ℕ depth_of l))
      → Fits (shape_of ws (roll-Expr l)) (size_of ws (roll-Expr l)) (depth_of (roll-Expr l))
  rolled l f s is =
      let p = f s (sym (shape_roll ws l) ∙ is) in
      (size_roll ws l ∙ p.0, depth_roll l ∙ p.1)

  module _ {A : Type 0} (f : A → Expr) (h : (a : A) → Fits (shape_of ws (f a)) (size_of ws (f a)) (depth_of (f a)))
    where
      of_one : (right : ℕ → Bool) (to : ℕ → ℕ) (a : A)
          → Fits (one_shape right to (shape_of ws (f a))) (one_size right to (size_of ws (f a))) (depth_of (f a) + 1)
      of_one right to a = one_fits right to (shape_of ws (f a)) (size_of ws (f a)) (depth_of (f a)) (h a)

      of_two : (right : Shape → Shape → Bool) (plain : ℕ → ℕ → Bool) (to : ℕ → ℕ → ℕ) (comparison : Bool) (a b : A)
          → ((x y : Shape) → right x y ≡ true → plain x.width y.width ≡ true)
          → Fits (two_shape right to comparison (shape_of ws (f a)) (shape_of ws (f b)))
          (two_size plain to (size_of ws (f a)) (size_of ws (f b))) (max (depth_of (f a)) (depth_of (f b)) + 1)
      of_two right plain to comparison a b g = two_fits right plain to comparison (shape_of ws (f a)) (shape_of ws (f b))
          (size_of ws (f a)) (size_of ws (f b)) (depth_of (f a)) (depth_of (f b)) g (h a) (h b)

      layer_fits : (l : Expr-F A)
          → Fits (shape_of ws (roll-Expr (map-Expr A Expr f l))) (size_of ws (roll-Expr (map-Expr A Expr f l)))
          (depth_of (roll-Expr (map-Expr A Expr f l)))
      layer_fits (Expr-F.Const c) = rolled (Expr-F.Const c)
          (λ s is.
          (ap (λ (x : Shape). Some x.width) (some_shape _ s is), ap (λ (x : Shape). x.depth) (some_shape _ s is)))
      layer_fits (Expr-F.Var v) = rolled (Expr-F.Var v) (var_fits (nat_lt 0 (ws v)) _ (ws v))
      layer_fits (Expr-F.Unary op a) = rolled (Expr-F.Unary op (f a)) (of_one (λ v. true) (λ v. v) a)
      layer_fits (Expr-F.Arithmetic op a b) = rolled (Expr-F.Arithmetic op (f a) (f b))
          (of_two same_width (λ v w. v == w) (λ v w. v) false a b (λ x y r. r))
      layer_fits (Expr-F.Division op a b) = rolled (Expr-F.Division op (f a) (f b))
          (of_two may_divide (λ v w. v == w) (λ v w. v) false a b (λ x y r. (and_parts _ _ r).0))
      layer_fits (Expr-F.SignedDivision op a b) = rolled (Expr-F.SignedDivision op (f a) (f b))
          (of_two may_divide_signed (λ v w. v == w) (λ v w. v) false a b (λ x y r. (and_parts _ _ r).0))
      layer_fits (Expr-F.Shift op a b) = rolled (Expr-F.Shift op (f a) (f b))
          (of_two (λ x y. true) (λ v w. true) (λ v w. v) false a b (λ x y r. refl))
      layer_fits (Expr-F.Compare op a b) = rolled (Expr-F.Compare op (f a) (f b))
          (of_two same_width (λ v w. v == w) (λ v w. 1) true a b (λ x y r. r))
      layer_fits (Expr-F.SignedCompare op a b) = rolled (Expr-F.SignedCompare op (f a) (f b))
          (of_two same_width (λ v w. v == w) (λ v w. 1) true a b (λ x y r. r))
      layer_fits (Expr-F.Extend op w a) = rolled (Expr-F.Extend op w (f a))
          (of_one (λ v. nat_lt v w.bytes) (λ v. w.bytes) a)
      layer_fits (Expr-F.Part k w a) = rolled (Expr-F.Part k w (f a)) (of_one (is_part k w.bytes) (λ v. w.bytes) a)
      layer_fits (Expr-F.Concat a b) = rolled (Expr-F.Concat (f a) (f b))
          (of_two may_join (λ v w. nat_le (v + w) 16) (λ v w. v + w) false a b (λ x y r. r))
      layer_fits (Expr-F.Overflow op a b) = rolled (Expr-F.Overflow op (f a) (f b))
          (of_two same_width (λ v w. v == w) (λ v w. 1) false a b (λ x y r. r))
      layer_fits (Expr-F.Count op a) = rolled (Expr-F.Count op (f a)) (of_one (λ v. true) (λ v. 1) a)

  fits : (e : Expr) → Fits (shape_of ws e) (size_of ws e) (depth_of e)
  fits = ind-Expr (λ e. Fits (shape_of ws e) (size_of ws e) (depth_of e))
      (λ l y is.
      let P : Expr-F Expr → Type 0 =
      λ z. Fits (shape_of ws (roll-Expr z)) (size_of ws (roll-Expr z)) (depth_of (roll-Expr z)) in
      subst P is (layer_fits (λ p. p.0) (λ p. p.1) y))

  pub shape_size : (e : Expr) (s : Shape) → shape_of ws e ≡ Some s → size_of ws e ≡ Some s.width
  shape_size e s is = (fits e s is).0

  pub shape_depth : (e : Expr) (s : Shape) → shape_of ws e ≡ Some s → depth_of e ≡ s.depth
  shape_depth e s is = (fits e s is).1
