-- The widths of operands.
use Rattle.std.proofs.Common.{◌≡◌, ℕ, zero, suc, List, [], ◌∷◌, ◌+◌, ◌<◌, ◌≤◌, ◌==◌, nat_lt, nat_le, min, Bool, true, if◌then◌else◌, Option, Some, None, refl, sym, ◌∙◌, subst, arith}
use Rattle.std.proofs.lemmas.Bool.{leb-true}
use Rattle.bits_core.specs.declared.word.Width.{Width}
use Rattle.cmeaning.specs.declared.tree.Expr.{Expr, fold-roll-Expr, ind-Expr, roll-Expr, map-Expr}
use Rattle.cmeaning.specs.declared.tree.Expr.TheOpen.{Expr-F}
use Rattle.cmeaning.specs.Shape.{is_part}
use Rattle.rules.specs.Size.{one_size, two_size, size_step, size_of}
use Rattle.rules.proofs.Nodes as N
use Rattle.rules.proofs.Words.{some_is, chosen, good}
use Rattle.rules.proofs.Total.{everywhere, everywhere_reads, zeros, zero_words}
use Rattle.rule_views.specs.declared.nodes.Single.{Single}
use Rattle.rule_views.specs.declared.nodes.Single.TheVariants as S
use Rattle.rule_views.specs.declared.nodes.Pair.{Pair}
use Rattle.rule_views.specs.declared.nodes.Pair.TheVariants as P
use Rattle.rule_views.specs.Nodes.{single_node, pair_node}
use Rattle.rule_views.specs.Sees.{IsSized}
use Rattle.rule_views.specs.InTree.{widths_by, bytes_step, bytes_of}

abbrev Is : Option ℕ → Type 0
Is o = (w : ℕ) × (o ≡ Some w)

-- one operand has a width, and two have
one_operand : (right : ℕ → Bool) (to : ℕ → ℕ) (o : Option ℕ) → Is (one_size right to o) → Is o
one_operand right to None h = let e : None ≡ Some h.0 = h.1 in absurd cc
one_operand right to (Some t) h = (t, refl)

two_operands : (right : ℕ → ℕ → Bool) (to : ℕ → ℕ → ℕ) (o p : Option ℕ) → Is (two_size right to o p) → Is o × Is p
two_operands right to None p h = let e : None ≡ Some h.0 = h.1 in absurd cc
two_operands right to (Some t) None h = let e : None ≡ Some h.0 = h.1 in absurd cc
two_operands right to (Some t) (Some s) h = ((t, refl), (s, refl))

module _ (ws : ℕ → ℕ) where
  pub single_sized : (s : Single) (x : Expr) → IsSized ws (single_node s x) → IsSized ws x
  single_sized (S.Unary op) x h = one_operand (λ v. true) (λ v. v) (size_of ws x) (h.0, sym (N.size_of_unary ws op x) ∙ h.1)
  single_sized (S.Extend op w) x h = one_operand _ _ (size_of ws x) (h.0, sym (N.size_of_extend ws op w x) ∙ h.1)
  single_sized (S.Part k w) x h = one_operand _ _ (size_of ws x) (h.0, sym (N.size_of_part ws k w x) ∙ h.1)
  single_sized (S.Count op) x h = one_operand (λ v. true) (λ v. 1) (size_of ws x) (h.0, sym (N.size_of_count ws op x) ∙ h.1)

  pub pair_sized : (p : Pair) (x y : Expr) → IsSized ws (pair_node p x y) → IsSized ws x × IsSized ws y
  pair_sized (P.Arithmetic op) x y h =
      two_operands _ _ (size_of ws x) (size_of ws y) (h.0, sym (N.size_of_arithmetic ws op x y) ∙ h.1)
  pair_sized (P.Division op) x y h =
      two_operands _ _ (size_of ws x) (size_of ws y) (h.0, sym (N.size_of_division ws op x y) ∙ h.1)
  pair_sized (P.SignedDivision op) x y h =
      two_operands _ _ (size_of ws x) (size_of ws y) (h.0, sym (N.size_of_signed_division ws op x y) ∙ h.1)
  pair_sized (P.Shift op) x y h =
      two_operands (λ v w. true) (λ v w. v) (size_of ws x) (size_of ws y) (h.0, sym (N.size_of_shift ws op x y) ∙ h.1)
  pair_sized (P.Compare op) x y h =
      two_operands _ _ (size_of ws x) (size_of ws y) (h.0, sym (N.size_of_compare ws op x y) ∙ h.1)
  pair_sized (P.SignedCompare op) x y h =
      two_operands _ _ (size_of ws x) (size_of ws y) (h.0, sym (N.size_of_signed_compare ws op x y) ∙ h.1)
  pair_sized P.Concat x y h =
      two_operands _ _ (size_of ws x) (size_of ws y) (h.0, sym (N.size_of_concat ws x y) ∙ h.1)
  pair_sized (P.Overflow op) x y h =
      two_operands _ _ (size_of ws x) (size_of ws y) (h.0, sym (N.size_of_overflow ws op x y) ∙ h.1)

-- ---- the width that is computed

abbrev Fits : Option ℕ → ℕ → Type 0
Fits o d = (w : ℕ) → o ≡ Some w → d ≡ w

-- as wide as its operand
as_wide : (o : Option ℕ) (d : ℕ) → Fits o d → Fits (one_size (λ v. true) (λ v. v) o) d
as_wide None d f w is = cc
as_wide (Some t) d f w is = f w is

-- as wide as its left operand
as_left : (right : ℕ → ℕ → Bool) (o p : Option ℕ) (d : ℕ) → Fits o d → Fits (two_size right (λ v u. v) o p) d
as_left right None p d f w is = cc
as_left right (Some t) None d f w is = cc
as_left right (Some t) (Some s) d f w is = f t refl ∙ (chosen (right t s) t w is).1

-- as wide as its kind says
one_fixed : (right : ℕ → Bool) (o : Option ℕ) (k : ℕ) → Fits (one_size right (λ v. k) o) k
one_fixed right None k w is = cc
one_fixed right (Some t) k w is = (chosen (right t) k w is).1

two_fixed : (right : ℕ → ℕ → Bool) (o p : Option ℕ) (k : ℕ) → Fits (two_size right (λ v u. k) o p) k
two_fixed right None p k w is = cc
two_fixed right (Some t) None k w is = cc
two_fixed right (Some t) (Some s) k w is = (chosen (right t s) k w is).1

-- as wide as both together
as_both : (o p : Option ℕ) (d e : ℕ) → Fits o d → Fits p e
    → Fits (two_size (λ v u. nat_le (v + u) 16) (λ v u. v + u) o p) (min (d + e) 255)
as_both None p d e f g w is = cc
as_both (Some t) None d e f g w is = cc
as_both (Some t) (Some s) d e f g w is =
    let c = chosen (nat_le (t + s) 16) (t + s) w is in
    let most : t + s ≤ 16 = leb-true (t + s) 16 c.0 in
    let sum : t + s ≡ w = c.1 in
    let left : d ≡ t = f t refl in
    let right : e ≡ s = g s refl in
    omega arith

var_fits : (ws : ℕ → ℕ) (v : ℕ) → Fits (if nat_lt 0 (ws v) then Some (ws v) else None) (ws v)
var_fits ws v w is = (chosen (nat_lt 0 (ws v)) (ws v) w is).1

bytes_roll : (ws : ℕ → ℕ) (l : Expr-F Expr)
    → bytes_of ws (roll-Expr l) ≡ bytes_step ws (map-Expr Expr ℕ (bytes_of ws) l)
unfolding bytes_of
bytes_roll ws l = fold-roll-Expr ℕ (bytes_step ws) l

module _ (ws : ℕ → ℕ) where
  rolled : (l : Expr-F Expr)
      → Fits (size_step ws (map-Expr Expr (Option ℕ) (size_of ws) l)) (bytes_step ws (map-Expr Expr ℕ (bytes_of ws) l))
      → Fits (size_of ws (roll-Expr l)) (bytes_of ws (roll-Expr l))
  rolled l f w is = bytes_roll ws l ∙ f w (sym (N.size_roll ws l) ∙ is)

  module _ {A : Type 0} (f : A → Expr) (h : (a : A) → Fits (size_of ws (f a)) (bytes_of ws (f a))) where
    abbrev s : A → Option ℕ
    s a = size_of ws (f a)

    abbrev b : A → ℕ
    b a = bytes_of ws (f a)

    layer_fits : (l : Expr-F A)
        → Fits (size_of ws (roll-Expr (map-Expr A Expr f l))) (bytes_of ws (roll-Expr (map-Expr A Expr f l)))
    layer_fits (Expr-F.Const c) = rolled (Expr-F.Const c) (λ w is. some_is _ _ is)
    layer_fits (Expr-F.Var v) = rolled (Expr-F.Var v) (var_fits ws v)
    layer_fits (Expr-F.Unary op x) = rolled (Expr-F.Unary op (f x)) (as_wide (s x) (b x) (h x))
    layer_fits (Expr-F.Arithmetic op x y) = rolled (Expr-F.Arithmetic op (f x) (f y))
        (as_left (λ v w. v == w) (s x) (s y) (b x) (h x))
    layer_fits (Expr-F.Division op x y) = rolled (Expr-F.Division op (f x) (f y))
        (as_left (λ v w. v == w) (s x) (s y) (b x) (h x))
    layer_fits (Expr-F.SignedDivision op x y) = rolled (Expr-F.SignedDivision op (f x) (f y))
        (as_left (λ v w. v == w) (s x) (s y) (b x) (h x))
    layer_fits (Expr-F.Shift op x y) = rolled (Expr-F.Shift op (f x) (f y))
        (as_left (λ v w. true) (s x) (s y) (b x) (h x))
    layer_fits (Expr-F.Compare op x y) = rolled (Expr-F.Compare op (f x) (f y)) (two_fixed (λ v w. v == w) (s x) (s y) 1)
    layer_fits (Expr-F.SignedCompare op x y) = rolled (Expr-F.SignedCompare op (f x) (f y))
        (two_fixed (λ v w. v == w) (s x) (s y) 1)
    layer_fits (Expr-F.Extend op w x) = rolled (Expr-F.Extend op w (f x)) (one_fixed (λ v. nat_lt v w.bytes) (s x) w.bytes)
    layer_fits (Expr-F.Part k w x) = rolled (Expr-F.Part k w (f x)) (one_fixed (is_part k w.bytes) (s x) w.bytes)
    layer_fits (Expr-F.Concat x y) = rolled (Expr-F.Concat (f x) (f y)) (as_both (s x) (s y) (b x) (b y) (h x) (h y))
    layer_fits (Expr-F.Overflow op x y) = rolled (Expr-F.Overflow op (f x) (f y))
        (two_fixed (λ v w. v == w) (s x) (s y) 1)
    layer_fits (Expr-F.Count op x) = rolled (Expr-F.Count op (f x)) (one_fixed (λ v. true) (s x) 1)

  -- where the operands agree, the width that is computed is the size
  pub bytes_size : (e : Expr) (w : ℕ) → size_of ws e ≡ Some w → bytes_of ws e ≡ w
  bytes_size = ind-Expr (λ e. Fits (size_of ws e) (bytes_of ws e))
      (λ l y is.
      let P : Expr-F Expr → Type 0 = λ z. Fits (size_of ws (roll-Expr z)) (bytes_of ws (roll-Expr z)) in
      subst P is (layer_fits (λ p. p.0) (λ p. p.1) y))

-- ---- a size is at least 1 and at most 16 where the variables' widths are at most 16

abbrev Most : Option ℕ → Type 0
Most o = (w : ℕ) → o ≡ Some w → w ≤ 16

one_most : (right : ℕ → Bool) (to : ℕ → ℕ) (o : Option ℕ) → Most o → ((t : ℕ) → t ≤ 16 → to t ≤ 16)
    → Most (one_size right to o)
one_most right to None h g w is = cc
one_most right to (Some t) h g w is = subst (λ z. z ≤ 16) (chosen (right t) (to t) w is).1 (g t (h t refl))

two_most : (right : ℕ → ℕ → Bool) (to : ℕ → ℕ → ℕ) (o p : Option ℕ) → Most o → Most p
    → ((t s : ℕ) → right t s ≡ true → t ≤ 16 → to t s ≤ 16)
    → Most (two_size right to o p)
two_most right to None p h k g w is = cc
two_most right to (Some t) None h k g w is = cc
two_most right to (Some t) (Some s) h k g w is =
    let c = chosen (right t s) (to t s) w is in
    subst (λ z. z ≤ 16) c.1 (g t s c.0 (h t refl))

one_byte : 1 ≤ 16
one_byte = omega arith

module _ (ws : ℕ → ℕ) (bound : (v : ℕ) → ws v ≤ 16) where
  rolled_most : (l : Expr-F Expr) → Most (size_step ws (map-Expr Expr (Option ℕ) (size_of ws) l))
      → Most (size_of ws (roll-Expr l))
  rolled_most l f w is = f w (sym (N.size_roll ws l) ∙ is)

  var_most : (v : ℕ) → Most (if nat_lt 0 (ws v) then Some (ws v) else None)
  var_most v w is = subst (λ z. z ≤ 16) (chosen (nat_lt 0 (ws v)) (ws v) w is).1 (bound v)

  module _ {A : Type 0} (f : A → Expr) (h : (a : A) → Most (size_of ws (f a))) where
    layer_most : (l : Expr-F A) → Most (size_of ws (roll-Expr (map-Expr A Expr f l)))
    layer_most (Expr-F.Const c) = rolled_most (Expr-F.Const c) (λ w is. subst (λ z. z ≤ 16) (some_is _ _ is) c.width.to)
    layer_most (Expr-F.Var v) = rolled_most (Expr-F.Var v) (var_most v)
    layer_most (Expr-F.Unary op x) = rolled_most (Expr-F.Unary op (f x))
        (one_most (λ v. true) (λ v. v) (size_of ws (f x)) (h x) (λ t le. le))
    layer_most (Expr-F.Arithmetic op x y) = rolled_most (Expr-F.Arithmetic op (f x) (f y))
        (two_most (λ v w. v == w) (λ v w. v) (size_of ws (f x)) (size_of ws (f y)) (h x) (h y) (λ t s r le. le))
    layer_most (Expr-F.Division op x y) = rolled_most (Expr-F.Division op (f x) (f y))
        (two_most (λ v w. v == w) (λ v w. v) (size_of ws (f x)) (size_of ws (f y)) (h x) (h y) (λ t s r le. le))
    layer_most (Expr-F.SignedDivision op x y) = rolled_most (Expr-F.SignedDivision op (f x) (f y))
        (two_most (λ v w. v == w) (λ v w. v) (size_of ws (f x)) (size_of ws (f y)) (h x) (h y) (λ t s r le. le))
    layer_most (Expr-F.Shift op x y) = rolled_most (Expr-F.Shift op (f x) (f y))
        (two_most (λ v w. true) (λ v w. v) (size_of ws (f x)) (size_of ws (f y)) (h x) (h y) (λ t s r le. le))
    layer_most (Expr-F.Compare op x y) = rolled_most (Expr-F.Compare op (f x) (f y))
        (two_most (λ v w. v == w) (λ v w. 1) (size_of ws (f x)) (size_of ws (f y)) (h x) (h y) (λ t s r le. one_byte))
    layer_most (Expr-F.SignedCompare op x y) = rolled_most (Expr-F.SignedCompare op (f x) (f y))
        (two_most (λ v w. v == w) (λ v w. 1) (size_of ws (f x)) (size_of ws (f y)) (h x) (h y) (λ t s r le. one_byte))
    layer_most (Expr-F.Extend op w x) = rolled_most (Expr-F.Extend op w (f x))
        (one_most (λ v. nat_lt v w.bytes) (λ v. w.bytes) (size_of ws (f x)) (h x) (λ t le. w.to))
    layer_most (Expr-F.Part k w x) = rolled_most (Expr-F.Part k w (f x))
        (one_most (is_part k w.bytes) (λ v. w.bytes) (size_of ws (f x)) (h x) (λ t le. w.to))
    layer_most (Expr-F.Concat x y) = rolled_most (Expr-F.Concat (f x) (f y))
        (two_most (λ v w. nat_le (v + w) 16) (λ v w. v + w) (size_of ws (f x)) (size_of ws (f y)) (h x) (h y)
        (λ t s r le. leb-true (t + s) 16 r))
    layer_most (Expr-F.Overflow op x y) = rolled_most (Expr-F.Overflow op (f x) (f y))
        (two_most (λ v w. v == w) (λ v w. 1) (size_of ws (f x)) (size_of ws (f y)) (h x) (h y) (λ t s r le. one_byte))
    layer_most (Expr-F.Count op x) = rolled_most (Expr-F.Count op (f x))
        (one_most (λ v. true) (λ v. 1) (size_of ws (f x)) (h x) (λ t le. one_byte))

  pub size_most : (e : Expr) (w : ℕ) → size_of ws e ≡ Some w → w ≤ 16
  size_most = ind-Expr (λ e. Most (size_of ws e))
      (λ l y is.
      let P : Expr-F Expr → Type 0 = λ z. Most (size_of ws (roll-Expr z)) in
      subst P is (layer_most (λ p. p.0) (λ p. p.1) y))

pub size_some : (ws : ℕ → ℕ) (e : Expr) (w : ℕ) → size_of ws e ≡ Some w → 0 < w
size_some ws e w s = (good everywhere everywhere_reads ws zeros (zero_words ws) e w s).some

pub widths_most : (widths : List Width) (v : ℕ) → widths_by widths v ≤ 16
widths_most [] v = omega arith
widths_most (w ∷ ws) zero = w.to
widths_most (w ∷ ws) (suc v) = widths_most ws v
