-- Lists in order, and what is left of them.
use Rattle.std.proofs.Common.{◌≡◌, ◌∙◌, Bool, true, false, List, [], ◌∷◌, refl, sym, ap, subst, inl, inr, arith}
use Rattle.std.specs.Prelude.{cond, ℤ, int_lt}
use Rattle.pcode_model.specs.declared.frame.FrameAccess.{FrameAccess}
use Rattle.pcode_model.specs.Flow.{IsBefore, IsIn}
use Rattle.flow.proofs.Order.{before_trans}
use Rattle.frame_facts.specs.Listed.{InOrderBy, IsAccessBefore}
use Rattle.frame_classes.specs.FrameVariables.{before}

module _ {A : Type 0} (stands : A → A → Type 0) where
  -- one before all of them
  pub in_order_from : (a : A) (xs : List A)
      → ((b : A) → IsIn b xs → stands a b)
      → InOrderBy stands xs
      → InOrderBy stands (a ∷ xs)
  in_order_from a [] each order = tt
  in_order_from a (b ∷ xs) each order = (each b (inl refl), order)

  in_order_past : (a : A) (xs : List A) → InOrderBy stands (a ∷ xs) → InOrderBy stands xs
  in_order_past a [] order = tt
  in_order_past a (b ∷ xs) order = order.1

  module _ (on : (a b c : A) → stands a b → stands b c → stands a c) where
    -- The first one stands before each other.
    pub before_all : (a : A) (xs : List A) → InOrderBy stands (a ∷ xs) → (b : A) → IsIn b xs → stands a b
    before_all a [] order b is = absurd is
    before_all a (c ∷ xs) order b (inl e) = subst (stands a) (sym e) order.0
    before_all a (c ∷ xs) order b (inr is) = on a c b order.0 (before_all c xs order.1 b is)

-- ---- accesses by their places

-- the order of accesses is transitive
pub access_on : (a b c : FrameAccess) → IsAccessBefore a b → IsAccessBefore b c → IsAccessBefore a c
access_on a b c (inl x) (inl y) = inl (before_trans a.place b.place c.place x y)
access_on a b c (inl x) (inr y) = inl (subst (IsBefore a.place) y.0 x)
access_on a b c (inr x) (inl y) = inl (subst (λ p. IsBefore p c.place) (sym x.0) y)
access_on a b c (inr x) (inr y) = inr (x.0 ∙ y.0, omega (arith, x.1, y.1))

-- ---- the accesses that begin before an offset

module _ (n : ℤ) where
  pub in_before : (xs : List FrameAccess) (a : FrameAccess)
      → IsIn a (before n xs)
      → IsIn a xs × (int_lt a.offset n ≡ true)
  in_before [] a is = absurd is
  in_before (x ∷ xs) a is = by (int_lt x.offset n) refl is (in_before xs a) where
    later : IsIn a xs × (int_lt a.offset n ≡ true) → IsIn a (x ∷ xs) × (int_lt a.offset n ≡ true)
    later h = (inr h.0, h.1)

    by : (b : Bool)
        → int_lt x.offset n ≡ b
        → IsIn a (cond b (x ∷ before n xs) (before n xs))
        → (IsIn a (before n xs) → IsIn a xs × (int_lt a.offset n ≡ true))
        → IsIn a (x ∷ xs) × (int_lt a.offset n ≡ true)
    by true e (inl f) rest = (inl f, ap (λ (y : FrameAccess). int_lt y.offset n) f ∙ e)
    by true e (inr is) rest = later (rest is)
    by false e is rest = later (rest is)

  pub before_in : (xs : List FrameAccess) (a : FrameAccess)
      → IsIn a xs
      → int_lt a.offset n ≡ true
      → IsIn a (before n xs)
  before_in [] a is less = absurd is
  before_in (x ∷ xs) a is less = by (int_lt x.offset n) refl is (λ h. before_in xs a h less) where
    by : (b : Bool)
        → int_lt x.offset n ≡ b
        → IsIn a (x ∷ xs)
        → (IsIn a xs → IsIn a (before n xs))
        → IsIn a (cond b (x ∷ before n xs) (before n xs))
    by true e (inl f) rest = inl f
    by true e (inr is) rest = inr (rest is)
    by false e (inl f) rest =
        absurd (let g : true ≡ false = sym (ap (λ (y : FrameAccess). int_lt y.offset n) (sym f) ∙ less) ∙ e in cc)
    by false e (inr is) rest = rest is

  -- They keep their order.
  pub before_ordered : (xs : List FrameAccess)
      → InOrderBy IsAccessBefore xs
      → InOrderBy IsAccessBefore (before n xs)
  before_ordered [] order = tt
  before_ordered (x ∷ xs) order =
      by (int_lt x.offset n) (before_ordered xs (in_order_past IsAccessBefore x xs order))
    where
      by : (b : Bool)
          → InOrderBy IsAccessBefore (before n xs)
          → InOrderBy IsAccessBefore (cond b (x ∷ before n xs) (before n xs))
      by true rest =
          in_order_from IsAccessBefore x (before n xs)
          (λ b is. before_all IsAccessBefore access_on x xs order b (in_before xs b is).0)
          rest
      by false rest = rest
