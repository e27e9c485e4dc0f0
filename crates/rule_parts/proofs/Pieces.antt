-- What is looked for at a place, and the piece that several rules make.
use Rattle.std.proofs.Common.{◌≡◌, ◌⊎◌, ⊎_elim, inl, inr, ℕ, ◌+◌, ◌<◌, ◌≤◌, nat_le, Option, Some, None, refl, sym, ap, ◌∙◌, subst, arith}
use Rattle.std.proofs.Math.Nat.{eq-or-lt_of_le}
use Rattle.std.proofs.lemmas.Bool.{leb-true}
use Rattle.bits_core.specs.declared.word.Width.{Width}
use Rattle.cmeaning.specs.declared.tree.ExtendOp.{ExtendOp}
use Rattle.cmeaning.specs.declared.tree.Expr.{Expr}
use Rattle.cmeaning.specs.declared.tree.Expr.TheVariants as E
use Rattle.cmeaning.specs.Shape.{is_part}
use Rattle.rules.specs.Size.{two_size, size_of}
use Rattle.rules.specs.Letters.{IsWide}
use Rattle.rules.proofs.Nodes.{size_of_part, size_of_concat}
use Rattle.rules.proofs.Words.{some_is, chosen}
use Rattle.rules.proofs.Has.{single_width, is_within, joined}
use Rattle.rule_views.specs.declared.nodes.Single.{Single}
use Rattle.rule_views.specs.declared.nodes.Single.TheVariants as S
use Rattle.rule_views.specs.declared.view.Arg.TheVariants as A
use Rattle.rule_views.specs.declared.view.Made.{Made}
use Rattle.rule_views.specs.declared.view.Made.TheVariants as M
use Rattle.rule_views.specs.Makes.{Makes}
use Rattle.rule_views.specs.Sees.{Sight, IsSized, IsWideAt, IsSingle, NoSingle}
use Rattle.rule_views.specs.Variables.{Variables}
use Rattle.rule_views.proofs.Seen.{single_only}
use Rattle.rule_views.proofs.Fire.{wide_only}
use Rattle.rule_parts.specs.Pieces.{NoPart, NoExtend, IsWhole, IsLess, IsPiece}

-- ---- widths

-- a part lies in what it is taken of, and is less
pub part_within : (ws : ℕ → ℕ) (k : ℕ) (w : Width) (x : Expr) (t : ℕ) → IsSized ws (E.Part k w x) → IsWide ws x t
    → (k + w.bytes ≤ t) × (w.bytes < t)
part_within ws k w x t sized is =
    let s = single_width (is_part k w.bytes) (λ v. w.bytes) (size_of ws x) sized.0
    (sym (size_of_part ws k w x) ∙ sized.1) in
    let same : s.0 ≡ t = some_is s.0 t (sym s.1.0 ∙ is) in
    subst (λ v. (k + w.bytes ≤ v) × (w.bytes < v)) same (is_within k w.bytes s.0 s.1.1)

-- and has the width that it is given
pub part_wide : (ws : ℕ → ℕ) (k : ℕ) (w : Width) (x : Expr) → IsSized ws (E.Part k w x) → IsWide ws (E.Part k w x) w.bytes
part_wide ws k w x sized =
    let s = single_width (is_part k w.bytes) (λ v. w.bytes) (size_of ws x) sized.0
    (sym (size_of_part ws k w x) ∙ sized.1) in
    sized.1 ∙ ap Some (sym s.1.2)

-- the widths of two words put together
pub record Widths (ws : ℕ → ℕ) (x y : Expr) (w : ℕ) : Type 0 where
  pub high : ℕ
  pub low : ℕ
  pub left : IsWide ws x high
  pub right : IsWide ws y low
  pub sum : high + low ≡ w

pub concat_widths : (ws : ℕ → ℕ) (x y : Expr) (w : ℕ) → IsWide ws (E.Concat x y) w → Widths ws x y w
concat_widths ws x y w is =
    let s = joined (size_of ws x) (size_of ws y) w (sym (size_of_concat ws x y) ∙ is) in
    record { high = s.0; low = s.1.0; left = s.1.1.0; right = s.1.1.1; sum = s.1.1.2 }

most_joined : (o p : Option ℕ) (w : ℕ) → two_size (λ v u. nat_le (v + u) 16) (λ v u. v + u) o p ≡ Some w → w ≤ 16
most_joined None p w is = cc
most_joined (Some t) None w is = cc
most_joined (Some t) (Some s) w is =
    let c = chosen (nat_le (t + s) 16) (t + s) w is in subst (λ z. z ≤ 16) c.1 (leb-true (t + s) 16 c.0)

pub concat_most : (ws : ℕ → ℕ) (x y : Expr) (w : ℕ) → IsWide ws (E.Concat x y) w → w ≤ 16
concat_most ws x y w is = most_joined (size_of ws x) (size_of ws y) w (sym (size_of_concat ws x y) ∙ is)

-- what lies within and isn't the whole is less
pub less : (k w t : ℕ) → k + w ≤ t → (k ≡ 0 → t ≡ w → ⊥) → w < t
less k w t within n =
    let most : w ≤ t = omega arith in
    ⊎_elim (λ (same : w ≡ t). let none : k ≡ 0 = omega arith in absurd (n none (sym same))) (λ (l : w < t). l)
    (eq-or-lt_of_le most)

module _ {T : Type 0} (sees : Sight T) where
  -- ---- looks

  pub no_single_part : (at : T) → NoSingle sees at → NoPart sees at
  no_single_part at n vs k w x s = n vs (S.Part k w) x s

  pub no_part : (at a : T) (t : Single) → IsSingle sees at t a → ((k : ℕ) (w : Width) → t ≡ S.Part k w → ⊥)
      → NoPart sees at
  no_part at a t i h vs k w x s = h k w (sym (single_only sees at a t i vs (S.Part k w) x s).0)

  pub no_single_extend : (at : T) → NoSingle sees at → NoExtend sees at
  no_single_extend at n vs op w x s = n vs (S.Extend op w) x s

  pub no_extend : (at a : T) (t : Single) → IsSingle sees at t a
      → ((op : ExtendOp) (w : Width) → t ≡ S.Extend op w → ⊥) → NoExtend sees at
  no_extend at a t i h vs op w x s = h op w (sym (single_only sees at a t i vs (S.Extend op w) x s).0)

  -- ---- a piece

  module _ (x : T) (k : ℕ) (w : Width) where
    pub is_whole : (u : ℕ) → k ≡ 0 → IsWideAt sees x u → u ≡ w.bytes → IsPiece sees x k w (M.Is (A.Place x))
    is_whole u zero wide is = inl (refl, zero, subst (IsWideAt sees x) is wide)

    pub past_start : (k ≡ 0 → ⊥) → IsPiece sees x k w (M.Single (S.Part k w) (A.Place x))
    past_start n = inr (refl, λ vs e s zero wide. n zero)

    pub other_width : (u : ℕ) → IsWideAt sees x u → (u ≡ w.bytes → ⊥)
        → IsPiece sees x k w (M.Single (S.Part k w) (A.Place x))
    other_width u wide n = inr (refl, λ vs e s zero is. n (sym (wide_only sees x u wide vs e w.bytes s is)))

    -- what is made is the part of what is seen, or the whole of it
    pub record Made_of (made : Made T) (vs : Variables) (e : Expr) : Type 0 where
      pub r : Expr
      pub makes : Makes (sees vs) made r
      pub which : ((r ≡ e) × (k ≡ 0) × IsWide vs.widths e w.bytes)
          ⊎ ((r ≡ E.Part k w e) × (k ≡ 0 → IsWide vs.widths e w.bytes → ⊥))

    pub made_of : (made : Made T) → IsPiece sees x k w made → (vs : Variables) (e : Expr) → sees vs x e → Made_of made vs e
    made_of made piece vs e s =
        ⊎_elim (λ (p : IsWhole sees x k w made). record {
          r = e;
          makes = subst (λ m. Makes (sees vs) m e) (sym p.0) s;
          which = inl (refl, p.1, p.2 vs e s);
        })
        (λ (p : IsLess sees x k w made). record {
          r = E.Part k w e;
          makes = subst (λ m. Makes (sees vs) m (E.Part k w e)) (sym p.0) (e, (refl, s));
          which = inr (refl, p.1 vs e s);
        })
        piece
