-- Words put together.
use Rattle.std.proofs.Common.{◌≡◌, ⊎_elim, ℕ, ◌+◌, ◌<◌, ◌≤◌, refl, sym, ap, ◌∙◌, subst, arith}
use Rattle.bits_core.specs.declared.word.Width.{Width}
use Rattle.bits_core.specs.declared.word.Word.{Word}
use Rattle.cmeaning.specs.declared.tree.ExtendOp.TheVariants as X
use Rattle.cmeaning.specs.declared.tree.Expr.{Expr}
use Rattle.cmeaning.specs.declared.tree.Expr.TheVariants as E
use Rattle.rules.specs.Letters.{IsWide}
use Rattle.rules.specs.Parts.{Parting, Z1_low, Z1_low_whole, Z1_high, Z1_high_whole, Z2_within, Z2_whole, Z2_past, Z2_wider, Z3, Z4, Z4_whole, Z5, Z6_zext, Z6_sext}
use Rattle.rules.proofs.Words.{some_is}
use Rattle.rule_views.specs.declared.nodes.Single.{Single}
use Rattle.rule_views.specs.declared.nodes.Single.TheVariants as S
use Rattle.rule_views.specs.declared.nodes.Pair.{Pair}
use Rattle.rule_views.specs.declared.nodes.Pair.TheVariants as P
use Rattle.rule_views.specs.declared.row.Row.TheVariants as R
use Rattle.rule_views.specs.declared.view.Arg.TheVariants as A
use Rattle.rule_views.specs.declared.view.Made.{Made}
use Rattle.rule_views.specs.declared.view.Made.TheVariants as M
use Rattle.rule_views.specs.Nodes.{single_node, pair_node}
use Rattle.rule_views.specs.Rows.{PartingOf}
use Rattle.rule_views.specs.Sees.{Sight, IsSized, IsWideAt, IsSame, NoAtom, IsConstant, NoZero, IsSingle}
use Rattle.rule_views.specs.Fires.{FiredOfPair, NoneOfPair}
use Rattle.rule_views.specs.Variables.{Variables}
use Rattle.rule_views.proofs.Layers.{pair_no_single}
use Rattle.rule_views.proofs.Seen.{single_only, constant_only}
use Rattle.rule_views.proofs.Fire.{two_seen, const_wide}
use Rattle.rule_views.proofs.Widths.{pair_sized, single_sized}
use Rattle.rule_parts.specs.Pieces.{NoPart, IsPiece}
use Rattle.rule_parts.specs.Joined.{NoParts, NoZeroAbove, NoneOfConcat}
use Rattle.rule_parts.proofs.Pieces.{part_within, part_wide, concat_widths, concat_most, less, made_of}

-- ---- two parts of a letter

-- their widths, and what they are of
record Apart (ws : ℕ → ℕ) (x : Expr) (j : ℕ) (v w : Width) : Type 0 where
  width : ℕ
  is : IsWide ws x width
  ends : j + v.bytes ≤ width
  most : v.bytes + w.bytes ≤ 16

apart_at : (ws : ℕ → ℕ) (x : Expr) (j k : ℕ) (v w : Width) → IsSized ws (E.Concat (E.Part j v x) (E.Part k w x))
    → Apart ws x j v w
apart_at ws x j k v w sized =
    let two = pair_sized ws P.Concat (E.Part j v x) (E.Part k w x) sized in
    let of = single_sized ws (S.Part j v) x two.0 in
    let h = concat_widths ws (E.Part j v x) (E.Part k w x) sized.0 sized.1 in
    let left : h.high ≡ v.bytes = some_is h.high v.bytes (sym h.left ∙ part_wide ws j v x two.0) in
    let right : h.low ≡ w.bytes = some_is h.low w.bytes (sym h.right ∙ part_wide ws k w x two.1) in
    let sum : h.high + h.low ≡ sized.0 = h.sum in
    let most : sized.0 ≤ 16 = concat_most ws (E.Part j v x) (E.Part k w x) sized.0 sized.1 in
    record {
      width = of.0;
      is = of.1;
      ends = (part_within ws j v x of.0 two.0 of.1).0;
      most = omega arith;
    }

-- a node is so, and what stands under it
record Same (j k : ℕ) (v w : Width) : Type 0 where
  dropped : j ≡ k
  width : v ≡ w

same_part : (j k : ℕ) (v w : Width) → S.Part j v ≡ S.Part k w → Same j k v w
same_part j k v w is = record { dropped = cc; width = cc }

module _ {T : Type 0} (sees : Sight T) (a b : T) where
  pub no_high : NoPart sees a → NoParts sees a b
  no_high n vs x j k v w atom is sized s t = n vs j v x s

  pub no_low : NoPart sees b → NoParts sees a b
  no_low n vs x j k v w atom is sized s t = n vs k w x t

  module _ (j k : ℕ)
      (v w : Width)
      (x y : T)
      (high : IsSingle sees a (S.Part j v) x)
      (low : IsSingle sees b (S.Part k w) y) where
    pub differs : NoAtom sees x y → NoParts sees a b
    differs n vs e i l t u atom is sized p q =
        let f = single_only sees a x (S.Part j v) high vs (S.Part i t) e p in
        let g = single_only sees b y (S.Part k w) low vs (S.Part l u) e q in
        n vs e atom f.1 g.1

    pub apart : (j ≡ k + w.bytes → ⊥) → NoParts sees a b
    apart n vs e i l t u atom is sized p q =
        let f = same_part i j t v (single_only sees a x (S.Part j v) high vs (S.Part i t) e p).0 in
        let g = same_part l k u w (single_only sees b y (S.Part k w) low vs (S.Part l u) e q).0 in
        n (sym f.dropped ∙ is ∙ ap (λ m. m + u.bytes) g.dropped ∙ ap (λ (m : Width). k + m.bytes) g.width)

    pub too_wide : 16 < v.bytes + w.bytes → NoParts sees a b
    too_wide more vs e i l t u atom is sized p q =
        let f = same_part i j t v (single_only sees a x (S.Part j v) high vs (S.Part i t) e p).0 in
        let g = same_part l k u w (single_only sees b y (S.Part k w) low vs (S.Part l u) e q).0 in
        let one : t.bytes ≡ v.bytes = ap (λ (m : Width). m.bytes) f.width in
        let two : u.bytes ≡ w.bytes = ap (λ (m : Width). m.bytes) g.width in
        let most : t.bytes + u.bytes ≤ 16 = (apart_at vs.widths e i l t u sized).most in
        absurd (omega arith)

    pub parts_fire : (c : Width) (made : Made T) → IsSame sees x y → j ≡ k + w.bytes → c.bytes ≡ v.bytes + w.bytes
        → IsPiece sees x k c made → FiredOfPair (PartingOf R.Z4) sees P.Concat a b made
    parts_fire c made same is sum piece = record {
      fires = λ vs e f sized s t. (
          let p = high.operand vs e s in
          let q = low.operand vs f t in
          let h = same.1.1 vs p.0 q.0 p.1 q.1 in
          let l : Expr = E.Part j v same.0 in
          let r : Expr = E.Part k w same.0 in
          let left : sees vs a l = high.joins vs e same.0 s h.0 in
          let right : sees vs b r = low.joins vs f same.0 t h.1 in
          let at = apart_at vs.widths same.0 j k v w (sized l r left right) in
          let ends : j + v.bytes ≤ at.width = at.ends in
          let within : k + c.bytes ≤ at.width = omega arith in
          let m = made_of sees x k c made piece vs same.0 h.0 in
          record {
            x = l;
            y = r;
            r = m.r;
            left = left;
            right = right;
            rule = ⊎_elim
                (λ (g : (m.r ≡ same.0) × (k ≡ 0) × IsWide vs.widths same.0 c.bytes).
                let none : k ≡ 0 = g.1 in
                let begins : j ≡ w.bytes = omega arith in
                subst (PartingOf R.Z4 vs.widths (E.Concat l r)) (sym g.0)
                (subst (λ o. PartingOf R.Z4 vs.widths (E.Concat l (E.Part o w same.0)) same.0) (sym g.1)
                (Z4_whole same.0 j v w same.1.0 begins (subst (IsWide vs.widths same.0) sum g.2), refl)))
                (λ (g : (m.r ≡ E.Part k c same.0) × (k ≡ 0 → IsWide vs.widths same.0 c.bytes → ⊥)).
                let below : c.bytes < at.width =
                less k c.bytes at.width within (λ z e. g.1 z (subst (IsWide vs.widths same.0) e at.is)) in
                subst (PartingOf R.Z4 vs.widths (E.Concat l r)) (sym g.0)
                (Z4 same.0 j k at.width v w c same.1.0 is sum at.is below, refl))
                m.which;
            makes = m.makes;
          });
    }

  -- ---- zeros above

  pub no_zero : NoZero sees a → NoZeroAbove sees a b
  no_zero n vs c y z sized s t = n vs c z s

  module _ (c : Word) (u : ℕ) (k : IsConstant sees a c × (c.value ≡ 0)) (wide : IsWideAt sees b u) where
    pub zero_too_wide : 16 < c.width.bytes + u → NoZeroAbove sees a b
    zero_too_wide more vs d y z sized s t =
        let same : d ≡ c = constant_only sees a c k.0 vs d s in
        let h = concat_widths vs.widths (E.Const d) y sized.0 sized.1 in
        let left : d.width.bytes ≡ h.high = const_wide vs.widths d h.high h.left in
        let one : d.width.bytes ≡ c.width.bytes = ap (λ (m : Word). m.width.bytes) same in
        let right : h.low ≡ u = some_is h.low u (sym h.right ∙ wide vs y t) in
        let sum : h.high + h.low ≡ sized.0 = h.sum in
        let most : sized.0 ≤ 16 = concat_most vs.widths (E.Const d) y sized.0 sized.1 in
        absurd (omega arith)

    pub zero_fires : (w : Width) → w.bytes ≡ c.width.bytes + u
        → FiredOfPair (PartingOf R.Z5) sees P.Concat a b (M.Single (S.Extend X.Zext w) (A.Place b))
    zero_fires w sum = record {
      fires = λ vs e f sized s t. record {
        x = E.Const c;
        y = f;
        r = E.Extend X.Zext w f;
        left = k.0.seen vs e s;
        right = t;
        rule = (Z5 f u c w k.1 (wide vs f t) sum, refl);
        makes = (f, (refl, t));
      };
    }

  -- ---- none matches

  module _ (p : Pair)
      (n : p ≡ P.Concat → NoneOfConcat sees a b)
      (vs : Variables)
      (x y : Expr)
      (sized : IsSized vs.widths (pair_node p x y))
      (s : sees vs a x)
      (t : sees vs b y) where
    one_operand : (q : Single) (u : Expr) → single_node q u ≡ pair_node p x y → ⊥
    one_operand q u is = pair_no_single p x y q u (sym is)

    no_parting : (l r : Expr) → Parting vs.widths l r → l ≡ pair_node p x y → ⊥
    no_parting l r (Z1_low u v k j w i within m) is = one_operand (S.Part k w) (E.Concat u v) is
    no_parting l r (Z1_low_whole u v w i) is = one_operand (S.Part 0 w) (E.Concat u v) is
    no_parting l r (Z1_high u v k h j w i g past m) is = one_operand (S.Part k w) (E.Concat u v) is
    no_parting l r (Z1_high_whole u v k w i g) is = one_operand (S.Part k w) (E.Concat u v) is
    no_parting l r (Z2_within u k j v w i within m) is = one_operand (S.Part k w) (E.Extend X.Zext v u) is
    no_parting l r (Z2_whole u v w i) is = one_operand (S.Part 0 w) (E.Extend X.Zext v u) is
    no_parting l r (Z2_past u k j v w z i past m) is = one_operand (S.Part k w) (E.Extend X.Zext v u) is
    no_parting l r (Z2_wider u j v w i m) is = one_operand (S.Part 0 w) (E.Extend X.Zext v u) is
    no_parting l r (Z3 u j k v w) is = one_operand (S.Part k w) (E.Part j v u) is
    no_parting l r (Z4 u j k h v w c atom m sum i below) is =
        let e = two_seen sees p a b vs x y s t P.Concat (E.Part j v u) (E.Part k w u) is in
        (n (sym e.0)).parts vs u j k v w atom m (subst (IsSized vs.widths) (sym is) sized) e.1.0 e.1.1
    no_parting l r (Z4_whole u j v w atom m i) is =
        let e = two_seen sees p a b vs x y s t P.Concat (E.Part j v u) (E.Part 0 w u) is in
        let ends : j ≡ w.bytes = m in
        let from : j ≡ 0 + w.bytes = omega arith in
        (n (sym e.0)).parts vs u j 0 v w atom from (subst (IsSized vs.widths) (sym is) sized) e.1.0 e.1.1
    no_parting l r (Z5 u j c w z i m) is =
        let e = two_seen sees p a b vs x y s t P.Concat (E.Const c) u is in
        (n (sym e.0)).zero vs c u z (subst (IsSized vs.widths) (sym is) sized) e.1.0 e.1.1
    no_parting l r (Z6_zext op u v w) is = one_operand (S.Extend op w) (E.Extend X.Zext v u) is
    no_parting l r (Z6_sext u v w) is = one_operand (S.Extend X.Sext w) (E.Extend X.Sext v u) is

  module _ (p : Pair) where
    pub none : (p ≡ P.Concat → NoneOfConcat sees a b) → NoneOfPair Parting sees p a b
    none n = record {
      none = λ vs x y r sized rule s t. no_parting p n vs x y sized s t (pair_node p x y) r rule refl;
    }

    pub none_of_concat : p ≡ P.Concat → NoneOfConcat sees a b → NoneOfPair Parting sees p a b
    none_of_concat is n = none (λ e. n)

    pub none_of_other : (p ≡ P.Concat → ⊥) → NoneOfPair Parting sees p a b
    none_of_other n = none (λ e. absurd (n e))
