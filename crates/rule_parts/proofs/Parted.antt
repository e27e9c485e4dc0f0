-- Parts and extensions.
use Rattle.std.proofs.Common.{◌≡◌, ◌⊎◌, ⊎_elim, ℕ, ◌+◌, ◌-◌, ◌<◌, ◌≤◌, ◌%◌, min, refl, sym, ap, ◌∙◌, subst, arith}
use Rattle.std.proofs.Math.Nat.{zero-mod}
use Rattle.std.proofs.lemmas.Bool.{cases_lt}
use Rattle.bits_core.specs.declared.word.Width.{Width}
use Rattle.bits_core.specs.declared.word.Word.{Word}
use Rattle.bits_core.specs.Value.{limit}
use Rattle.cmeaning.specs.declared.tree.ExtendOp.{ExtendOp}
use Rattle.cmeaning.specs.declared.tree.ExtendOp.TheVariants as X
use Rattle.cmeaning.specs.declared.tree.Expr.{Expr}
use Rattle.cmeaning.specs.declared.tree.Expr.TheVariants as E
use Rattle.rules.specs.Letters.{IsWide}
use Rattle.rules.specs.Parts.{Parting, Z1_low, Z1_low_whole, Z1_high, Z1_high_whole, Z2_within, Z2_whole, Z2_past, Z2_wider, Z3, Z4, Z4_whole, Z5, Z6_zext, Z6_sext}
use Rattle.rule_views.specs.declared.nodes.Single.{Single}
use Rattle.rule_views.specs.declared.nodes.Single.TheVariants as S
use Rattle.rule_views.specs.declared.nodes.Pair.TheVariants as P
use Rattle.rule_views.specs.declared.row.Row.TheVariants as R
use Rattle.rule_views.specs.declared.view.Arg.TheVariants as A
use Rattle.rule_views.specs.declared.view.Made.{Made}
use Rattle.rule_views.specs.declared.view.Made.TheVariants as M
use Rattle.rule_views.specs.Nodes.{single_node}
use Rattle.rule_views.specs.Rows.{PartingOf}
use Rattle.rule_views.specs.Sees.{Sight, IsSized, IsWideAt, IsPair, NoNode, IsSingle}
use Rattle.rule_views.specs.Fires.{FiredOfSingle, NoneOfSingle}
use Rattle.rule_views.specs.Variables.{Variables}
use Rattle.rule_views.proofs.Layers.{same_single, pair_no_single}
use Rattle.rule_views.proofs.Seen.{pair_only, single_only}
use Rattle.rule_views.proofs.Fire.{wide_only}
use Rattle.rule_views.proofs.Widths.{single_sized}
use Rattle.rule_parts.specs.Pieces.{NoExtend, IsPiece, NoneOfConcat, NoneOfZext, NoneOfPart, Extends, NoneInside}
use Rattle.rule_parts.proofs.Pieces.{part_within, part_wide, concat_widths, less, made_of}

wider : (t w : ℕ) → (0 + w ≤ t → ⊥) → t < w
wider t w n = ⊎_elim (λ (l : t < w). l) (λ (m : w ≤ t). let at : 0 + w ≤ t = omega arith in absurd (n at)) (cases_lt t w)

module _ {T : Type 0} (sees : Sight T) (a : T) (k : ℕ) (w : Width) where
  -- ---- of words put together

  pub no_concat : NoNode sees a P.Concat → NoneOfConcat sees a k w
  no_concat n vs x y u s wide = absurd (n vs x y s)

  module _ (x y : T) (low : ℕ) (i : IsPair sees a P.Concat x y) (wide : IsWideAt sees y low) where
    pub across : (k + w.bytes ≤ low → ⊥) → k < low → NoneOfConcat sees a k w
    across n begins vs s t u h is =
        let e = pair_only sees a x y P.Concat i vs P.Concat s t h in
        let same : u ≡ low = wide_only sees y low wide vs t u e.1.1 is in
        (λ l. n (subst (λ v. k + w.bytes ≤ v) same l), λ l. absurd (omega arith))

    pub low_fires : (made : Made T) → k + w.bytes ≤ low → IsPiece sees y k w made
        → FiredOfSingle (PartingOf R.Z1) sees (S.Part k w) a made
    low_fires made within piece = record {
      fires = λ vs e sized s. (
          let o = i.operands vs e s in
          let l : Expr = E.Concat o.0 o.1.0 in
          let is : IsWide vs.widths o.1.0 low = wide vs o.1.0 o.1.1.1 in
          let m = made_of sees y k w made piece vs o.1.0 o.1.1.1 in
          record {
            x = l;
            r = m.r;
            operand = i.joins vs e o.0 o.1.0 s o.1.1.0 o.1.1.1;
            rule = ⊎_elim
                (λ (h : (m.r ≡ o.1.0) × (k ≡ 0) × IsWide vs.widths o.1.0 w.bytes).
                subst (PartingOf R.Z1 vs.widths (E.Part k w l)) (sym h.0)
                (subst (λ j. PartingOf R.Z1 vs.widths (E.Part j w l) o.1.0) (sym h.1)
                (Z1_low_whole o.0 o.1.0 w h.2, refl)))
                (λ (h : (m.r ≡ E.Part k w o.1.0) × (k ≡ 0 → IsWide vs.widths o.1.0 w.bytes → ⊥)).
                let l : w.bytes < low =
                less k w.bytes low within (λ z same. h.1 z (subst (IsWide vs.widths o.1.0) same is)) in
                subst (PartingOf R.Z1 vs.widths (E.Part k w (E.Concat o.0 o.1.0))) (sym h.0)
                (Z1_low o.0 o.1.0 k low w is within l, refl))
                m.which;
            makes = m.makes;
          });
    }

    pub high_fires : (made : Made T) → low ≤ k → IsPiece sees x (k - low) w made
        → FiredOfSingle (PartingOf R.Z1) sees (S.Part k w) a made
    high_fires made past piece = record {
      fires = λ vs e sized s. (
          let o = i.operands vs e s in
          let l : Expr = E.Concat o.0 o.1.0 in
          let seen : sees vs a l = i.joins vs e o.0 o.1.0 s o.1.1.0 o.1.1.1 in
          let is : IsWide vs.widths o.1.0 low = wide vs o.1.0 o.1.1.1 in
          let whole : IsSized vs.widths l = single_sized vs.widths (S.Part k w) l (sized l seen) in
          let v = concat_widths vs.widths o.0 o.1.0 whole.0 whole.1 in
          let same : v.low ≡ low = wide_only sees y low wide vs o.1.0 v.low o.1.1.1 v.right in
          let sum : v.high + v.low ≡ whole.0 = v.sum in
          let within = part_within vs.widths k w l whole.0 (sized l seen) whole.1 in
          let ends : k + w.bytes ≤ whole.0 = within.0 in
          let fits : (k - low) + w.bytes ≤ v.high = omega arith in
          let m = made_of sees x (k - low) w made piece vs o.0 o.1.1.0 in
          record {
            x = l;
            r = m.r;
            operand = seen;
            rule = ⊎_elim
                (λ (h : (m.r ≡ o.0) × (k - low ≡ 0) × IsWide vs.widths o.0 w.bytes).
                let at : k - low ≡ 0 = h.1 in
                let begins : low ≡ k = omega arith in
                subst (PartingOf R.Z1 vs.widths (E.Part k w l)) (sym h.0)
                (Z1_high_whole o.0 o.1.0 k w h.2 (subst (IsWide vs.widths o.1.0) begins is), refl))
                (λ (h : (m.r ≡ E.Part (k - low) w o.0) × (k - low ≡ 0 → IsWide vs.widths o.0 w.bytes → ⊥)).
                let l : w.bytes < v.high =
                less (k - low) w.bytes v.high fits (λ z same. h.1 z (subst (IsWide vs.widths o.0) same v.left)) in
                subst (PartingOf R.Z1 vs.widths (E.Part k w (E.Concat o.0 o.1.0))) (sym h.0)
                (Z1_high o.0 o.1.0 k v.high low w v.left is past l, refl))
                m.which;
            makes = m.makes;
          });
    }

  -- ---- of an extension with zeros

  pub no_extension : NoExtend sees a → NoneOfZext sees a k w
  no_extension n vs x v u s wide = absurd (n vs X.Zext v x s)

  pub not_zext : (op : ExtendOp) (v : Width) (x : T) → IsSingle sees a (S.Extend op v) x → (op ≡ X.Zext → ⊥)
      → NoneOfZext sees a k w
  not_zext op v x i n vs y t u s wide =
      let e = single_only sees a x (S.Extend op v) i vs (S.Extend X.Zext t) y s in
      let node : S.Extend X.Zext t ≡ S.Extend op v = e.0 in
      let same : op ≡ X.Zext = cc in
      absurd (n same)

  module _ (v : Width)
      (x : T)
      (from : ℕ)
      (op : ExtendOp)
      (zext : op ≡ X.Zext)
      (found : IsSingle sees a (S.Extend op v) x)
      (wide : IsWideAt sees x from) where
    i : IsSingle sees a (S.Extend X.Zext v) x
    i = subst (λ o. IsSingle sees a (S.Extend o v) x) zext found

    pub beyond : (k + w.bytes ≤ from → ⊥) → (from ≤ k → ⊥) → (k ≡ 0 → ⊥) → NoneOfZext sees a k w
    beyond n m z vs y t u s is =
        let e = single_only sees a x (S.Extend X.Zext v) i vs (S.Extend X.Zext t) y s in
        let same : u ≡ from = wide_only sees x from wide vs y u e.1 is in
        (λ l. n (subst (λ q. k + w.bytes ≤ q) same l), λ l. m (subst (λ q. q ≤ k) same l), z)

    pub within_fires : (made : Made T) → k + w.bytes ≤ from → IsPiece sees x k w made
        → FiredOfSingle (PartingOf R.Z2) sees (S.Part k w) a made
    within_fires made within piece = record {
      fires = λ vs e sized s. (
          let o = i.operand vs e s in
          let l : Expr = E.Extend X.Zext v o.0 in
          let is : IsWide vs.widths o.0 from = wide vs o.0 o.1 in
          let m = made_of sees x k w made piece vs o.0 o.1 in
          record {
            x = l;
            r = m.r;
            operand = i.joins vs e o.0 s o.1;
            rule = ⊎_elim
                (λ (h : (m.r ≡ o.0) × (k ≡ 0) × IsWide vs.widths o.0 w.bytes).
                subst (PartingOf R.Z2 vs.widths (E.Part k w l)) (sym h.0)
                (subst (λ j. PartingOf R.Z2 vs.widths (E.Part j w l) o.0) (sym h.1) (Z2_whole o.0 v w h.2, refl)))
                (λ (h : (m.r ≡ E.Part k w o.0) × (k ≡ 0 → IsWide vs.widths o.0 w.bytes → ⊥)).
                let below : w.bytes < from =
                less k w.bytes from within (λ z same. h.1 z (subst (IsWide vs.widths o.0) same is)) in
                subst (PartingOf R.Z2 vs.widths (E.Part k w l)) (sym h.0)
                (Z2_within o.0 k from v w is within below, refl))
                m.which;
            makes = m.makes;
          });
    }

    pub past_fires : (z : Word) → from ≤ k → z.width ≡ w → z.value ≡ 0 % limit w.bytes
        → FiredOfSingle (PartingOf R.Z2) sees (S.Part k w) a (M.Is (A.Const z))
    past_fires z past width value = record {
      fires = λ vs e sized s. (
          let o = i.operand vs e s in
          record {
            x = E.Extend X.Zext v o.0;
            r = E.Const z;
            operand = i.joins vs e o.0 s o.1;
            rule = (
              Z2_past o.0 k from v w z (wide vs o.0 o.1) past
                  (record {
                    width = ap (λ (q : Width). q.bytes) width;
                    value = value ∙ zero-mod (limit w.bytes);
                  }),
              refl,
            );
            makes = refl;
          });
    }

    pub wider_fires : k ≡ 0 → (k + w.bytes ≤ from → ⊥)
        → FiredOfSingle (PartingOf R.Z2) sees (S.Part k w) a (M.Single (S.Extend X.Zext w) (A.Place x))
    wider_fires zero n = record {
      fires = λ vs e sized s. (
          let o = i.operand vs e s in
          let l : Expr = E.Extend X.Zext v o.0 in
          let above : from < w.bytes = wider from w.bytes (λ h. n (subst (λ j. j + w.bytes ≤ from) (sym zero) h)) in
          record {
            x = l;
            r = E.Extend X.Zext w o.0;
            operand = i.joins vs e o.0 s o.1;
            rule = subst (λ j. PartingOf R.Z2 vs.widths (E.Part j w l) (E.Extend X.Zext w o.0)) (sym zero)
                (Z2_wider o.0 from v w (wide vs o.0 o.1) above, refl);
            makes = (o.0, (refl, o.1));
          });
    }

  -- ---- of a part

  pub part_fires : (j dropped most : ℕ) (v : Width) (x : T) → IsSingle sees a (S.Part j v) x → IsWideAt sees x most
      → most ≤ 16 → dropped ≡ min (min (j + k) 255) most
      → FiredOfSingle (PartingOf R.Z3) sees (S.Part k w) a (M.Single (S.Part dropped w) (A.Place x))
  part_fires j dropped most v x i wide small is = record {
    fires = λ vs e sized s. (
        let o = i.operand vs e s in
        let l : Expr = E.Part j v o.0 in
        let seen : sees vs a l = i.joins vs e o.0 s o.1 in
        let inner : IsSized vs.widths l = single_sized vs.widths (S.Part k w) l (sized l seen) in
        let low = part_within vs.widths j v o.0 most inner (wide vs o.0 o.1) in
        let high = part_within vs.widths k w l v.bytes (sized l seen) (part_wide vs.widths j v o.0 inner) in
        let one : j + v.bytes ≤ most = low.0 in
        let two : k + w.bytes ≤ v.bytes = high.0 in
        let sum : dropped ≡ j + k = omega arith in
        record {
          x = l;
          r = E.Part (j + k) w o.0;
          operand = seen;
          rule = (Z3 o.0 j k v w, refl);
          makes = (o.0, (ap (λ d. E.Part d w o.0) (sym sum), o.1));
        });
  }

only_sext : (op : ExtendOp) → Extends op X.Sext → op ≡ X.Sext
only_sext X.Sext k = refl
only_sext X.Zext k = absurd k

any_zext : (op : ExtendOp) → Extends op X.Zext
any_zext X.Zext = tt
any_zext X.Sext = tt

module _ {T : Type 0} (sees : Sight T) (a : T) where
  -- ---- of an extension

  module _ (op : ExtendOp) (w : Width) where
    pub none_inside : NoExtend sees a → NoneInside sees op a
    none_inside n vs inner v x k s = n vs inner v x s

    pub sext_inside : (inner : ExtendOp) (v : Width) (x : T) → IsSingle sees a (S.Extend inner v) x → inner ≡ X.Sext
        → (op ≡ X.Sext → ⊥) → NoneInside sees op a
    sext_inside inner v x i is n vs o t y k s =
        let e = single_only sees a x (S.Extend inner v) i vs (S.Extend o t) y s in
        let node : S.Extend o t ≡ S.Extend inner v = e.0 in
        let same : o ≡ X.Sext = cc in
        n (only_sext op (subst (Extends op) same k))

    pub zext_fires : (inner : ExtendOp) (v : Width) (x : T) → IsSingle sees a (S.Extend inner v) x → inner ≡ X.Zext
        → FiredOfSingle (PartingOf R.Z6) sees (S.Extend op w) a (M.Single (S.Extend X.Zext w) (A.Place x))
    zext_fires inner v x found is =
        let i : IsSingle sees a (S.Extend X.Zext v) x = subst (λ o. IsSingle sees a (S.Extend o v) x) is found in
        record {
          fires = λ vs e sized s. (
              let o = i.operand vs e s in
              record {
                x = E.Extend X.Zext v o.0;
                r = E.Extend X.Zext w o.0;
                operand = i.joins vs e o.0 s o.1;
                rule = (Z6_zext op o.0 v w, refl);
                makes = (o.0, (refl, o.1));
              });
        }

    pub sext_fires : (inner : ExtendOp) (v : Width) (x : T) → IsSingle sees a (S.Extend inner v) x → inner ≡ X.Sext
        → op ≡ X.Sext
        → FiredOfSingle (PartingOf R.Z6) sees (S.Extend op w) a (M.Single (S.Extend X.Sext w) (A.Place x))
    sext_fires inner v x found is outer =
        let i : IsSingle sees a (S.Extend X.Sext v) x = subst (λ o. IsSingle sees a (S.Extend o v) x) is found in
        record {
          fires = λ vs e sized s. (
              let o = i.operand vs e s in
              let l : Expr = E.Extend X.Sext v o.0 in
              record {
                x = l;
                r = E.Extend X.Sext w o.0;
                operand = i.joins vs e o.0 s o.1;
                rule = subst (λ q. PartingOf R.Z6 vs.widths (E.Extend q w l) (E.Extend X.Sext w o.0)) (sym outer)
                    (Z6_sext o.0 v w, refl);
                makes = (o.0, (refl, o.1));
              });
        }

  -- ---- none matches

  -- whatever the node is
  record None (s : Single) : Type 0 where
    part : (k : ℕ) (w : Width) → s ≡ S.Part k w → NoneOfPart sees a k w
    extend : (op : ExtendOp) (w : Width) → s ≡ S.Extend op w → NoneInside sees op a

  module _ (s : Single) (n : None s) (vs : Variables) (x : Expr) (t : sees vs a x) where
    record Seen (q : Single) (u : Expr) : Type 0 where
      node : s ≡ q
      operand : sees vs a u

    at : (q : Single) (u : Expr) → single_node q u ≡ single_node s x → Seen q u
    at q u is =
        let e = same_single q s u x is in
        record { node = sym e.0; operand = subst (sees vs a) (sym e.1) t }

    no_parting : (l r : Expr) → Parting vs.widths l r → l ≡ single_node s x → ⊥
    no_parting l r (Z1_low u v k j w i within m) is =
        let e = at (S.Part k w) (E.Concat u v) is in ((n.part k w e.node).concat vs u v j e.operand i).0 within
    no_parting l r (Z1_low_whole u v w i) is =
        let e = at (S.Part 0 w) (E.Concat u v) is in
        let all : 0 + w.bytes ≤ w.bytes = omega arith in
        ((n.part 0 w e.node).concat vs u v w.bytes e.operand i).0 all
    no_parting l r (Z1_high u v k h j w i g past m) is =
        let e = at (S.Part k w) (E.Concat u v) is in ((n.part k w e.node).concat vs u v j e.operand g).1 past
    no_parting l r (Z1_high_whole u v k w i g) is =
        let e = at (S.Part k w) (E.Concat u v) is in
        let all : k ≤ k = omega arith in
        ((n.part k w e.node).concat vs u v k e.operand g).1 all
    no_parting l r (Z2_within u k j v w i within m) is =
        let e = at (S.Part k w) (E.Extend X.Zext v u) is in ((n.part k w e.node).zext vs u v j e.operand i).0 within
    no_parting l r (Z2_whole u v w i) is =
        let e = at (S.Part 0 w) (E.Extend X.Zext v u) is in
        ((n.part 0 w e.node).zext vs u v w.bytes e.operand i).2 refl
    no_parting l r (Z2_past u k j v w z i past m) is =
        let e = at (S.Part k w) (E.Extend X.Zext v u) is in ((n.part k w e.node).zext vs u v j e.operand i).1 past
    no_parting l r (Z2_wider u j v w i m) is =
        let e = at (S.Part 0 w) (E.Extend X.Zext v u) is in ((n.part 0 w e.node).zext vs u v j e.operand i).2 refl
    no_parting l r (Z3 u j k v w) is =
        let e = at (S.Part k w) (E.Part j v u) is in (n.part k w e.node).part vs j v u e.operand
    no_parting l r (Z4 u j k h v w c o m p q i) is =
        pair_no_single P.Concat (E.Part j v u) (E.Part k w u) s x is
    no_parting l r (Z4_whole u j v w o m i) is = pair_no_single P.Concat (E.Part j v u) (E.Part 0 w u) s x is
    no_parting l r (Z5 u j c w z i m) is = pair_no_single P.Concat (E.Const c) u s x is
    no_parting l r (Z6_zext op u v w) is =
        let e = at (S.Extend op w) (E.Extend X.Zext v u) is in
        n.extend op w e.node vs X.Zext v u (any_zext op) e.operand
    no_parting l r (Z6_sext u v w) is =
        let e = at (S.Extend X.Sext w) (E.Extend X.Sext v u) is in n.extend X.Sext w e.node vs X.Sext v u tt e.operand

  module _ (s : Single) where
    none : None s → NoneOfSingle Parting sees s a
    none n = record {
      none = λ vs x r sized rule t. no_parting s n vs x t (single_node s x) r rule refl;
    }

    pub none_of_part : (k : ℕ) (w : Width) → s ≡ S.Part k w → NoneOfPart sees a k w → NoneOfSingle Parting sees s a
    none_of_part k w is n = none (record {
      part = λ j v e. let h : S.Part k w ≡ S.Part j v = sym is ∙ e in
          let one : k ≡ j = cc in
          let two : w ≡ v = cc in
          subst (λ q. NoneOfPart sees a q v) one (subst (NoneOfPart sees a k) two n);
      extend = λ op v e. let h : S.Part k w ≡ S.Extend op v = sym is ∙ e in absurd cc;
    })

    pub none_of_extend : (op : ExtendOp) (w : Width) → s ≡ S.Extend op w → NoneInside sees op a
        → NoneOfSingle Parting sees s a
    none_of_extend op w is n = none (record {
      part = λ j v e. let h : S.Extend op w ≡ S.Part j v = sym is ∙ e in absurd cc;
      extend = λ q v e. let h : S.Extend op w ≡ S.Extend q v = sym is ∙ e in
          let same : op ≡ q = cc in subst (λ o. NoneInside sees o a) same n;
    })

    pub none_of_other : ((k : ℕ) (w : Width) → s ≡ S.Part k w → ⊥)
        → ((op : ExtendOp) (w : Width) → s ≡ S.Extend op w → ⊥) → NoneOfSingle Parting sees s a
    none_of_other m n = none (record {
      part = λ k w e. absurd (m k w e);
      extend = λ op w e. absurd (n op w e);
    })
