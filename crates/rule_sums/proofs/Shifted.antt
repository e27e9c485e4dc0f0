-- Shifts by a constant.
use Rattle.std.proofs.Common.{◌≡◌, ℕ, ◌-◌, ◌*◌, ◌<◌, ◌≤◌, ◌%◌, refl, sym, ap, ◌∙◌, subst, arith}
use Rattle.std.proofs.Math.Nat.{zero-mod, mod-eq_of_lt}
use Rattle.bits_core.specs.declared.word.Width.{Width}
use Rattle.bits_core.specs.declared.word.Word.{Word}
use Rattle.bits_core.specs.Value.{limit}
use Rattle.cmeaning.specs.declared.tree.ShiftOp.{ShiftOp}
use Rattle.cmeaning.specs.declared.tree.ShiftOp.TheVariants as H
use Rattle.cmeaning.specs.declared.tree.Expr.{Expr}
use Rattle.cmeaning.specs.declared.tree.Expr.TheVariants as E
use Rattle.rules.specs.Letters.{IsWide, IsWord}
use Rattle.rules.specs.Shifts.{Shifting, A1_shift, S1, S2}
use Rattle.rule_views.specs.declared.nodes.Pair.{Pair}
use Rattle.rule_views.specs.declared.nodes.Pair.TheVariants as P
use Rattle.rule_views.specs.declared.row.Row.{Row}
use Rattle.rule_views.specs.declared.row.Row.TheVariants as R
use Rattle.rule_views.specs.declared.view.Arg.TheVariants as A
use Rattle.rule_views.specs.declared.view.Made.{Made}
use Rattle.rule_views.specs.declared.view.Made.TheVariants as M
use Rattle.rule_views.specs.Nodes.{pair_node}
use Rattle.rule_views.specs.Rows.{ShiftingOf}
use Rattle.rule_views.specs.Sees.{Sight, IsWideAt, IsConstant, NoConstant}
use Rattle.rule_views.specs.Fires.{FiredWith, FiredOfPair, NoneOfPair}
use Rattle.rule_views.specs.Variables.{Variables}
use Rattle.rule_views.proofs.Layers.{same_pair}
use Rattle.rule_views.proofs.Fire.{same_with, wide_only, with_constant}
use Rattle.rule_views.proofs.Seen.{constant_only}
use Rattle.rule_sums.specs.Sides.{NotPassed, NoneShifted}

module _ {T : Type 0} (sees : Sight T) (a : T) (c : Word) where
  pub not_passed : (w : ℕ) → IsWideAt sees a w → c.value < 8 * w → NotPassed sees a c
  not_passed w wide less vs x v s is most = let e : v ≡ w = wide_only sees a w wide vs x v s is in absurd (omega arith)

  module _ (op : ShiftOp) where
    pub nothing_fires : c.value ≡ 0 → FiredWith (ShiftingOf R.A1) sees (P.Shift op) a c (M.Is (A.Place a))
    nothing_fires z = record {
      fires = λ vs x sized s. record { x = x; r = x; left = s; rule = (A1_shift op x c z, refl); makes = s };
    }

    pub past_fires : (w : Width) (z : Word) → (op ≡ H.Sar → ⊥) → IsWideAt sees a w.bytes → 8 * w.bytes ≤ c.value
        → z.width ≡ w → z.value ≡ 0 % limit w.bytes
        → FiredWith (ShiftingOf R.S1) sees (P.Shift op) a c (M.Is (A.Const z))
    past_fires w z n wide most is zero =
        let width : z.width.bytes ≡ w.bytes = ap (λ (v : Width). v.bytes) is in
        record {
          fires = λ vs x sized s. record {
            x = x;
            r = E.Const z;
            left = s;
            rule = (
              S1 op x c z n (subst (IsWide vs.widths x) (sym width) (wide vs x s))
                  (subst (λ v. 8 * v ≤ c.value) (sym width) most) (zero ∙ zero-mod (limit w.bytes)),
              refl,
            );
            makes = refl;
          };
        }

    pub sign_fires : (w : ℕ) (e : Word) → op ≡ H.Sar → IsWideAt sees a w → 8 * w ≤ c.value → e.width ≡ c.width
        → e.value ≡ (8 * w - 1) % limit c.width.bytes
        → FiredWith (ShiftingOf R.S2) sees (P.Shift op) a c (M.Pair (P.Shift H.Sar) (A.Place a) (A.Const e))
    sign_fires w e is wide most width value =
        let below : c.value < limit c.width.bytes = c.below in
        let small : 8 * w - 1 < limit c.width.bytes = omega arith in
        let word : IsWord c.width.bytes (8 * w - 1) e = record {
          width = ap (λ (v : Width). v.bytes) width;
          value = value ∙ mod-eq_of_lt small;
        } in
        record {
          fires = λ vs x sized s. (
              let Q : ShiftOp → Type 0 =
              λ o. ShiftingOf R.S2 vs.widths (E.Shift o x (E.Const c)) (E.Shift H.Sar x (E.Const e)) in
              record {
                x = x;
                r = E.Shift H.Sar x (E.Const e);
                left = s;
                rule = subst Q (sym is) (S2 x w c e (wide vs x s) most word, refl);
                makes = (x, (E.Const e, (refl, s, refl)));
              });
        }

    -- a rule of shifts whose node is this shift by this constant
    none : (vs : Variables) (l r x : Expr) → NoneShifted sees op a c → Shifting vs.widths l r → l ≡ E.Shift op x (E.Const c)
        → sees vs a x → ⊥
    none vs l r x n (A1_shift q y d z) is s =
        let e = same_with (P.Shift q) (P.Shift op) y x d c is in
        n.nothing (ap (λ (v : Word). v.value) (sym e.word) ∙ z)
    none vs l r x n (S1 q y d z other wide most zero) is s =
        let e = same_with (P.Shift q) (P.Shift op) y x d c is in
        let node : P.Shift q ≡ P.Shift op = e.node in
        let same : q ≡ op = cc in
        n.bits (λ h. other (same ∙ h)) vs x z.width.bytes s (subst (λ v. IsWide vs.widths v z.width.bytes) e.left wide)
        (subst (λ (v : Word). 8 * z.width.bytes ≤ v.value) e.word most)
    none vs l r x n (S2 y w d f wide most word) is s =
        let e = same_with (P.Shift H.Sar) (P.Shift op) y x d c is in
        let node : P.Shift H.Sar ≡ P.Shift op = e.node in
        let same : H.Sar ≡ op = cc in
        n.sign (sym same) vs x w s (subst (λ v. IsWide vs.widths v w) e.left wide)
        (subst (λ (v : Word). 8 * w ≤ v.value) e.word most)

module _ {T : Type 0} (sees : Sight T) (p : Pair) (a b : T) where
  -- the node of a rule of shifts is a shift by a constant
  data IsShift (x y : Expr) : Type 0 where
    Is : (op : ShiftOp) (c : Word) → p ≡ P.Shift op → y ≡ E.Const c → IsShift x y

  is_shift : (vs : Variables) (l r x y : Expr) → Shifting vs.widths l r → l ≡ pair_node p x y → IsShift x y
  is_shift vs l r x y (A1_shift q u d z) is =
      let e = same_pair (P.Shift q) p u (E.Const d) x y is in Is q d (sym e.node) (sym e.right)
  is_shift vs l r x y (S1 q u d z other wide most zero) is =
      let e = same_pair (P.Shift q) p u (E.Const d) x y is in Is q d (sym e.node) (sym e.right)
  is_shift vs l r x y (S2 u w d f wide most word) is =
      let e = same_pair (P.Shift H.Sar) p u (E.Const d) x y is in Is H.Sar d (sym e.node) (sym e.right)

  pub other_node : ((op : ShiftOp) → p ≡ P.Shift op → ⊥) → NoneOfPair Shifting sees p a b
  other_node n = record {
    none = λ vs x y r sized rule s t. (
        elim (is_shift vs (pair_node p x y) r x y rule refl) [ Is op c node const ↦ n op node ]);
  }

  pub no_constant : NoConstant sees b → NoneOfPair Shifting sees p a b
  no_constant n = record {
    none = λ vs x y r sized rule s t. (
        elim (is_shift vs (pair_node p x y) r x y rule refl)
        [ Is op c node const ↦ n vs c (subst (sees vs b) const t) ]);
  }

  pub none_shifted : (op : ShiftOp) (c : Word) → p ≡ P.Shift op → IsConstant sees b c → NoneShifted sees op a c
      → NoneOfPair Shifting sees p a b
  none_shifted op c is k n = record {
    none = λ vs x y r sized rule s t. (
        elim (is_shift vs (pair_node p x y) r x y rule refl) [
          | Is o d node const ↦ (
              let word : d ≡ c = constant_only sees b c k vs d (subst (sees vs b) const t) in
              let l : pair_node p x y ≡ E.Shift op x (E.Const c) =
              ap (λ q. pair_node q x y) is ∙ ap (λ z. E.Shift op x z) (const ∙ ap E.Const word) in
              none sees a c op vs (pair_node p x y) r x n rule l s)
        ]);
  }

  pub shift_fires : (op : ShiftOp) (c : Word) (row : Row) (made : Made T) → p ≡ P.Shift op → IsConstant sees b c
      → FiredWith (ShiftingOf row) sees (P.Shift op) a c made → FiredOfPair (ShiftingOf row) sees p a b made
  shift_fires op c row made is k f =
      let Q : Pair → Type 0 = λ q. FiredOfPair (ShiftingOf row) sees q a b made in
      subst Q (sym is) (with_constant sees (ShiftingOf row) (P.Shift op) a b c made k f)
