-- Comparisons with the least word and with itself.
use Rattle.std.proofs.Common.{◌≡◌, ◌%◌, Bool, true, false, refl, sym, ap, ◌∙◌, subst}
use Rattle.std.proofs.Math.Nat.{zero-mod}
use Rattle.bits_core.specs.declared.word.Width.{Width}
use Rattle.bits_core.specs.declared.word.Word.{Word}
use Rattle.bits_core.specs.Value.{limit, flag}
use Rattle.cmeaning.specs.declared.tree.CompareOp.{CompareOp}
use Rattle.cmeaning.specs.declared.tree.CompareOp.TheVariants as C
use Rattle.cmeaning.specs.declared.tree.SignedCompareOp.{SignedCompareOp}
use Rattle.cmeaning.specs.declared.tree.OverflowOp.{OverflowOp}
use Rattle.cmeaning.specs.declared.tree.Expr.{Expr}
use Rattle.cmeaning.specs.declared.tree.Expr.TheVariants as E
use Rattle.rules.specs.Letters.{IsWord, of_self, of_signed_self}
use Rattle.rules.specs.Comparisons.{C6, C7_below_zero, C7_from_zero, C7_below_one, C7_to_zero, C8, C8_signed}
use Rattle.rule_views.specs.declared.nodes.Pair.TheVariants as P
use Rattle.rule_views.specs.declared.row.Row.TheVariants as R
use Rattle.rule_views.specs.declared.view.Arg.TheVariants as A
use Rattle.rule_views.specs.declared.view.Made.TheVariants as M
use Rattle.rule_views.specs.Rows.{ComparingOf}
use Rattle.rule_views.specs.Sees.{Sight, IsSame, IsConstant}
use Rattle.rule_views.specs.Fires.{FiredWith, FiredOfPair}

module _ {T : Type 0} (sees : Sight T) where
  module _ (op : CompareOp) (a : T) (c : Word) where
    pub below_zero_fires : (z : Word) → op ≡ C.Lt → c.value ≡ 0 → z.width.bytes ≡ 1 → z.value ≡ flag false
        → FiredWith (ComparingOf R.C7) sees (P.Compare op) a c (M.Is (A.Const z))
    below_zero_fires z is zero width value = record {
      fires = λ vs x sized s. record {
        x = x;
        r = E.Const z;
        left = s;
        rule = subst (λ o. ComparingOf R.C7 vs.widths (E.Compare o x (E.Const c)) (E.Const z)) (sym is)
            (C7_below_zero x c z zero (record { width = width; value = value }), refl);
        makes = refl;
      };
    }

    pub below_one_fires : (z : Word) → op ≡ C.Lt → c.value ≡ 1 → z.width ≡ c.width → z.value ≡ 0 % limit c.width.bytes
        → FiredWith (ComparingOf R.C7) sees (P.Compare op) a c (M.Pair (P.Compare C.Eq) (A.Place a) (A.Const z))
    below_one_fires z is one width value = record {
      fires = λ vs x sized s. (
          let word : IsWord c.width.bytes 0 z = record {
            width = ap (λ (w : Width). w.bytes) width;
            value = value ∙ zero-mod (limit c.width.bytes);
          } in
          let to : Expr = E.Compare C.Eq x (E.Const z) in
          record {
            x = x;
            r = to;
            left = s;
            rule = subst (λ o. ComparingOf R.C7 vs.widths (E.Compare o x (E.Const c)) to) (sym is)
                (C7_below_one x c z one word, refl);
            makes = (x, (E.Const z, (refl, s, refl)));
          });
    }

    pub to_zero_fires : op ≡ C.Le → c.value ≡ 0
        → FiredWith (ComparingOf R.C7) sees (P.Compare op) a c (M.Pair (P.Compare C.Eq) (A.Place a) (A.Const c))
    to_zero_fires is zero = record {
      fires = λ vs x sized s. (
          let to : Expr = E.Compare C.Eq x (E.Const c) in
          record {
            x = x;
            r = to;
            left = s;
            rule = subst (λ o. ComparingOf R.C7 vs.widths (E.Compare o x (E.Const c)) to) (sym is)
                (C7_to_zero x c zero, refl);
            makes = (x, (E.Const c, (refl, s, refl)));
          });
    }

  module _ (a b : T) where
    pub from_zero_fires : (op : CompareOp) (c o : Word) → op ≡ C.Le → IsConstant sees a c × (c.value ≡ 0)
        → o.width.bytes ≡ 1 → o.value ≡ flag true
        → FiredOfPair (ComparingOf R.C7) sees (P.Compare op) a b (M.Is (A.Const o))
    from_zero_fires op c o is k width value = record {
      fires = λ vs x y sized s t. record {
        x = E.Const c;
        y = y;
        r = E.Const o;
        left = k.0.seen vs x s;
        right = t;
        rule = subst (λ q. ComparingOf R.C7 vs.widths (E.Compare q (E.Const c) y) (E.Const o)) (sym is)
            (C7_from_zero y c o k.1 (record { width = width; value = value }), refl);
        makes = refl;
      };
    }

    pub itself_fires : (op : CompareOp) (is : Bool) (o : Word) → IsSame sees a b → flag is ≡ of_self op
        → o.width.bytes ≡ 1 → o.value ≡ flag is
        → FiredOfPair (ComparingOf R.C8) sees (P.Compare op) a b (M.Is (A.Const o))
    itself_fires op is o same gives width value = record {
      fires = λ vs x y sized s t. (
          let h = same.1.1 vs x y s t in
          record {
            x = same.0;
            y = same.0;
            r = E.Const o;
            left = h.0;
            right = h.1;
            rule = (C8 op same.0 o same.1.0 (record { width = width; value = value ∙ gives }), refl);
            makes = refl;
          });
    }

    pub signed_itself_fires : (op : SignedCompareOp) (is : Bool) (o : Word) → IsSame sees a b
        → flag is ≡ of_signed_self op → o.width.bytes ≡ 1 → o.value ≡ flag is
        → FiredOfPair (ComparingOf R.C8) sees (P.SignedCompare op) a b (M.Is (A.Const o))
    signed_itself_fires op is o same gives width value = record {
      fires = λ vs x y sized s t. (
          let h = same.1.1 vs x y s t in
          record {
            x = same.0;
            y = same.0;
            r = E.Const o;
            left = h.0;
            right = h.1;
            rule = (C8_signed op same.0 o same.1.0 (record { width = width; value = value ∙ gives }), refl);
            makes = refl;
          });
    }

    pub carried_fires : (op : OverflowOp) (c z : Word) → IsConstant sees b c × (c.value ≡ 0) → z.width.bytes ≡ 1
        → z.value ≡ flag false → FiredOfPair (ComparingOf R.C6) sees (P.Overflow op) a b (M.Is (A.Const z))
    carried_fires op c z k width value = record {
      fires = λ vs x y sized s t. record {
        x = x;
        y = E.Const c;
        r = E.Const z;
        left = s;
        right = k.0.seen vs y t;
        rule = (C6 op x c z k.1 (record { width = width; value = value }), refl);
        makes = refl;
      };
    }
