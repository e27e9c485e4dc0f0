-- The sign of a difference beside its borrow.
use Rattle.std.proofs.Common.{◌≡◌, Bool, true, false, IsTrue, refl, sym, subst}
use Rattle.bits_core.specs.declared.word.Word.{Word}
use Rattle.cmeaning.specs.declared.tree.ArithmeticOp.TheVariants as O
use Rattle.cmeaning.specs.declared.tree.CompareOp.{CompareOp}
use Rattle.cmeaning.specs.declared.tree.CompareOp.TheVariants as C
use Rattle.cmeaning.specs.declared.tree.SignedCompareOp.TheVariants as I
use Rattle.cmeaning.specs.declared.tree.OverflowOp.TheVariants as V
use Rattle.cmeaning.specs.declared.tree.Expr.{Expr}
use Rattle.cmeaning.specs.declared.tree.Expr.TheVariants as E
use Rattle.rules.specs.Comparisons.{C3_ne, C3_eq}
use Rattle.rule_views.specs.declared.nodes.Pair.TheVariants as P
use Rattle.rule_views.specs.declared.row.Row.TheVariants as R
use Rattle.rule_views.specs.declared.view.Arg.TheVariants as A
use Rattle.rule_views.specs.declared.view.Made.TheVariants as M
use Rattle.rule_views.specs.Rows.{ComparingOf}
use Rattle.rule_views.specs.Sees.{Sight, IsPair, NoNode, NoZero, IsSame, IsConstant}
use Rattle.rule_views.specs.Fires.{FiredOfPair}
use Rattle.rule_views.specs.Variables.{Variables}
use Rattle.rule_views.proofs.Seen.{pair_only}
use Rattle.rule_conditions.specs.Twice.{sign, NoSign, IsSign, NoBorrow, AreTwo, NoneTwo}

module _ {T : Type 0} (sees : Sight T) where
  -- ---- SLt(x - y, 0)

  pub no_less : (at : T) → NoNode sees at (P.SignedCompare I.SLt) → NoSign sees at
  no_less at n vs x y c z s = n vs (E.Arithmetic O.Sub x y) (E.Const c) s

  module _ (at d z : T) (i : IsPair sees at (P.SignedCompare I.SLt) d z) where
    opened : (vs : Variables) (x y : Expr) (c : Word) → sees vs at (sign x y c)
        → sees vs d (E.Arithmetic O.Sub x y) × sees vs z (E.Const c)
    opened vs x y c s =
        (pair_only sees at d z (P.SignedCompare I.SLt) i vs (P.SignedCompare I.SLt) (E.Arithmetic O.Sub x y) (E.Const c) s).1

    pub no_zero : NoZero sees z → NoSign sees at
    no_zero n vs x y c is s = n vs c is (opened vs x y c s).1

    pub no_difference : NoNode sees d (P.Arithmetic O.Sub) → NoSign sees at
    no_difference n vs x y c is s = n vs x y (opened vs x y c s).0

    pub is_sign : (x y : T) (c : Word) → IsConstant sees z c × (c.value ≡ 0) → IsPair sees d (P.Arithmetic O.Sub) x y
        → (k : Word) × IsSign sees at x y k
    is_sign x y c k j = (
      c,
      record {
        nothing = k.1;
        only = λ vs s t e h. (
            pair_only sees d x y (P.Arithmetic O.Sub) j vs (P.Arithmetic O.Sub) s t (opened vs s t e h).0).1;
        joins = λ vs e s t h p q. (
            let o = i.operands vs e h in
            let difference = j.joins vs o.0 s t o.1.1.0 p q in
            let const : sees vs z (E.Const c) = k.0.seen vs o.1.0 o.1.1.1 in
            i.joins vs e (E.Arithmetic O.Sub s t) (E.Const c) h difference const);
        operands = λ vs e h. let o = i.operands vs e h in j.operands vs o.0 o.1.1.0;
      },
    )

  -- ---- beside the borrow

  module _ (a b : T) where
    pub no_sign : NoSign sees a → NoBorrow sees a b
    no_sign n vs x y c one two z s t = n vs x y c z s

    pub no_borrow : NoNode sees b (P.Overflow V.SBorrow) → NoBorrow sees a b
    no_borrow n vs x y c one two z s t = n vs x y t

    module _ (x y u v : T)
        (g : (c : Word) × IsSign sees a x y c)
        (i : IsPair sees b (P.Overflow V.SBorrow) u v) where
      lettered : (vs : Variables) (s t : Expr) → sees vs b (E.Overflow V.SBorrow s t) → sees vs u s × sees vs v t
      lettered vs s t h = (pair_only sees b u v (P.Overflow V.SBorrow) i vs (P.Overflow V.SBorrow) s t h).1

      pub differ : (is : Bool) → NoneTwo sees x y u v (IsTrue is) → is ≡ false → NoBorrow sees a b
      differ is n other vs s t c one two z p q =
          let h = g.1.only vs s t c p in
          let k = lettered vs s t q in
          let shown : is ≡ true = n vs s t one two k.0 k.1 h.0 h.1 in
          absurd cc

      record Letters (first : IsSame sees x u) (second : IsSame sees y v) (vs : Variables) : Type 0 where
        left : sees vs a (sign first.0 second.0 g.0)
        right : sees vs b (E.Overflow V.SBorrow first.0 second.0)
        one : sees vs x first.0
        two : sees vs y second.0

      letters : (first : IsSame sees x u) (second : IsSame sees y v) (vs : Variables) (e f : Expr) → sees vs a e
          → sees vs b f → Letters first second vs
      letters first second vs e f s t =
          let o = g.1.operands vs e s in
          let m = i.operands vs f t in
          let h = first.1.1 vs o.0 m.0 o.1.1.0 m.1.1.0 in
          let k = second.1.1 vs o.1.0 m.1.0 o.1.1.1 m.1.1.1 in
          record {
            left = g.1.joins vs e first.0 second.0 s h.0 k.0;
            right = i.joins vs f first.0 second.0 t h.1 k.1;
            one = h.0;
            two = k.0;
          }

      pub other_fires : (op : CompareOp) → op ≡ C.Ne → AreTwo sees x y u v
          → FiredOfPair (ComparingOf R.C3) sees (P.Compare op) a b
          (M.Pair (P.SignedCompare I.SLt) (A.Place x) (A.Place y))
      other_fires op is both = record {
        fires = λ vs e f sized s t. (
            let first = both.0 in
            let second = both.1 in
            let l = letters first second vs e f s t in
            let left : Expr = sign first.0 second.0 g.0 in
            let right : Expr = E.Overflow V.SBorrow first.0 second.0 in
            let to : Expr = E.SignedCompare I.SLt first.0 second.0 in
            record {
              x = left;
              y = right;
              r = to;
              left = l.left;
              right = l.right;
              rule = subst (λ o. ComparingOf R.C3 vs.widths (E.Compare o left right) to) (sym is)
                  (C3_ne first.0 second.0 g.0 first.1.0 second.1.0 g.1.nothing, refl);
              makes = (first.0, (second.0, (refl, l.one, l.two)));
            });
      }

      pub equal_fires : (op : CompareOp) → op ≡ C.Eq → AreTwo sees x y u v
          → FiredOfPair (ComparingOf R.C3) sees (P.Compare op) a b
          (M.Pair (P.SignedCompare I.SLe) (A.Place y) (A.Place x))
      equal_fires op is both = record {
        fires = λ vs e f sized s t. (
            let first = both.0 in
            let second = both.1 in
            let l = letters first second vs e f s t in
            let left : Expr = sign first.0 second.0 g.0 in
            let right : Expr = E.Overflow V.SBorrow first.0 second.0 in
            let to : Expr = E.SignedCompare I.SLe second.0 first.0 in
            record {
              x = left;
              y = right;
              r = to;
              left = l.left;
              right = l.right;
              rule = subst (λ o. ComparingOf R.C3 vs.widths (E.Compare o left right) to) (sym is)
                  (C3_eq first.0 second.0 g.0 first.1.0 second.1.0 g.1.nothing, refl);
              makes = (second.0, (first.0, (refl, l.two, l.one)));
            });
      }
