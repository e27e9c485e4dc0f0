-- An equality beside an order of the same two letters.
use Rattle.std.proofs.Common.{◌≡◌, ◌⊎◌, ⊎_elim, inl, inr, ℕ, Bool, true, false, IsTrue, refl, sym, subst}
use Rattle.cmeaning.specs.declared.tree.ArithmeticOp.{ArithmeticOp}
use Rattle.cmeaning.specs.declared.tree.ArithmeticOp.TheVariants as O
use Rattle.cmeaning.specs.declared.tree.CompareOp.{CompareOp}
use Rattle.cmeaning.specs.declared.tree.CompareOp.TheVariants as C
use Rattle.cmeaning.specs.declared.tree.SignedCompareOp.TheVariants as I
use Rattle.cmeaning.specs.declared.tree.Expr.{Expr}
use Rattle.cmeaning.specs.declared.tree.Expr.TheVariants as E
use Rattle.rules.specs.Letters.{IsAtom}
use Rattle.rules.specs.Comparisons.{C4_signed, C4_signed_over, C4, C4_over, C5_signed, C5_signed_over, C5, C5_over}
use Rattle.rule_views.specs.declared.nodes.Pair.{Pair}
use Rattle.rule_views.specs.declared.nodes.Pair.TheVariants as P
use Rattle.rule_views.specs.declared.row.Row.{Row}
use Rattle.rule_views.specs.declared.row.Row.TheVariants as R
use Rattle.rule_views.specs.declared.view.Arg.TheVariants as A
use Rattle.rule_views.specs.declared.view.Made.{Made}
use Rattle.rule_views.specs.declared.view.Made.TheVariants as M
use Rattle.rule_views.specs.Nodes.{pair_node}
use Rattle.rule_views.specs.Rows.{ComparingOf}
use Rattle.rule_views.specs.Sees.{Sight, IsPair, NoPair, NoNode, IsSame}
use Rattle.rule_views.specs.Fires.{FiredOfPair}
use Rattle.rule_views.specs.Variables.{Variables}
use Rattle.rule_views.proofs.Seen.{pair_only}
use Rattle.rule_conditions.specs.Twice.{Joins, AreTwo, NoneTwo, AreSame, NoneSame, NoneJoined, IsJoined}

-- ---- rules, by the order

module _ (ws : ℕ → ℕ) (x y : Expr) (one : IsAtom x) (two : IsAtom y) where
  abbrev Both : Row → ArithmeticOp → CompareOp → Pair → Pair → Type 0
  Both row op equality order to =
      ComparingOf row ws (E.Arithmetic op (E.Compare equality x y) (pair_node order x y)) (pair_node to x y)
      × ComparingOf row ws (E.Arithmetic op (E.Compare equality y x) (pair_node order x y)) (pair_node to x y)

  equal_rule : (order to : Pair) → Joins C.Eq order to → Both R.C4 O.Or C.Eq order to
  equal_rule (P.Compare C.Lt) to j =
      subst (Both R.C4 O.Or C.Eq (P.Compare C.Lt)) (sym j) ((C4 x y one two, refl), (C4_over x y one two, refl))
  equal_rule (P.SignedCompare I.SLt) to j =
      subst (Both R.C4 O.Or C.Eq (P.SignedCompare I.SLt)) (sym j)
      ((C4_signed x y one two, refl), (C4_signed_over x y one two, refl))
  equal_rule (P.Compare C.Eq) to j = absurd j
  equal_rule (P.Compare C.Ne) to j = absurd j
  equal_rule (P.Compare C.Le) to j = absurd j
  equal_rule (P.SignedCompare I.SLe) to j = absurd j
  equal_rule (P.Arithmetic op) to j = absurd j
  equal_rule (P.Division op) to j = absurd j
  equal_rule (P.SignedDivision op) to j = absurd j
  equal_rule (P.Shift op) to j = absurd j
  equal_rule P.Concat to j = absurd j
  equal_rule (P.Overflow op) to j = absurd j

  other_rule : (order to : Pair) → Joins C.Ne order to → Both R.C5 O.And C.Ne order to
  other_rule (P.Compare C.Le) to j =
      subst (Both R.C5 O.And C.Ne (P.Compare C.Le)) (sym j) ((C5 x y one two, refl), (C5_over x y one two, refl))
  other_rule (P.SignedCompare I.SLe) to j =
      subst (Both R.C5 O.And C.Ne (P.SignedCompare I.SLe)) (sym j)
      ((C5_signed x y one two, refl), (C5_signed_over x y one two, refl))
  other_rule (P.Compare C.Eq) to j = absurd j
  other_rule (P.Compare C.Ne) to j = absurd j
  other_rule (P.Compare C.Lt) to j = absurd j
  other_rule (P.SignedCompare I.SLt) to j = absurd j
  other_rule (P.Arithmetic op) to j = absurd j
  other_rule (P.Division op) to j = absurd j
  other_rule (P.SignedDivision op) to j = absurd j
  other_rule (P.Shift op) to j = absurd j
  other_rule P.Concat to j = absurd j
  other_rule (P.Overflow op) to j = absurd j

-- ---- two letters in either order

module _ {T : Type 0} (sees : Sight T) (x y u v : T) where
  pub straight : AreTwo sees x y u v → AreSame sees x y u v
  straight h = inl h

  pub crossed : AreTwo sees x y v u → AreSame sees x y u v
  crossed h = inr h

  pub crossed_only : (p q : Bool) → NoneTwo sees x y u v (IsTrue p) → p ≡ false → NoneTwo sees x y v u (IsTrue q)
      → NoneSame sees x y u v (IsTrue q)
  crossed_only p q first differ second vs s t one two left right same =
      ⊎_elim (λ (h : sees vs x s × sees vs y t).
      let shown : p ≡ true = first vs s t one two left right h.0 h.1 in absurd cc)
      (λ (h : sees vs x t × sees vs y s). second vs t s two one right left h.0 h.1) same

module _ {T : Type 0} (sees : Sight T) (equality : CompareOp) (a b : T) where
  -- ---- none matches

  pub no_equality : NoNode sees a (P.Compare equality) → NoneJoined sees equality a b
  no_equality n vs order to x y j one two left right =
      ⊎_elim (λ (l : sees vs a (E.Compare equality x y)). n vs x y l)
      (λ (l : sees vs a (E.Compare equality y x)). n vs y x l) left

  pub no_order : NoPair sees b → NoneJoined sees equality a b
  no_order n vs order to x y j one two left right = n vs order x y right

  pub other_order : (u v : T) (order : Pair) → IsPair sees b order u v → ((to : Pair) → Joins equality order to → ⊥)
      → NoneJoined sees equality a b
  other_order u v order i n vs o to x y j one two left right =
      let e = pair_only sees b u v order i vs o x y right in
      n to (subst (λ k. Joins equality k to) e.0 j)

  module _ (x y u v : T)
      (order : Pair)
      (i : IsPair sees a (P.Compare equality) x y)
      (j : IsPair sees b order u v) where
    equal_seen : (vs : Variables) (s t : Expr) → sees vs a (E.Compare equality s t) → sees vs x s × sees vs y t
    equal_seen vs s t h = (pair_only sees a x y (P.Compare equality) i vs (P.Compare equality) s t h).1

    pub other_letters : (is : Bool) → NoneSame sees x y u v (IsTrue is) → is ≡ false → NoneJoined sees equality a b
    other_letters is n differ vs o to s t k one two left right =
        let e = pair_only sees b u v order j vs o s t right in
        let same : (sees vs x s × sees vs y t) ⊎ (sees vs x t × sees vs y s) =
        ⊎_elim (λ (l : sees vs a (E.Compare equality s t)). inl (equal_seen vs s t l))
        (λ (l : sees vs a (E.Compare equality t s)). inr (equal_seen vs t s l)) left in
        let shown : is ≡ true = n vs s t one two e.1.0 e.1.1 same in absurd cc

    -- ---- an answer

    pub is_joined : (to : Pair) → Joins equality order to → AreSame sees x y u v
        → IsJoined sees equality a b (M.Pair to (A.Place u) (A.Place v))
    is_joined to k same = record {
      seen = λ vs e f s t. (
          let m = i.operands vs e s in
          let n = j.operands vs f t in
          ⊎_elim (λ (p : IsSame sees x u × IsSame sees y v).
          let g = p.0.1.1 vs m.0 n.0 m.1.1.0 n.1.1.0 in
          let h = p.1.1.1 vs m.1.0 n.1.0 m.1.1.1 n.1.1.1 in
          record {
            order = order;
            to = to;
            x = p.0.0;
            y = p.1.0;
            joins = k;
            one = p.0.1.0;
            two = p.1.1.0;
            left = inl (i.joins vs e p.0.0 p.1.0 s g.0 h.0);
            right = j.joins vs f p.0.0 p.1.0 t g.1 h.1;
            makes = (p.0.0, (p.1.0, (refl, g.1, h.1)));
          })
          (λ (p : IsSame sees x v × IsSame sees y u).
          let g = p.0.1.1 vs m.0 n.1.0 m.1.1.0 n.1.1.1 in
          let h = p.1.1.1 vs m.1.0 n.0 m.1.1.1 n.1.1.0 in
          record {
            order = order;
            to = to;
            x = p.1.0;
            y = p.0.0;
            joins = k;
            one = p.1.1.0;
            two = p.0.1.0;
            left = inr (i.joins vs e p.0.0 p.1.0 s g.0 h.0);
            right = j.joins vs f p.1.0 p.0.0 t h.1 g.1;
            makes = (p.1.0, (p.0.0, (refl, h.1, g.1)));
          })
          same);
    }

module _ {T : Type 0} (sees : Sight T) (op : ArithmeticOp) (a b : T) (made : Made T) where
  -- an equality beside an order fires by the rule of its row
  fires_by : (row : Row) (outer : ArithmeticOp) (equality : CompareOp) → op ≡ outer
      → ((ws : ℕ → ℕ) (x y : Expr) → IsAtom x → IsAtom y → (order to : Pair) → Joins equality order to
      → ComparingOf row ws (E.Arithmetic outer (E.Compare equality x y) (pair_node order x y)) (pair_node to x y)
      × ComparingOf row ws (E.Arithmetic outer (E.Compare equality y x) (pair_node order x y)) (pair_node to x y))
      → IsJoined sees equality a b made → FiredOfPair (ComparingOf row) sees (P.Arithmetic op) a b made
  fires_by row outer equality is rule joined = record {
    fires = λ vs e f sized s t. (
        let n = joined.seen vs e f s t in
        let r = rule vs.widths n.x n.y n.one n.two n.order n.to n.joins in
        let right : Expr = pair_node n.order n.x n.y in
        let to : Expr = pair_node n.to n.x n.y in
        let at : (l : Expr) → ComparingOf row vs.widths (E.Arithmetic outer l right) to
        → ComparingOf row vs.widths (E.Arithmetic op l right) to =
        λ l h. subst (λ o. ComparingOf row vs.widths (E.Arithmetic o l right) to) (sym is) h in
        ⊎_elim (λ (l : sees vs a (E.Compare equality n.x n.y)). record {
          x = E.Compare equality n.x n.y;
          y = right;
          r = to;
          left = l;
          right = n.right;
          rule = at (E.Compare equality n.x n.y) r.0;
          makes = n.makes;
        })
        (λ (l : sees vs a (E.Compare equality n.y n.x)). record {
          x = E.Compare equality n.y n.x;
          y = right;
          r = to;
          left = l;
          right = n.right;
          rule = at (E.Compare equality n.y n.x) r.1;
          makes = n.makes;
        })
        n.left);
  }

  pub equal_fires : op ≡ O.Or → IsJoined sees C.Eq a b made
      → FiredOfPair (ComparingOf R.C4) sees (P.Arithmetic op) a b made
  equal_fires is joined = fires_by R.C4 O.Or C.Eq is equal_rule joined

  pub other_fires : op ≡ O.And → IsJoined sees C.Ne a b made
      → FiredOfPair (ComparingOf R.C5) sees (P.Arithmetic op) a b made
  other_fires is joined = fires_by R.C5 O.And C.Ne is other_rule joined
