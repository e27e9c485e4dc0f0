-- Comparisons with a constant, and that no comparison matches.
use Rattle.std.proofs.Common.{◌≡◌, ℕ, Option, Some, None, MatchOption, inl, inr, refl, sym, ◌∙◌, subst}
use Rattle.bits_core.specs.declared.word.Word.{Word}
use Rattle.cmeaning.specs.declared.tree.ArithmeticOp.{ArithmeticOp}
use Rattle.cmeaning.specs.declared.tree.ArithmeticOp.TheVariants as O
use Rattle.cmeaning.specs.declared.tree.CompareOp.{CompareOp}
use Rattle.cmeaning.specs.declared.tree.CompareOp.TheVariants as C
use Rattle.cmeaning.specs.declared.tree.SignedCompareOp.{SignedCompareOp}
use Rattle.cmeaning.specs.declared.tree.SignedCompareOp.TheVariants as I
use Rattle.cmeaning.specs.declared.tree.OverflowOp.{OverflowOp}
use Rattle.cmeaning.specs.declared.tree.OverflowOp.TheVariants as V
use Rattle.cmeaning.specs.declared.tree.Expr.{Expr}
use Rattle.cmeaning.specs.declared.tree.Expr.TheVariants as E
use Rattle.rules.specs.Letters.{IsEquality, Cancels, Folds}
use Rattle.rules.specs.Comparisons.{Comparing, C1_sub, C1_xor, C2_add, C2_add_over, C2_sub, C3_ne, C3_eq, C4_signed, C4_signed_over, C4, C4_over, C5_signed, C5_signed_over, C5, C5_over, C6, C7_below_zero, C7_from_zero, C7_below_one, C7_to_zero, C8, C8_signed}
use Rattle.rule_views.specs.declared.nodes.Pair.{Pair}
use Rattle.rule_views.specs.declared.nodes.Pair.TheVariants as P
use Rattle.rule_views.specs.declared.row.Row.{Row}
use Rattle.rule_views.specs.declared.row.Row.TheVariants as R
use Rattle.rule_views.specs.declared.view.Arg.TheVariants as A
use Rattle.rule_views.specs.declared.view.Found.{Found}
use Rattle.rule_views.specs.declared.view.Made.{Made}
use Rattle.rule_views.specs.declared.view.Made.TheVariants as M
use Rattle.rule_views.specs.Nodes.{pair_node}
use Rattle.rule_views.specs.Rows.{ComparingOf}
use Rattle.rule_views.specs.Beside.{ConstOn, OnRight, OnLeft, IsBeside, NoArithmetic, IsSum}
use Rattle.rule_views.specs.Sees.{Sight, IsSized, IsPair, IsConstant, NoConstant, NoAtom, NoZero}
use Rattle.rule_views.specs.Fires.{FiredWith, FiredOfPair, NoneOfPair}
use Rattle.rule_views.specs.Variables.{Variables}
use Rattle.rule_views.proofs.Seen.{pair_only, constant_only}
use Rattle.rule_views.proofs.Fire as F
use Rattle.rule_conditions.specs.Twice.{NoneJoined, NoneOfTwo}
use Rattle.rule_conditions.specs.Compared.{NoDifference, Moves, NoneComparedBy, NoneComparedWith, NoneCompared}

-- ---- rules, by the operand

module _ (ws : ℕ → ℕ) where
  difference_rule : (op : CompareOp) (inner : ArithmeticOp) (x y : Expr) (c : Word) → IsEquality op → Cancels inner
      → c.value ≡ 0 → ComparingOf R.C1 ws (E.Compare op (E.Arithmetic inner x y) (E.Const c)) (E.Compare op x y)
  difference_rule op O.Sub x y c q k z = (C1_sub op x y c q z, refl)
  difference_rule op O.Xor x y c q k z = (C1_xor op x y c q z, refl)
  difference_rule op O.Add x y c q k z = absurd k
  difference_rule op O.Mul x y c q k z = absurd k
  difference_rule op O.And x y c q k z = absurd k
  difference_rule op O.Or x y c q k z = absurd k

  abbrev Moved : CompareOp → Expr → Expr → Word → Word → Type 0
  Moved op l x d e = ComparingOf R.C2 ws (E.Compare op l (E.Const d)) (E.Compare op x (E.Const e))

  added_rule : (op : CompareOp) (x : Expr) (c d e : Word) (l : Expr) → IsEquality op → ConstOn O.Add x c l
      → Folds O.Sub d c e → Moved op l x d e
  added_rule op x c d e l q (OnRight o y f) w = (C2_add op y f d e q w, refl)
  added_rule op x c d e l q (OnLeft o y f h) w = (C2_add_over op y f d e q w, refl)

  taken_rule : (op : CompareOp) (x : Expr) (c d e : Word) (l : Expr) → IsEquality op → ConstOn O.Sub x c l
      → Folds O.Add d c e → Moved op l x d e
  taken_rule op x c d e l q (OnRight o y f) w = (C2_sub op y f d e q w, refl)
  taken_rule op x c d e l q (OnLeft o y f h) w = absurd h

  moved_rule : (op : CompareOp) (inner : ArithmeticOp) (x : Expr) (c d e : Word) (l : Expr) → IsEquality op
      → IsSum inner → ConstOn inner x c l → Moves inner c d e → Moved op l x d e
  moved_rule op O.Add x c d e l q k on m = added_rule op x c d e l q on m
  moved_rule op O.Sub x c d e l q k on m = taken_rule op x c d e l q on m
  moved_rule op O.Mul x c d e l q k on m = absurd k
  moved_rule op O.And x c d e l q k on m = absurd k
  moved_rule op O.Or x c d e l q k on m = absurd k
  moved_rule op O.Xor x c d e l q k on m = absurd k

module _ {T : Type 0} (sees : Sight T) where
  -- ---- what functions answer

  module _ (op : CompareOp) (a : T) (d : Word) where
    pub difference_fires : (inner : ArithmeticOp) (x y : T) → IsEquality op → d.value ≡ 0 → Cancels inner
        → IsPair sees a (P.Arithmetic inner) x y
        → FiredWith (ComparingOf R.C1) sees (P.Compare op) a d (M.Pair (P.Compare op) (A.Place x) (A.Place y))
    difference_fires inner x y q z k i = record {
      fires = λ vs e sized s. (
          let o = i.operands vs e s in
          record {
            x = E.Arithmetic inner o.0 o.1.0;
            r = E.Compare op o.0 o.1.0;
            left = i.joins vs e o.0 o.1.0 s o.1.1.0 o.1.1.1;
            rule = difference_rule vs.widths op inner o.0 o.1.0 d q k z;
            makes = (o.0, (o.1.0, (refl, o.1.1.0, o.1.1.1)));
          });
    }

    alike : (inner : ArithmeticOp) (vs : Variables) (x l : Expr) (c : Word) → ConstOn inner x c l
        → IsSized vs.widths (E.Compare op l (E.Const d)) → c.width.bytes ≡ d.width.bytes
    alike inner vs x l c on sized =
        let w = F.alike_tested vs.widths op l (E.Const d) sized in
        F.beside_wide vs.widths inner x c l w.0 on w.1.0 ∙ sym (F.const_wide vs.widths d w.0 w.1.1)

    pub moved_fires : (inner : ArithmeticOp) (x : T) (c e : Word) → IsEquality op → IsSum inner
        → IsBeside sees a inner x c → (c.width.bytes ≡ d.width.bytes → Moves inner c d e)
        → FiredWith (ComparingOf R.C2) sees (P.Compare op) a d (M.Pair (P.Compare op) (A.Place x) (A.Const e))
    moved_fires inner x c e q k beside m = record {
      fires = λ vs u sized s. (
          let h = beside.seen vs u s in
          let wide = alike inner vs h.x h.l c h.on (sized h.l h.seen) in
          record {
            x = h.l;
            r = E.Compare op h.x (E.Const e);
            left = h.seen;
            rule = moved_rule vs.widths op inner h.x c d e h.l q k h.on (m wide);
            makes = (h.x, (E.Const e, (refl, h.letter, refl)));
          });
    }

  -- ---- none matches

  pub not_arithmetic : (at : T) → NoArithmetic sees at → NoDifference sees at
  not_arithmetic at n vs op x y k s = n vs op x y s

  pub no_difference : (at x y : T) (inner : ArithmeticOp) → IsPair sees at (P.Arithmetic inner) x y
      → (Cancels inner → ⊥) → NoDifference sees at
  no_difference at x y inner i n vs op s t k h =
      let e = pair_only sees at x y (P.Arithmetic inner) i vs (P.Arithmetic op) s t h in
      let node : P.Arithmetic op ≡ P.Arithmetic inner = e.0 in
      let same : op ≡ inner = cc in
      n (subst Cancels same k)

  module _ (op : CompareOp) (a b : T) where
    pub none_at_constant : (c : Word) → IsConstant sees b c → NoneComparedBy sees op a c → NoneComparedWith sees op a b
    none_at_constant c k n = record {
      none = λ vs d s. subst (NoneComparedBy sees op a) (sym (constant_only sees b c k vs d s)) n;
    }

    pub none_at_other : NoConstant sees b → NoneComparedWith sees op a b
    none_at_other n = record { none = λ vs c s. absurd (n vs c s) }

    pub constant_fires : (c : Word) (row : Row) (made : Made T) → IsConstant sees b c
        → FiredWith (ComparingOf row) sees (P.Compare op) a c made
        → FiredOfPair (ComparingOf row) sees (P.Compare op) a b made
    constant_fires c row made k f = F.with_constant sees (ComparingOf row) (P.Compare op) a b c made k f

  -- whatever the node is
  record NoneAtAll (p : Pair) (a b : T) : Type 0 where
    compared : (op : CompareOp) → p ≡ P.Compare op → NoneCompared sees op a b
    signed : (op : SignedCompareOp) → p ≡ P.SignedCompare op → NoAtom sees a b
    carried : (op : OverflowOp) → p ≡ P.Overflow op → NoZero sees b
    joined : (op : ArithmeticOp) → p ≡ P.Arithmetic op → NoneOfTwo sees op a b

  module _ (p : Pair) (a b : T) (n : NoneAtAll p a b) (vs : Variables) (x y : Expr) (s : sees vs a x) (t : sees vs b y) where
    at : (q : Pair) (u v : Expr) → pair_node q u v ≡ pair_node p x y → (q ≡ p) × (sees vs a u × sees vs b v)
    at = F.two_seen sees p a b vs x y s t

    by : (op : CompareOp) (u : Expr) (c : Word) → E.Compare op u (E.Const c) ≡ pair_node p x y
        → NoneComparedBy sees op a c × sees vs a u
    by op u c is =
        let e = at (P.Compare op) u (E.Const c) is in
        ((n.compared op (sym e.0)).constant.none vs c e.1.1, e.1.0)

    moved : (op : CompareOp) (inner : ArithmeticOp) (u l : Expr) (c d : Word) → IsEquality op → IsSum inner
        → ConstOn inner u c l → E.Compare op l (E.Const d) ≡ pair_node p x y → ⊥
    moved op inner u l c d q k on is = let e = by op l d is in e.0.sums q vs inner u c l k on e.1

    less : (order to : Pair) (l u v : Expr) → E.Arithmetic O.Or l (pair_node order u v) ≡ pair_node p x y
        → (sees vs a l → sees vs b (pair_node order u v) → NoneJoined sees C.Eq a b → ⊥) → ⊥
    less order to l u v is f =
        let e = at (P.Arithmetic O.Or) l (pair_node order u v) is in
        f e.1.0 e.1.1 ((n.joined O.Or (sym e.0)).less refl)

    at_most : (order to : Pair) (l u v : Expr) → E.Arithmetic O.And l (pair_node order u v) ≡ pair_node p x y
        → (sees vs a l → sees vs b (pair_node order u v) → NoneJoined sees C.Ne a b → ⊥) → ⊥
    at_most order to l u v is f =
        let e = at (P.Arithmetic O.And) l (pair_node order u v) is in
        f e.1.0 e.1.1 ((n.joined O.And (sym e.0)).at_most refl)

    same : (q : Pair) (u : Expr) → pair_node q u u ≡ pair_node p x y → (q ≡ p) × (sees vs a u × sees vs b u)
    same q u is = at q u u is

    abbrev lt : Pair
    lt = P.Compare C.Lt

    abbrev le : Pair
    le = P.Compare C.Le

    abbrev slt : Pair
    slt = P.SignedCompare I.SLt

    abbrev sle : Pair
    sle = P.SignedCompare I.SLe

    no_comparing : (l r : Expr) → Comparing l r → l ≡ pair_node p x y → ⊥
    no_comparing l r (C1_sub op u v c q z) is =
        let e = by op (E.Arithmetic O.Sub u v) c is in e.0.differs q z vs O.Sub u v tt e.1
    no_comparing l r (C1_xor op u v c q z) is =
        let e = by op (E.Arithmetic O.Xor u v) c is in e.0.differs q z vs O.Xor u v tt e.1
    no_comparing l r (C2_add op u c d e q f) is = moved op O.Add u _ c d q tt (OnRight O.Add u c) is
    no_comparing l r (C2_add_over op u c d e q f) is = moved op O.Add u _ c d q tt (OnLeft O.Add u c tt) is
    no_comparing l r (C2_sub op u c d e q f) is = moved op O.Sub u _ c d q tt (OnRight O.Sub u c) is
    no_comparing l r (C3_ne u v c g h z) is =
        let e = at (P.Compare C.Ne) _ (E.Overflow V.SBorrow u v) is in
        (n.compared C.Ne (sym e.0)).borrow tt vs u v c g h z e.1.0 e.1.1
    no_comparing l r (C3_eq u v c g h z) is =
        let e = at (P.Compare C.Eq) _ (E.Overflow V.SBorrow u v) is in
        (n.compared C.Eq (sym e.0)).borrow tt vs u v c g h z e.1.0 e.1.1
    no_comparing l r (C4_signed u v g h) is =
        less slt sle (E.Compare C.Eq u v) u v is (λ i j k. k vs slt sle u v refl g h (inl i) j)
    no_comparing l r (C4_signed_over u v g h) is =
        less slt sle (E.Compare C.Eq v u) u v is (λ i j k. k vs slt sle u v refl g h (inr i) j)
    no_comparing l r (C4 u v g h) is =
        less lt le (E.Compare C.Eq u v) u v is (λ i j k. k vs lt le u v refl g h (inl i) j)
    no_comparing l r (C4_over u v g h) is =
        less lt le (E.Compare C.Eq v u) u v is (λ i j k. k vs lt le u v refl g h (inr i) j)
    no_comparing l r (C5_signed u v g h) is =
        at_most sle slt (E.Compare C.Ne u v) u v is (λ i j k. k vs sle slt u v refl g h (inl i) j)
    no_comparing l r (C5_signed_over u v g h) is =
        at_most sle slt (E.Compare C.Ne v u) u v is (λ i j k. k vs sle slt u v refl g h (inr i) j)
    no_comparing l r (C5 u v g h) is =
        at_most le lt (E.Compare C.Ne u v) u v is (λ i j k. k vs le lt u v refl g h (inl i) j)
    no_comparing l r (C5_over u v g h) is =
        at_most le lt (E.Compare C.Ne v u) u v is (λ i j k. k vs le lt u v refl g h (inr i) j)
    no_comparing l r (C6 op u c z v w) is =
        let e = at (P.Overflow op) u (E.Const c) is in n.carried op (sym e.0) vs c v e.1.1
    no_comparing l r (C7_below_zero u c z v w) is = (by C.Lt u c is).0.below_zero refl v
    no_comparing l r (C7_from_zero u c o v w) is =
        let e = at (P.Compare C.Le) (E.Const c) u is in
        (n.compared C.Le (sym e.0)).from_zero refl vs c v e.1.0
    no_comparing l r (C7_below_one u c z v w) is = (by C.Lt u c is).0.below_one refl v
    no_comparing l r (C7_to_zero u c v) is = (by C.Le u c is).0.to_zero refl v
    no_comparing l r (C8 op u o g w) is =
        let e = at (P.Compare op) u u is in (n.compared op (sym e.0)).same vs u g e.1.0 e.1.1
    no_comparing l r (C8_signed op u o g w) is =
        let e = at (P.SignedCompare op) u u is in n.signed op (sym e.0) vs u g e.1.0 e.1.1

  module _ (p : Pair) (a b : T) where
    none : NoneAtAll p a b → NoneOfPair (λ ws. Comparing) sees p a b
    none n = record {
      none = λ vs x y r sized rule s t. no_comparing p a b n vs x y s t (pair_node p x y) r rule refl;
    }

    pub none_compared : (op : CompareOp) → p ≡ P.Compare op → NoneCompared sees op a b
        → NoneOfPair (λ ws. Comparing) sees p a b
    none_compared op is n = none (record {
      compared = λ q e. let h : P.Compare op ≡ P.Compare q = sym is ∙ e in
          let same : op ≡ q = cc in subst (λ o. NoneCompared sees o a b) same n;
      signed = λ q e. let h : P.Compare op ≡ P.SignedCompare q = sym is ∙ e in absurd cc;
      carried = λ q e. let h : P.Compare op ≡ P.Overflow q = sym is ∙ e in absurd cc;
      joined = λ q e. let h : P.Compare op ≡ P.Arithmetic q = sym is ∙ e in absurd cc;
    })

    pub none_signed : (op : SignedCompareOp) → p ≡ P.SignedCompare op → NoAtom sees a b
        → NoneOfPair (λ ws. Comparing) sees p a b
    none_signed op is n = none (record {
      compared = λ q e. let h : P.SignedCompare op ≡ P.Compare q = sym is ∙ e in absurd cc;
      signed = λ q e. n;
      carried = λ q e. let h : P.SignedCompare op ≡ P.Overflow q = sym is ∙ e in absurd cc;
      joined = λ q e. let h : P.SignedCompare op ≡ P.Arithmetic q = sym is ∙ e in absurd cc;
    })

    pub none_carried : (op : OverflowOp) → p ≡ P.Overflow op → NoZero sees b
        → NoneOfPair (λ ws. Comparing) sees p a b
    none_carried op is n = none (record {
      compared = λ q e. let h : P.Overflow op ≡ P.Compare q = sym is ∙ e in absurd cc;
      signed = λ q e. let h : P.Overflow op ≡ P.SignedCompare q = sym is ∙ e in absurd cc;
      carried = λ q e. n;
      joined = λ q e. let h : P.Overflow op ≡ P.Arithmetic q = sym is ∙ e in absurd cc;
    })

    pub none_joined : (op : ArithmeticOp) → p ≡ P.Arithmetic op → NoneOfTwo sees op a b
        → NoneOfPair (λ ws. Comparing) sees p a b
    none_joined op is n = none (record {
      compared = λ q e. let h : P.Arithmetic op ≡ P.Compare q = sym is ∙ e in absurd cc;
      signed = λ q e. let h : P.Arithmetic op ≡ P.SignedCompare q = sym is ∙ e in absurd cc;
      carried = λ q e. let h : P.Arithmetic op ≡ P.Overflow q = sym is ∙ e in absurd cc;
      joined = λ q e. let h : P.Arithmetic op ≡ P.Arithmetic q = sym is ∙ e in
          let same : op ≡ q = cc in subst (λ o. NoneOfTwo sees o a b) same n;
    })

    pub joined_found : (op : ArithmeticOp) → p ≡ P.Arithmetic op → (r : Option (Found T))
        → MatchOption r (NoneOfTwo sees op a b)
        (λ f. FiredOfPair (ComparingOf f.row) sees (P.Arithmetic op) a b f.made)
        → MatchOption r (NoneOfPair (λ ws. Comparing) sees p a b)
        (λ f. FiredOfPair (ComparingOf f.row) sees p a b f.made)
    joined_found op is None n = none_joined op is n
    joined_found op is (Some f) h = subst (λ q. FiredOfPair (ComparingOf f.row) sees q a b f.made) (sym is) h

    pub none_other : ((op : CompareOp) → p ≡ P.Compare op → ⊥) → ((op : SignedCompareOp) → p ≡ P.SignedCompare op → ⊥)
        → ((op : OverflowOp) → p ≡ P.Overflow op → ⊥) → ((op : ArithmeticOp) → p ≡ P.Arithmetic op → ⊥)
        → NoneOfPair (λ ws. Comparing) sees p a b
    none_other k l m n = none (record {
      compared = λ q e. absurd (k q e);
      signed = λ q e. absurd (l q e);
      carried = λ q e. absurd (m q e);
      joined = λ q e. absurd (n q e);
    })
