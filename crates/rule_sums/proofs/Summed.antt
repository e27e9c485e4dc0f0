-- Sums, differences, products, bits and divisions.
use Rattle.std.proofs.Common.{◌≡◌, ℕ, ◌-◌, ◌%◌, refl, sym, ap, ◌∙◌, subst}
use Rattle.std.proofs.Math.Nat.{zero-mod}
use Rattle.bits_core.specs.declared.word.Width.{Width}
use Rattle.bits_core.specs.declared.word.Word.{Word}
use Rattle.bits_core.specs.Value.{limit}
use Rattle.cmeaning.specs.declared.tree.UnaryOp.{UnaryOp}
use Rattle.cmeaning.specs.declared.tree.UnaryOp.TheVariants as U
use Rattle.cmeaning.specs.declared.tree.ArithmeticOp.{ArithmeticOp}
use Rattle.cmeaning.specs.declared.tree.ArithmeticOp.TheVariants as O
use Rattle.cmeaning.specs.declared.tree.DivisionOp.TheVariants as D
use Rattle.cmeaning.specs.declared.tree.SignedDivisionOp.TheVariants as I
use Rattle.cmeaning.specs.declared.tree.Expr.{Expr}
use Rattle.cmeaning.specs.declared.tree.Expr.TheVariants as E
use Rattle.rules.specs.Letters.{IsWide, Folds, KeepsAtZero, FallsAtZero, Cancels, RepeatsItself, IsBitwise, Commutes}
use Rattle.rules.specs.Arithmetic.{Summing, A1, A2_mul, A2_and, A2_div, A2_sdiv, A3, A4_none, A4_same, A5_add_add, A5_add_add_over, A5_sub_sub, A5_add_sub, A5_add_sub_over, A5_sub_add, A6, A6_over, A7, A8_add, A8_sub}
use Rattle.rules.proofs.Arithmetic.{bitwise_commutes}
use Rattle.rule_views.specs.declared.nodes.Single.{Single}
use Rattle.rule_views.specs.declared.nodes.Single.TheVariants as S
use Rattle.rule_views.specs.declared.nodes.Pair.{Pair}
use Rattle.rule_views.specs.declared.nodes.Pair.TheVariants as P
use Rattle.rule_views.specs.declared.row.Row.{Row}
use Rattle.rule_views.specs.declared.row.Row.TheVariants as R
use Rattle.rule_views.specs.declared.view.Arg.TheVariants as A
use Rattle.rule_views.specs.declared.view.Made.{Made}
use Rattle.rule_views.specs.declared.view.Made.TheVariants as M
use Rattle.rule_views.specs.Nodes.{single_node, pair_node}
use Rattle.rule_views.specs.Rows.{SummingOf}
use Rattle.rule_views.specs.Beside.{ConstOn, OnRight, OnLeft, IsBeside, IsSum}
use Rattle.rule_views.specs.Sees.{Sight, IsSized, IsWideAt, IsConstant, NoConstant, IsSame, IsSingle}
use Rattle.rule_views.specs.Fires.{FiredWith, FiredOfPair, FiredOfSingle, NoneOfPair, NoneOfSingle}
use Rattle.rule_views.specs.Variables.{Variables}
use Rattle.rule_views.proofs.Layers.{same_pair, same_single, pair_no_single}
use Rattle.rule_views.proofs.Seen.{constant_only}
use Rattle.rule_views.proofs.Fire as F
use Rattle.rule_sums.specs.Sides.{Leaves, NoUnaryOf, Nests, AreOpposite, NoneByOp, NoneBy, NoneByConstant, NoneOfTwo}

-- ---- rules, by what they ask

module _ (ws : ℕ → ℕ) where
  one_rule : (p : Pair) (x : Expr) (c : Word) → Leaves p c → SummingOf R.A2 ws (pair_node p x (E.Const c)) x
  one_rule (P.Arithmetic O.Mul) x c h = (A2_mul x c h, refl)
  one_rule (P.Arithmetic O.And) x c h = (A2_and x c h, refl)
  one_rule (P.Arithmetic O.Add) x c h = absurd h
  one_rule (P.Arithmetic O.Sub) x c h = absurd h
  one_rule (P.Arithmetic O.Or) x c h = absurd h
  one_rule (P.Arithmetic O.Xor) x c h = absurd h
  one_rule (P.Division D.Div) x c h = (A2_div x c h, refl)
  one_rule (P.Division D.Rem) x c h = absurd h
  one_rule (P.SignedDivision I.SDiv) x c h = (A2_sdiv x c h, refl)
  one_rule (P.SignedDivision I.SRem) x c h = absurd h
  one_rule (P.Shift op) x c h = absurd h
  one_rule (P.Compare op) x c h = absurd h
  one_rule (P.SignedCompare op) x c h = absurd h
  one_rule P.Concat x c h = absurd h
  one_rule (P.Overflow op) x c h = absurd h

  abbrev Nested : ArithmeticOp → ArithmeticOp → Expr → Expr → Word → Word → ArithmeticOp → Word → Type 0
  Nested inner op l x c d to e = SummingOf R.A5 ws (E.Arithmetic op l (E.Const d)) (E.Arithmetic to x (E.Const e))

  made_to : (inner op : ArithmeticOp) (l x : Expr) (c d : Word) (to to' : ArithmeticOp) (e : Word) → to ≡ to'
      → Nested inner op l x c d to' e → Nested inner op l x c d to e
  made_to inner op l x c d to to' e is r = subst (λ o. Nested inner op l x c d o e) (sym is) r

  module _ (d e : Word) where
    add_add : (x : Expr) (c : Word) (l : Expr) → ConstOn O.Add x c l → Folds O.Add c d e
        → Nested O.Add O.Add l x c d O.Add e
    add_add x c l (OnRight q y f) w = (A5_add_add y f d e w, refl)
    add_add x c l (OnLeft q y f h) w = (A5_add_add_over y f d e w, refl)

    add_sub : (x : Expr) (c : Word) (l : Expr) → ConstOn O.Add x c l → Folds O.Sub c d e
        → Nested O.Add O.Sub l x c d O.Add e
    add_sub x c l (OnRight q y f) w = (A5_add_sub y f d e w, refl)
    add_sub x c l (OnLeft q y f h) w = (A5_add_sub_over y f d e w, refl)

    sub_add : (x : Expr) (c : Word) (l : Expr) → ConstOn O.Sub x c l → Folds O.Sub d c e
        → Nested O.Sub O.Add l x c d O.Add e
    sub_add x c l (OnRight q y f) w = (A5_sub_add y f d e w, refl)
    sub_add x c l (OnLeft q y f h) w = absurd h

    sub_sub : (x : Expr) (c : Word) (l : Expr) → ConstOn O.Sub x c l → Folds O.Add c d e
        → Nested O.Sub O.Sub l x c d O.Sub e
    sub_sub x c l (OnRight q y f) w = (A5_sub_sub y f d e w, refl)
    sub_sub x c l (OnLeft q y f h) w = absurd h

    bits_rule : (op : ArithmeticOp) (x : Expr) (c : Word) (l : Expr) → IsBitwise op → ConstOn op x c l → Folds op c d e
        → SummingOf R.A6 ws (E.Arithmetic op l (E.Const d)) (E.Arithmetic op x (E.Const e))
    bits_rule op x c l b (OnRight q y f) w = (A6 q y f d e b w, refl)
    bits_rule op x c l b (OnLeft q y f h) w = (A6_over q y f d e b w, refl)

  sum_rule : (inner op : ArithmeticOp) (l x : Expr) (c d : Word) (to : ArithmeticOp) (e : Word) → IsSum inner → IsSum op
      → ConstOn inner x c l → Nests inner op c d to e → Nested inner op l x c d to e
  sum_rule O.Add O.Add l x c d to e i k on n = made_to O.Add O.Add l x c d to O.Add e n.0 (add_add d e x c l on n.1)
  sum_rule O.Add O.Sub l x c d to e i k on n = made_to O.Add O.Sub l x c d to O.Add e n.0 (add_sub d e x c l on n.1)
  sum_rule O.Sub O.Add l x c d to e i k on n = made_to O.Sub O.Add l x c d to O.Add e n.0 (sub_add d e x c l on n.1)
  sum_rule O.Sub O.Sub l x c d to e i k on n = made_to O.Sub O.Sub l x c d to O.Sub e n.0 (sub_sub d e x c l on n.1)
  sum_rule O.Add O.Mul l x c d to e i k on n = absurd k
  sum_rule O.Add O.And l x c d to e i k on n = absurd k
  sum_rule O.Add O.Or l x c d to e i k on n = absurd k
  sum_rule O.Add O.Xor l x c d to e i k on n = absurd k
  sum_rule O.Sub O.Mul l x c d to e i k on n = absurd k
  sum_rule O.Sub O.And l x c d to e i k on n = absurd k
  sum_rule O.Sub O.Or l x c d to e i k on n = absurd k
  sum_rule O.Sub O.Xor l x c d to e i k on n = absurd k
  sum_rule O.Mul op l x c d to e i k on n = absurd i
  sum_rule O.And op l x c d to e i k on n = absurd i
  sum_rule O.Or op l x c d to e i k on n = absurd i
  sum_rule O.Xor op l x c d to e i k on n = absurd i

  opposite_rule : (op to : ArithmeticOp) (x y : Expr) → IsSum op → AreOpposite op to
      → SummingOf R.A8 ws (E.Arithmetic op x (E.Unary U.Neg y)) (E.Arithmetic to x y)
  opposite_rule O.Add to x y i is =
      subst (λ o. SummingOf R.A8 ws (E.Arithmetic O.Add x (E.Unary U.Neg y)) (E.Arithmetic o x y)) (sym is)
      (A8_add x y, refl)
  opposite_rule O.Sub to x y i is =
      subst (λ o. SummingOf R.A8 ws (E.Arithmetic O.Sub x (E.Unary U.Neg y)) (E.Arithmetic o x y)) (sym is)
      (A8_sub x y, refl)
  opposite_rule O.Mul to x y i is = absurd i
  opposite_rule O.And to x y i is = absurd i
  opposite_rule O.Or to x y i is = absurd i
  opposite_rule O.Xor to x y i is = absurd i

-- ---- what functions answer

module _ {T : Type 0} (sees : Sight T) where
  module _ (op : ArithmeticOp) (a : T) (c : Word) where
    pub nothing_fires : KeepsAtZero op → c.value ≡ 0
        → FiredWith (SummingOf R.A1) sees (P.Arithmetic op) a c (M.Is (A.Place a))
    nothing_fires k z = record {
      fires = λ vs x sized s. record { x = x; r = x; left = s; rule = (A1 op x c k z, refl); makes = s };
    }

    pub zero_fires : FallsAtZero op → c.value ≡ 0
        → FiredWith (SummingOf R.A3) sees (P.Arithmetic op) a c (M.Is (A.Const c))
    zero_fires k z = record {
      fires = λ vs x sized s. record { x = x; r = E.Const c; left = s; rule = (A3 op x c k z, refl); makes = refl };
    }

  pub one_fires : (p : Pair) (a : T) (c : Word) → Leaves p c
      → FiredWith (SummingOf R.A2) sees p a c (M.Is (A.Place a))
  one_fires p a c h = record {
    fires = λ vs x sized s. record { x = x; r = x; left = s; rule = one_rule vs.widths p x c h; makes = s };
  }

  module _ (op : ArithmeticOp) (a b : T) where
    pub cancelled_fires : (w : Width) (z : Word) → Cancels op → IsSame sees a b → IsWideAt sees a w.bytes → z.width ≡ w
        → z.value ≡ 0 % limit w.bytes → FiredOfPair (SummingOf R.A4) sees (P.Arithmetic op) a b (M.Is (A.Const z))
    cancelled_fires w z k same wide is zero =
        let width : w.bytes ≡ z.width.bytes = ap (λ (v : Width). v.bytes) (sym is) in
        record {
          fires = λ vs x y sized s t. (
              let h = same.1.1 vs x y s t in
              record {
                x = same.0;
                y = same.0;
                r = E.Const z;
                left = h.0;
                right = h.1;
                rule = (
                  A4_none op same.0 z k same.1.0 (subst (IsWide vs.widths same.0) width (wide vs same.0 h.0))
                      (zero ∙ zero-mod (limit w.bytes)),
                  refl,
                );
                makes = refl;
              });
        }

    pub repeated_fires : RepeatsItself op → IsSame sees a b
        → FiredOfPair (SummingOf R.A4) sees (P.Arithmetic op) a b (M.Is (A.Place a))
    repeated_fires k same = record {
      fires = λ vs x y sized s t. (
          let h = same.1.1 vs x y s t in
          record {
            x = same.0;
            y = same.0;
            r = same.0;
            left = h.0;
            right = h.1;
            rule = (A4_same op same.0 k same.1.0, refl);
            makes = h.0;
          });
    }

    pub opposite_fires : (to : ArithmeticOp) (y : T) → IsSum op → IsSingle sees b (S.Unary U.Neg) y → AreOpposite op to
        → FiredOfPair (SummingOf R.A8) sees (P.Arithmetic op) a b (M.Pair (P.Arithmetic to) (A.Place a) (A.Place y))
    opposite_fires to y k i is = record {
      fires = λ vs u v sized s t. (
          let o = i.operand vs v t in
          record {
            x = u;
            y = E.Unary U.Neg o.0;
            r = E.Arithmetic to u o.0;
            left = s;
            right = i.joins vs v o.0 t o.1;
            rule = opposite_rule vs.widths op to u o.0 k is;
            makes = (u, (o.0, (refl, s, o.1)));
          });
    }

  module _ (op : ArithmeticOp) (a : T) (d : Word) where
    -- the constant of an operand is as wide as the other one
    alike : (inner : ArithmeticOp) (vs : Variables) (x l : Expr) (c : Word) → ConstOn inner x c l
        → IsSized vs.widths (E.Arithmetic op l (E.Const d)) → c.width.bytes ≡ d.width.bytes
    alike inner vs x l c on sized =
        let w = F.alike_operands vs.widths op l (E.Const d) sized in
        F.beside_wide vs.widths inner x c l w.0 on w.1.0 ∙ sym (F.const_wide vs.widths d w.0 w.1.1)

    pub nested_fires : (inner to : ArithmeticOp) (x : T) (c e : Word) → IsSum op → IsSum inner
        → IsBeside sees a inner x c → (c.width.bytes ≡ d.width.bytes → Nests inner op c d to e)
        → FiredWith (SummingOf R.A5) sees (P.Arithmetic op) a d (M.Pair (P.Arithmetic to) (A.Place x) (A.Const e))
    nested_fires inner to x c e k i beside n = record {
      fires = λ vs u sized s. (
          let h = beside.seen vs u s in
          let wide = alike inner vs h.x h.l c h.on (sized h.l h.seen) in
          record {
            x = h.l;
            r = E.Arithmetic to h.x (E.Const e);
            left = h.seen;
            rule = sum_rule vs.widths inner op h.l h.x c d to e i k h.on (n wide);
            makes = (h.x, (E.Const e, (refl, h.letter, refl)));
          });
    }

    pub bits_fire : (x : T) (c e : Word) → IsBitwise op → IsBeside sees a op x c
        → (c.width.bytes ≡ d.width.bytes → Folds op c d e)
        → FiredWith (SummingOf R.A6) sees (P.Arithmetic op) a d (M.Pair (P.Arithmetic op) (A.Place x) (A.Const e))
    bits_fire x c e k beside n = record {
      fires = λ vs u sized s. (
          let h = beside.seen vs u s in
          let wide = alike op vs h.x h.l c h.on (sized h.l h.seen) in
          record {
            x = h.l;
            r = E.Arithmetic op h.x (E.Const e);
            left = h.seen;
            rule = bits_rule vs.widths d e op h.x c h.l k h.on (n wide);
            makes = (h.x, (E.Const e, (refl, h.letter, refl)));
          });
    }

  pub undone_fires : (op : UnaryOp) (a x : T) → IsSingle sees a (S.Unary op) x
      → FiredOfSingle (SummingOf R.A7) sees (S.Unary op) a (M.Is (A.Place x))
  undone_fires op a x i = record {
    fires = λ vs u sized s. (
        let o = i.operand vs u s in
        record {
          x = E.Unary op o.0;
          r = o.0;
          operand = i.joins vs u o.0 s o.1;
          rule = (A7 op o.0, refl);
          makes = o.1;
        });
  }

  -- ---- none matches

  module _ (p : Pair) (a b : T) where
    pub none_at_constant : (c : Word) → IsConstant sees b c → NoneBy sees p a c → NoneByConstant sees p a b
    none_at_constant c k n = record {
      none = λ vs d s. subst (NoneBy sees p a) (sym (constant_only sees b c k vs d s)) n;
    }

    pub none_at_other : NoConstant sees b → NoneByConstant sees p a b
    none_at_other n = record { none = λ vs c s. absurd (n vs c s) }

    pub constant_fires : (c : Word) (row : Row) (made : Made T) → IsConstant sees b c
        → FiredWith (SummingOf row) sees p a c made → FiredOfPair (SummingOf row) sees p a b made
    constant_fires c row made k f = F.with_constant sees (SummingOf row) p a b c made k f

    module _ (by : NoneByConstant sees p a b) (two : (op : ArithmeticOp) → p ≡ P.Arithmetic op → NoneOfTwo sees op a b)
        (vs : Variables) (x y : Expr) (s : sees vs a x) (t : sees vs b y) where
      module _ (q : Pair) (u : Expr) (c : Word) (is : pair_node q u (E.Const c) ≡ pair_node p x y) where
        by_this : NoneBy sees p a c
        by_this = by.none vs c (subst (sees vs b) (sym (same_pair q p u (E.Const c) x y is).right) t)

        seen : sees vs a u
        seen = subst (sees vs a) (sym (same_pair q p u (E.Const c) x y is).left) s

      by_op : (op : ArithmeticOp) (u : Expr) (c : Word) → E.Arithmetic op u (E.Const c) ≡ pair_node p x y
          → NoneByOp sees op a c
      by_op op u c is =
          let e = same_pair (P.Arithmetic op) p u (E.Const c) x y is in
          (by_this (P.Arithmetic op) u c is).by_op op (sym e.node)

      leaves : (q : Pair) (u : Expr) (c : Word) → Leaves q c → pair_node q u (E.Const c) ≡ pair_node p x y → ⊥
      leaves q u c h is =
          let e = same_pair q p u (E.Const c) x y is in
          (by_this q u c is).leaves (subst (λ r. Leaves r c) e.node h)

      nested : (op inner : ArithmeticOp) (u l : Expr) (c d : Word) → IsSum op → IsSum inner → ConstOn inner u c l
          → E.Arithmetic op l (E.Const d) ≡ pair_node p x y → ⊥
      nested op inner u l c d k i on is =
          (by_op op l d is).sums k vs inner u c l i on (seen (P.Arithmetic op) l d is)

      bits : (op : ArithmeticOp) (u l : Expr) (c d : Word) → IsBitwise op → ConstOn op u c l
          → E.Arithmetic op l (E.Const d) ≡ pair_node p x y → ⊥
      bits op u l c d k on is = (by_op op l d is).bits k vs op u c l refl on (seen (P.Arithmetic op) l d is)

      opposite : (op : ArithmeticOp) (u v : Expr) → IsSum op → E.Arithmetic op u (E.Unary U.Neg v) ≡ pair_node p x y → ⊥
      opposite op u v k is =
          let e = same_pair (P.Arithmetic op) p u (E.Unary U.Neg v) x y is in
          (two op (sym e.node)).opposite k vs v (subst (sees vs b) (sym e.right) t)

      same : (op : ArithmeticOp) (u : Expr) → E.Arithmetic op u u ≡ pair_node p x y
          → NoneOfTwo sees op a b × (sees vs a u × sees vs b u)
      same op u is =
          let e = same_pair (P.Arithmetic op) p u u x y is in
          (two op (sym e.node), (subst (sees vs a) (sym e.left) s, subst (sees vs b) (sym e.right) t))

      no_sum : (l r : Expr) → Summing vs.widths l r → l ≡ pair_node p x y → ⊥
      no_sum l r (A1 op u c k z) is = (by_op op u c is).nothing k z
      no_sum l r (A2_mul u c o) is = leaves (P.Arithmetic O.Mul) u c o is
      no_sum l r (A2_and u c o) is = leaves (P.Arithmetic O.And) u c o is
      no_sum l r (A2_div u c o) is = leaves (P.Division D.Div) u c o is
      no_sum l r (A2_sdiv u c o) is = leaves (P.SignedDivision I.SDiv) u c o is
      no_sum l r (A3 op u c k z) is = (by_op op u c is).falls k z
      no_sum l r (A4_none op u z k atom w n) is =
          let h = same op u is in h.0.cancels k vs u atom h.1.0 h.1.1
      no_sum l r (A4_same op u k atom) is =
          let h = same op u is in h.0.repeats k vs u atom h.1.0 h.1.1
      no_sum l r (A5_add_add u c d e f) is = nested O.Add O.Add u _ c d tt tt (OnRight O.Add u c) is
      no_sum l r (A5_add_add_over u c d e f) is = nested O.Add O.Add u _ c d tt tt (OnLeft O.Add u c tt) is
      no_sum l r (A5_sub_sub u c d e f) is = nested O.Sub O.Sub u _ c d tt tt (OnRight O.Sub u c) is
      no_sum l r (A5_add_sub u c d e f) is = nested O.Sub O.Add u _ c d tt tt (OnRight O.Add u c) is
      no_sum l r (A5_add_sub_over u c d e f) is = nested O.Sub O.Add u _ c d tt tt (OnLeft O.Add u c tt) is
      no_sum l r (A5_sub_add u c d e f) is = nested O.Add O.Sub u _ c d tt tt (OnRight O.Sub u c) is
      no_sum l r (A6 op u c d e k f) is = bits op u _ c d k (OnRight op u c) is
      no_sum l r (A6_over op u c d e k f) is = bits op u _ c d k (OnLeft op u c (bitwise_commutes op k)) is
      no_sum l r (A7 op u) is = pair_no_single p x y (S.Unary op) (E.Unary op u) (sym is)
      no_sum l r (A8_add u v) is = opposite O.Add u v tt is
      no_sum l r (A8_sub u v) is = opposite O.Sub u v tt is

    pub none_of_pair : NoneByConstant sees p a b → ((op : ArithmeticOp) → p ≡ P.Arithmetic op → NoneOfTwo sees op a b)
        → NoneOfPair Summing sees p a b
    none_of_pair by two = record {
      none = λ vs x y r sized rule s t. no_sum by two vs x y s t (pair_node p x y) r rule refl;
    }

  -- ---- a node with one operand

  module _ (s : Single) (a : T) where
    no_single : (vs : Variables) (x l r : Expr) → Summing vs.widths l r → l ≡ single_node s x
        → ((op : UnaryOp) (u : Expr) → single_node s x ≡ E.Unary op (E.Unary op u) → ⊥) → ⊥
    no_single vs x l r (A1 op u c k z) is n = pair_no_single (P.Arithmetic op) u (E.Const c) s x is
    no_single vs x l r (A2_mul u c o) is n = pair_no_single (P.Arithmetic O.Mul) u (E.Const c) s x is
    no_single vs x l r (A2_and u c o) is n = pair_no_single (P.Arithmetic O.And) u (E.Const c) s x is
    no_single vs x l r (A2_div u c o) is n = pair_no_single (P.Division D.Div) u (E.Const c) s x is
    no_single vs x l r (A2_sdiv u c o) is n = pair_no_single (P.SignedDivision I.SDiv) u (E.Const c) s x is
    no_single vs x l r (A3 op u c k z) is n = pair_no_single (P.Arithmetic op) u (E.Const c) s x is
    no_single vs x l r (A4_none op u z k atom w m) is n = pair_no_single (P.Arithmetic op) u u s x is
    no_single vs x l r (A4_same op u k atom) is n = pair_no_single (P.Arithmetic op) u u s x is
    no_single vs x l r (A5_add_add u c d e f) is n = pair_no_single (P.Arithmetic O.Add) _ (E.Const d) s x is
    no_single vs x l r (A5_add_add_over u c d e f) is n = pair_no_single (P.Arithmetic O.Add) _ (E.Const d) s x is
    no_single vs x l r (A5_sub_sub u c d e f) is n = pair_no_single (P.Arithmetic O.Sub) _ (E.Const d) s x is
    no_single vs x l r (A5_add_sub u c d e f) is n = pair_no_single (P.Arithmetic O.Sub) _ (E.Const d) s x is
    no_single vs x l r (A5_add_sub_over u c d e f) is n = pair_no_single (P.Arithmetic O.Sub) _ (E.Const d) s x is
    no_single vs x l r (A5_sub_add u c d e f) is n = pair_no_single (P.Arithmetic O.Add) _ (E.Const d) s x is
    no_single vs x l r (A6 op u c d e k f) is n = pair_no_single (P.Arithmetic op) _ (E.Const d) s x is
    no_single vs x l r (A6_over op u c d e k f) is n = pair_no_single (P.Arithmetic op) _ (E.Const d) s x is
    no_single vs x l r (A7 op u) is n = n op u (sym is)
    no_single vs x l r (A8_add u v) is n = pair_no_single (P.Arithmetic O.Add) u (E.Unary U.Neg v) s x is
    no_single vs x l r (A8_sub u v) is n = pair_no_single (P.Arithmetic O.Sub) u (E.Unary U.Neg v) s x is

    pub none_undone : (op : UnaryOp) → s ≡ S.Unary op → NoUnaryOf sees op a → NoneOfSingle Summing sees s a
    none_undone op is n = record {
      none = λ vs x r sized rule t. no_single vs x (single_node s x) r rule refl
          (λ o u e. (
          let h = same_single s (S.Unary o) x (E.Unary o u) e in
          let node : S.Unary op ≡ S.Unary o = sym is ∙ h.0 in
          let same : o ≡ op = cc in
          n vs u (subst (λ q. sees vs a (E.Unary q u)) same (subst (sees vs a) h.1 t))));
    }

    pub none_other : ((op : UnaryOp) → s ≡ S.Unary op → ⊥) → NoneOfSingle Summing sees s a
    none_other m = record {
      none = λ vs x r sized rule t. no_single vs x (single_node s x) r rule refl
          (λ o u e. m o (same_single s (S.Unary o) x (E.Unary o u) e).0);
    }
