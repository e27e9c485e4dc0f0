-- The rules of the table at a place.
use Rattle.std.proofs.Common.{◌≡◌, ◌⊎◌, ⊎_elim, ℕ, Option, Some, None, MatchOption, refl, sym, ap, ◌∙◌, subst}
use Rattle.bits_core.specs.declared.word.Word.{Word}
use Rattle.cmeaning.specs.declared.tree.Expr.{Expr}
use Rattle.cmeaning.specs.declared.tree.Expr.TheVariants as E
use Rattle.rules.specs.Table.{Form, Rule, AsNamed, Turned, TurnedTest, TurnedFlag, F2, F2_test}
use Rattle.rule_views.specs.declared.nodes.Single.{Single}
use Rattle.rule_views.specs.declared.nodes.Pair.{Pair}
use Rattle.rule_views.specs.declared.nodes.Pair.TheVariants as P
use Rattle.rule_views.specs.declared.row.Row.{Row}
use Rattle.rule_views.specs.declared.view.Made.{Made}
use Rattle.rule_views.specs.declared.view.Found.{Found}
use Rattle.rule_views.specs.Nodes.{single_node, pair_node}
use Rattle.rule_views.specs.Rows.{FormOf, RuleOf}
use Rattle.rule_views.specs.Sees.{Sight, IsSized, IsVariable, IsConstant, NoConstant, IsPair, NoPair, AreUnder, IsSingle, NoSingle}
use Rattle.rule_views.specs.Fires.{FiredOfPair, NoneOfPair, FiredOfSingle, NoneOfSingle}
use Rattle.rule_views.specs.Variables.{Variables}
use Rattle.rule_views.proofs.Layers.{same_pair, pair_no_single, single_no_var}
use Rattle.rule_views.proofs.Seen.{pair_only, single_only}
use Rattle.rule_folds.specs.Values.{Divides}
use Rattle.rule_find.specs.Found.{Commutes, ChangesOver, NoneOver, NoRule, Fired}
use Rattle.rule_find.proofs.Lefts.{OfTwo, OfOne, rule_node}
use Rattle.rule_find.proofs.Turning.{turned_sized}
use Rattle.rule_find.proofs.Families.{as_other, as_other_single}

turned_rule : (row : Row) (ws : ℕ → ℕ) (p : Pair) (x y r : Expr) → Commutes p → FormOf row ws (pair_node p x y) r
    → RuleOf row ws (pair_node p y x) r
turned_rule row ws (P.Arithmetic op) x y r k f = (Turned op x y r k f.0, f.1)
turned_rule row ws (P.Compare op) x y r k f = (TurnedTest op x y r k f.0, f.1)
turned_rule row ws (P.Overflow op) x y r k f = (TurnedFlag op x y r k f.0, f.1)
turned_rule row ws (P.Division op) x y r k f = absurd k
turned_rule row ws (P.SignedDivision op) x y r k f = absurd k
turned_rule row ws (P.Shift op) x y r k f = absurd k
turned_rule row ws (P.SignedCompare op) x y r k f = absurd k
turned_rule row ws P.Concat x y r k f = absurd k

-- what changes over is no division
over_divides : (p : Pair) → ChangesOver p → Divides p → ⊥
over_divides (P.Arithmetic op) k h = h
over_divides (P.Compare op) k h = h
over_divides (P.Overflow op) k h = h
over_divides (P.Division op) k h = k
over_divides (P.SignedDivision op) k h = k
over_divides (P.Shift op) k h = h
over_divides (P.SignedCompare op) k h = h
over_divides P.Concat k h = h

module _ {T : Type 0} (sees : Sight T) where
  -- ---- a node with two operands

  module _ (p : Pair) (a b : T) where
    -- two constants are folded, but by a division
    abbrev pub BothFolded : Type 0
    BothFolded = (vs : Variables) (c d : Word) → sees vs a (E.Const c) → sees vs b (E.Const d) → (Divides p → ⊥) → ⊥

    module _ (row : Row) (made : Made T) where
      pub named : FiredOfPair (FormOf row) sees p a b made → FiredOfPair (RuleOf row) sees p a b made
      named h = as_other sees (FormOf row) (RuleOf row) (λ ws l r f. (AsNamed l r f.0, f.1)) p a b made h

      pub turned : Commutes p → FiredOfPair (FormOf row) sees p b a made → FiredOfPair (RuleOf row) sees p a b made
      turned k h = record {
        fires = λ vs x y sized s t. (
            let w = h.fires vs y x (λ v u m n. turned_sized vs.widths p u v k (sized u v n m)) t s in
            record {
              x = w.y;
              y = w.x;
              r = w.r;
              left = w.right;
              right = w.left;
              rule = turned_rule row vs.widths p w.x w.y w.r k w.rule;
              makes = w.makes;
            });
      }

    module _ (none : NoneOfPair Form sees p a b)
        (other : Commutes p → NoneOfPair Form sees p b a)
        (over : ChangesOver p → NoneOver sees a b)
        (both : BothFolded)
        (vs : Variables)
        (x y : Expr)
        (sized : IsSized vs.widths (pair_node p x y))
        (s : sees vs a x)
        (t : sees vs b y) where
      no_turned : (q : Pair) (u v r : Expr) → Commutes q → Form vs.widths (pair_node q u v) r
          → pair_node q v u ≡ pair_node p x y → ⊥
      no_turned q u v r k f is =
          let e = same_pair q p v u x y is in
          let commutes : Commutes p = subst Commutes e.node k in
          let to : pair_node q u v ≡ pair_node p y x =
          ap (λ o. pair_node o u v) e.node ∙ ap (λ z. pair_node p z v) e.right ∙ ap (pair_node p y) e.left in
          (other commutes).none vs y x r (turned_sized vs.widths p x y commutes sized) (subst (λ l. Form vs.widths l r) to f) t s

      no_over : (q : Pair) (c : Word) (u : Expr) → ChangesOver q → pair_node q (E.Const c) u ≡ pair_node p x y → ⊥
      no_over q c u k is =
          let e = same_pair q p (E.Const c) u x y is in
          let at : sees vs a (E.Const c) = subst (sees vs a) (sym e.left) s in
          let changes : ChangesOver p = subst ChangesOver e.node k in
          ⊎_elim (λ (n : NoConstant sees a). n vs c at)
          (λ (m : (d : Word) × IsConstant sees b d).
          both vs c m.0 at (m.1.seen vs y t) (over_divides p changes)) (over changes)

      no_rule : (l r : Expr) → Rule vs.widths l r → l ≡ pair_node p x y → ⊥
      no_rule l r (AsNamed m n f) is = none.none vs x y r sized (subst (λ e. Form vs.widths e r) is f) s t
      no_rule l r (Turned op u v n k f) is = no_turned (P.Arithmetic op) u v r k f is
      no_rule l r (TurnedTest op u v n k f) is = no_turned (P.Compare op) u v r k f is
      no_rule l r (TurnedFlag op u v n k f) is = no_turned (P.Overflow op) u v r k f is
      no_rule l r (F2 op c u k n) is = no_over (P.Arithmetic op) c u k is
      no_rule l r (F2_test op c u k n) is = no_over (P.Compare op) c u k is

    none_of_pair : NoneOfPair Form sees p a b → (Commutes p → NoneOfPair Form sees p b a)
        → (ChangesOver p → NoneOver sees a b) → BothFolded → NoneOfPair Rule sees p a b
    none_of_pair none other over both = record {
      none = λ vs x y r sized rule s t. no_rule none other over both vs x y sized s t (pair_node p x y) r rule refl;
    }

    pub none_as_named : NoneOfPair Form sees p a b → (Commutes p → ⊥) → (ChangesOver p → NoneOver sees a b) → BothFolded
        → NoneOfPair Rule sees p a b
    none_as_named none n over both = none_of_pair none (λ k. absurd (n k)) over both

    pub none_turned : NoneOfPair Form sees p a b → NoneOfPair Form sees p b a → (ChangesOver p → NoneOver sees a b)
        → BothFolded → NoneOfPair Rule sees p a b
    none_turned none other over both = none_of_pair none (λ k. other) over both

  -- ---- a node with one operand

  module _ (q : Single) (a : T) where
    pub named_single : (row : Row) (made : Made T) → FiredOfSingle (FormOf row) sees q a made
        → FiredOfSingle (RuleOf row) sees q a made
    named_single row made h =
        as_other_single sees (FormOf row) (RuleOf row) (λ ws l r f. (AsNamed l r f.0, f.1)) q a made h

    module _ (none : NoneOfSingle Form sees q a)
        (vs : Variables)
        (x : Expr)
        (sized : IsSized vs.widths (single_node q x))
        (s : sees vs a x) where
      no_rule_of_one : (l r : Expr) → Rule vs.widths l r → l ≡ single_node q x → ⊥
      no_rule_of_one l r (AsNamed m n f) is = none.none vs x r sized (subst (λ e. Form vs.widths e r) is f) s
      no_rule_of_one l r (Turned op u v n k f) is = pair_no_single (P.Arithmetic op) v u q x is
      no_rule_of_one l r (TurnedTest op u v n k f) is = pair_no_single (P.Compare op) v u q x is
      no_rule_of_one l r (TurnedFlag op u v n k f) is = pair_no_single (P.Overflow op) v u q x is
      no_rule_of_one l r (F2 op c u k n) is = pair_no_single (P.Arithmetic op) (E.Const c) u q x is
      no_rule_of_one l r (F2_test op c u k n) is = pair_no_single (P.Compare op) (E.Const c) u q x is

    pub none_of_single : NoneOfSingle Form sees q a → NoneOfSingle Rule sees q a
    none_of_single none = record {
      none = λ vs x r sized rule s. no_rule_of_one none vs x sized s (single_node q x) r rule refl;
    }

  -- ---- at a place

  module _ (at : T) where
    pub none_of_leaf : NoPair sees at → NoSingle sees at → NoRule sees at
    none_of_leaf n m vs l r sized rule s =
        elim (rule_node vs.widths l r rule) [
          | OfTwo p x y is ↦ n vs p x y (subst (sees vs at) is s)
          | OfOne q x is ↦ m vs q x (subst (sees vs at) is s)
        ]

    module _ (p : Pair) (a b : T) (i : IsPair sees at p a b) where
      no_single : (vs : Variables) (q : Single) (x : Expr) → sees vs at (single_node q x) → ⊥
      no_single vs q x s =
          ⊎_elim (λ (v : IsVariable (single_node q x)). single_no_var q x v.0 v.1)
          (λ (u : AreUnder sees p a b vs (single_node q x)). pair_no_single p u.x u.y q x (sym u.is))
          (i.only vs (single_node q x) s)

      none_at_pair : NoneOfPair Rule sees p a b → NoRule sees at
      none_at_pair n vs l r sized rule s =
          elim (rule_node vs.widths l r rule) [
            | OfTwo q x y is ↦ (
                let e = pair_only sees at a b p i vs q x y (subst (sees vs at) is s) in
                let to : l ≡ pair_node p x y = is ∙ ap (λ o. pair_node o x y) e.0 in
                n.none vs x y r (subst (IsSized vs.widths) to sized) (subst (λ k. Rule vs.widths k r) to rule) e.1.0 e.1.1)
            | OfOne q x is ↦ no_single vs q x (subst (sees vs at) is s)
          ]

      pair_fires : (f : Found T) → FiredOfPair (RuleOf f.row) sees p a b f.made → Fired sees at f
      pair_fires f h = record {
        fires = λ vs e sized s. (
            let o = i.operands vs e s in
            let w = h.fires vs o.0 o.1.0 (λ x y m n. sized (pair_node p x y) (i.joins vs e x y s m n)) o.1.1.0 o.1.1.1 in
            record {
              l = pair_node p w.x w.y;
              r = w.r;
              seen = i.joins vs e w.x w.y s w.left w.right;
              rule = w.rule;
              makes = w.makes;
            });
      }

      pub at_pair : (f : Option (Found T))
          → MatchOption f (NoneOfPair Rule sees p a b) (λ g. FiredOfPair (RuleOf g.row) sees p a b g.made)
          → MatchOption f (NoRule sees at) (λ g. Fired sees at g)
      at_pair None n = none_at_pair n
      at_pair (Some f) h = pair_fires f h

    module _ (q : Single) (a : T) (i : IsSingle sees at q a) where
      none_at_single : NoPair sees at → NoneOfSingle Rule sees q a → NoRule sees at
      none_at_single m n vs l r sized rule s =
          elim (rule_node vs.widths l r rule) [
            | OfTwo p x y is ↦ m vs p x y (subst (sees vs at) is s)
            | OfOne o x is ↦ (
                let e = single_only sees at a q i vs o x (subst (sees vs at) is s) in
                let to : l ≡ single_node q x = is ∙ ap (λ k. single_node k x) e.0 in
                n.none vs x r (subst (IsSized vs.widths) to sized) (subst (λ k. Rule vs.widths k r) to rule) e.1)
          ]

      single_fires : (f : Found T) → FiredOfSingle (RuleOf f.row) sees q a f.made → Fired sees at f
      single_fires f h = record {
        fires = λ vs e sized s. (
            let o = i.operand vs e s in
            let w = h.fires vs o.0 (λ x m. sized (single_node q x) (i.joins vs e x s m)) o.1 in
            record {
              l = single_node q w.x;
              r = w.r;
              seen = i.joins vs e w.x s w.operand;
              rule = w.rule;
              makes = w.makes;
            });
      }

      pub at_single : (f : Option (Found T)) → NoPair sees at
          → MatchOption f (NoneOfSingle Rule sees q a) (λ g. FiredOfSingle (RuleOf g.row) sees q a g.made)
          → MatchOption f (NoRule sees at) (λ g. Fired sees at g)
      at_single None m n = none_at_single m n
      at_single (Some f) m h = single_fires f h
