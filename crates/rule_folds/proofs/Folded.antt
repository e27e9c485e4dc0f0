-- The rule of nodes over constants.
use Rattle.std.proofs.Common.{◌≡◌, ℕ, Some, None, refl, sym, ap, ◌∙◌, subst}
use Rattle.bits_core.specs.declared.word.Word.{Word}
use Rattle.cmeaning.specs.declared.tree.Expr.{Expr}
use Rattle.cmeaning.specs.declared.tree.Expr.TheVariants as E
use Rattle.rules.specs.Folds as D
use Rattle.rules.specs.Folds.{IsClosed, IsValue, Folding, F1}
use Rattle.rules.specs.Letters.{IsWide}
use Rattle.rule_views.specs.declared.nodes.Single.{Single}
use Rattle.rule_views.specs.declared.nodes.Single.TheVariants as S
use Rattle.rule_views.specs.declared.nodes.Pair.{Pair}
use Rattle.rule_views.specs.declared.nodes.Pair.TheVariants as P
use Rattle.rule_views.specs.declared.view.Arg.TheVariants as A
use Rattle.rule_views.specs.declared.view.Made.TheVariants as M
use Rattle.rule_views.specs.Nodes.{single_node, pair_node}
use Rattle.rule_views.specs.Sees.{Sight, IsSized, IsConstant, NoConstant}
use Rattle.rule_views.specs.Fires.{FiredOfSingle, NoneOfSingle, FiredOfPair, NoneOfPair}
use Rattle.rule_views.proofs.Layers.{same_single, same_pair, pair_no_single}
use Rattle.rule_views.proofs.Seen.{constant_only}
use Rattle.rule_folds.specs.Values.{SingleAgrees, IsSingleValue, Agree, NoPairValue, IsPairValue}
use Rattle.rule_folds.proofs.Meaning.{single_sized, single_meaning, pair_sized, pair_meaning, no_meaning}

-- ---- nodes over constants

closed_single : (s : Single) (c : Word) → IsClosed (single_node s (E.Const c))
closed_single (S.Unary op) c = D.Unary op c
closed_single (S.Extend op w) c = D.Extend op w c
closed_single (S.Part k w) c = D.Part k w c
closed_single (S.Count op) c = D.Count op c

closed_pair : (p : Pair) (c d : Word) → IsClosed (pair_node p (E.Const c) (E.Const d))
closed_pair (P.Arithmetic op) c d = D.Arithmetic op c d
closed_pair (P.Division op) c d = D.Division op c d
closed_pair (P.SignedDivision op) c d = D.SignedDivision op c d
closed_pair (P.Shift op) c d = D.Shift op c d
closed_pair (P.Compare op) c d = D.Compare op c d
closed_pair (P.SignedCompare op) c d = D.SignedCompare op c d
closed_pair P.Concat c d = D.Concat c d
closed_pair (P.Overflow op) c d = D.Overflow op c d

abbrev Two : Expr → Expr → Type 0
Two x y = (c : Word) × ((d : Word) × ((x ≡ E.Const c) × (y ≡ E.Const d)))

module _ (p : Pair) (x y : Expr) where
  at_pair : (q : Pair) (c d : Word) → pair_node q (E.Const c) (E.Const d) ≡ pair_node p x y → Two x y
  at_pair q c d is =
      let e = same_pair q p (E.Const c) (E.Const d) x y is in
      (c, (d, (sym e.left, sym e.right)))

  at_single : (s : Single) (c : Word) → single_node s (E.Const c) ≡ pair_node p x y → Two x y
  at_single s c is = absurd (pair_no_single p x y s (E.Const c) (sym is))

  -- the operands of a closed node are constants
  two : (l : Expr) → IsClosed l → l ≡ pair_node p x y → Two x y
  two l (D.Unary op c) is = at_single (S.Unary op) c is
  two l (D.Arithmetic op c d) is = at_pair (P.Arithmetic op) c d is
  two l (D.Division op c d) is = at_pair (P.Division op) c d is
  two l (D.SignedDivision op c d) is = at_pair (P.SignedDivision op) c d is
  two l (D.Shift op c d) is = at_pair (P.Shift op) c d is
  two l (D.Compare op c d) is = at_pair (P.Compare op) c d is
  two l (D.SignedCompare op c d) is = at_pair (P.SignedCompare op) c d is
  two l (D.Extend op w c) is = at_single (S.Extend op w) c is
  two l (D.Part k w c) is = at_single (S.Part k w) c is
  two l (D.Concat c d) is = at_pair P.Concat c d is
  two l (D.Overflow op c d) is = at_pair (P.Overflow op) c d is
  two l (D.Count op c) is = at_single (S.Count op) c is

module _ (s : Single) (x : Expr) where
  of_single : (q : Single) (c : Word) → single_node q (E.Const c) ≡ single_node s x → (c : Word) × (x ≡ E.Const c)
  of_single q c is = (c, sym (same_single q s (E.Const c) x is).1)

  of_pair : (p : Pair) (c d : Word) → pair_node p (E.Const c) (E.Const d) ≡ single_node s x
      → (c : Word) × (x ≡ E.Const c)
  of_pair p c d is = absurd (pair_no_single p (E.Const c) (E.Const d) s x is)

  one : (l : Expr) → IsClosed l → l ≡ single_node s x → (c : Word) × (x ≡ E.Const c)
  one l (D.Unary op c) is = of_single (S.Unary op) c is
  one l (D.Arithmetic op c d) is = of_pair (P.Arithmetic op) c d is
  one l (D.Division op c d) is = of_pair (P.Division op) c d is
  one l (D.SignedDivision op c d) is = of_pair (P.SignedDivision op) c d is
  one l (D.Shift op c d) is = of_pair (P.Shift op) c d is
  one l (D.Compare op c d) is = of_pair (P.Compare op) c d is
  one l (D.SignedCompare op c d) is = of_pair (P.SignedCompare op) c d is
  one l (D.Extend op w c) is = of_single (S.Extend op w) c is
  one l (D.Part k w c) is = of_single (S.Part k w) c is
  one l (D.Concat c d) is = of_pair P.Concat c d is
  one l (D.Overflow op c d) is = of_pair (P.Overflow op) c d is
  one l (D.Count op c) is = of_single (S.Count op) c is

-- a fold's left side is closed and has a value
record Folded (ws : ℕ → ℕ) (l : Expr) : Type 0 where
  closed : IsClosed l
  word : Word
  value : IsValue ws l word

folded : (ws : ℕ → ℕ) (l r : Expr) → Folding ws l r → Folded ws l
folded ws l r (F1 m e c v) = record { closed = c; word = e; value = v }

module _ {T : Type 0} (sees : Sight T) where
  -- ---- two operands

  module _ (p : Pair) (a b : T) where
    pub no_left : NoConstant sees a → NoneOfPair Folding sees p a b
    no_left n = record {
      none = λ vs x y r sized rule s t. (
          let f = folded vs.widths (pair_node p x y) r rule in
          let o = two p x y (pair_node p x y) f.closed refl in
          n vs o.0 (subst (sees vs a) o.1.1.0 s));
    }

    pub no_right : NoConstant sees b → NoneOfPair Folding sees p a b
    no_right n = record {
      none = λ vs x y r sized rule s t. (
          let f = folded vs.widths (pair_node p x y) r rule in
          let o = two p x y (pair_node p x y) f.closed refl in
          n vs o.1.0 (subst (sees vs b) o.1.1.1 t));
    }

    module _ (c d : Word) (k : IsConstant sees a c) (m : IsConstant sees b d) where
      pub no_value : (Agree p c.width.bytes d.width.bytes → NoPairValue p d) → NoneOfPair Folding sees p a b
      no_value n = record {
        none = λ vs x y r sized rule s t. (
            let f = folded vs.widths (pair_node p x y) r rule in
            let o = two p x y (pair_node p x y) f.closed refl in
            let left : x ≡ E.Const c =
            o.1.1.0 ∙ ap E.Const (constant_only sees a c k vs o.0 (subst (sees vs a) o.1.1.0 s)) in
            let right : y ≡ E.Const d =
            o.1.1.1 ∙ ap E.Const (constant_only sees b d m vs o.1.0 (subst (sees vs b) o.1.1.1 t)) in
            let is : pair_node p x y ≡ pair_node p (E.Const c) (E.Const d) =
            ap (λ u. pair_node p u y) left ∙ ap (pair_node p (E.Const c)) right in
            let agree = (pair_sized vs.widths c d p (subst (IsSized vs.widths) is sized)).0 in
            let zero = n agree in
            let value : IsValue vs.widths (pair_node p (E.Const c) (E.Const d)) f.word =
            subst (λ l. IsValue vs.widths l f.word) is f.value in
            let none : None ≡ Some f.word.value = sym (no_meaning vs.widths c d p zero.0 zero.1) ∙ value.value in
            absurd cc);
      }

      pub pair_fires : (e : Word) → (Agree p c.width.bytes d.width.bytes → IsPairValue p c d e)
          → FiredOfPair Folding sees p a b (M.Is (A.Const e))
      pair_fires e v = record {
        fires = λ vs x y sized s t. (
            let l : Expr = pair_node p (E.Const c) (E.Const d) in
            let left : sees vs a (E.Const c) = k.seen vs x s in
            let right : sees vs b (E.Const d) = m.seen vs y t in
            let w = pair_sized vs.widths c d p (sized (E.Const c) (E.Const d) left right) in
            let value = v w.0 in
            record {
              x = E.Const c;
              y = E.Const d;
              r = E.Const e;
              left = left;
              right = right;
              rule = F1 l e (closed_pair p c d) (record {
                width = subst (IsWide vs.widths l) (sym value.word.width) w.1;
                value = pair_meaning vs.widths c d p w.0 value.divides ∙ ap Some (sym value.word.value);
              });
              makes = refl;
            });
      }

  -- ---- one operand

  module _ (q : Single) (a : T) where
    pub no_operand : NoConstant sees a → NoneOfSingle Folding sees q a
    no_operand n = record {
      none = λ vs x r sized rule s. (
          let f = folded vs.widths (single_node q x) r rule in
          let o = one q x (single_node q x) f.closed refl in
          n vs o.0 (subst (sees vs a) o.1 s));
    }

    pub single_fires : (c e : Word) → IsConstant sees a c → (SingleAgrees q c.width.bytes → IsSingleValue q c e)
        → FiredOfSingle Folding sees q a (M.Is (A.Const e))
    single_fires c e k v = record {
      fires = λ vs x sized s. (
          let l : Expr = single_node q (E.Const c) in
          let operand : sees vs a (E.Const c) = k.seen vs x s in
          let w = single_sized vs.widths c q (sized (E.Const c) operand) in
          let value = v w.0 in
          record {
            x = E.Const c;
            r = E.Const e;
            operand = operand;
            rule = F1 l e (closed_single q c) (record {
              width = subst (IsWide vs.widths l) (sym value.width) w.1;
              value = single_meaning vs.widths c q ∙ ap Some (sym value.value);
            });
            makes = refl;
          });
    }
