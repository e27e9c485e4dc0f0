-- What is 0 or 1, compared with 0 or 1.
use Rattle.std.proofs.Common.{◌≡◌, ℕ, refl, sym, subst}
use Rattle.bits_core.specs.declared.word.Word.{Word}
use Rattle.cmeaning.specs.declared.tree.ArithmeticOp.TheVariants as O
use Rattle.cmeaning.specs.declared.tree.CompareOp.{CompareOp}
use Rattle.cmeaning.specs.declared.tree.CompareOp.TheVariants as C
use Rattle.cmeaning.specs.declared.tree.SignedCompareOp.{SignedCompareOp}
use Rattle.cmeaning.specs.declared.tree.SignedCompareOp.TheVariants as I
use Rattle.cmeaning.specs.declared.tree.OverflowOp.{OverflowOp}
use Rattle.cmeaning.specs.declared.tree.Expr.{Expr}
use Rattle.cmeaning.specs.declared.tree.Expr.TheVariants as E
use Rattle.rules.specs.Letters as L
use Rattle.rules.specs.Letters.{Negated, IsTest}
use Rattle.rules.specs.Booleans.{Deciding, B1_xor, B1_eq, B1_ne, B2_ne, B2_eq}
use Rattle.rule_views.specs.declared.nodes.Pair.{Pair}
use Rattle.rule_views.specs.declared.nodes.Pair.TheVariants as P
use Rattle.rule_views.specs.declared.row.Row.{Row}
use Rattle.rule_views.specs.declared.row.Row.TheVariants as R
use Rattle.rule_views.specs.declared.view.Arg.TheVariants as A
use Rattle.rule_views.specs.declared.view.Made.{Made}
use Rattle.rule_views.specs.declared.view.Made.TheVariants as M
use Rattle.rule_views.specs.Nodes.{pair_node}
use Rattle.rule_views.specs.Rows.{DecidingOf}
use Rattle.rule_views.specs.Makes.{Makes}
use Rattle.rule_views.specs.Sees.{Sight, IsPair, NoPair, IsConstant, NoConstant}
use Rattle.rule_views.specs.Fires.{FiredWith, FiredOfPair, NoneOfPair}
use Rattle.rule_views.specs.Variables.{Variables}
use Rattle.rule_views.proofs.Seen.{pair_only}
use Rattle.rule_views.proofs.Fire.{two_seen, with_seen, with_constant}
use Rattle.rule_conditions.specs.Tests.{Turns, Repeats, compare_negated, signed_negated, NoComparison, IsNegation, NoTest, IsTestAt, NoneDecided}

-- ---- rules, by the constant

turned_rule : (ws : ℕ → ℕ) (p : Pair) (k n : Expr) (c : Word) → Turns p c → Negated k n
    → DecidingOf R.B1 ws (pair_node p k (E.Const c)) n
turned_rule ws (P.Arithmetic O.Xor) k n c h m = (B1_xor k n c m h, refl)
turned_rule ws (P.Arithmetic O.Add) k n c h m = absurd h
turned_rule ws (P.Arithmetic O.Sub) k n c h m = absurd h
turned_rule ws (P.Arithmetic O.Mul) k n c h m = absurd h
turned_rule ws (P.Arithmetic O.And) k n c h m = absurd h
turned_rule ws (P.Arithmetic O.Or) k n c h m = absurd h
turned_rule ws (P.Division op) k n c h m = absurd h
turned_rule ws (P.SignedDivision op) k n c h m = absurd h
turned_rule ws (P.Shift op) k n c h m = absurd h
turned_rule ws (P.Compare C.Eq) k n c h m = (B1_eq k n c m h, refl)
turned_rule ws (P.Compare C.Ne) k n c h m = (B1_ne k n c m h, refl)
turned_rule ws (P.Compare C.Lt) k n c h m = absurd h
turned_rule ws (P.Compare C.Le) k n c h m = absurd h
turned_rule ws (P.SignedCompare op) k n c h m = absurd h
turned_rule ws P.Concat k n c h m = absurd h
turned_rule ws (P.Overflow op) k n c h m = absurd h

repeated_rule : (ws : ℕ → ℕ) (p : Pair) (b : Expr) (c : Word) → Repeats p c → IsTest b
    → DecidingOf R.B2 ws (pair_node p b (E.Const c)) b
repeated_rule ws (P.Arithmetic op) b c h t = absurd h
repeated_rule ws (P.Division op) b c h t = absurd h
repeated_rule ws (P.SignedDivision op) b c h t = absurd h
repeated_rule ws (P.Shift op) b c h t = absurd h
repeated_rule ws (P.Compare C.Ne) b c h t = (B2_ne b c t h, refl)
repeated_rule ws (P.Compare C.Eq) b c h t = (B2_eq b c t h, refl)
repeated_rule ws (P.Compare C.Lt) b c h t = absurd h
repeated_rule ws (P.Compare C.Le) b c h t = absurd h
repeated_rule ws (P.SignedCompare op) b c h t = absurd h
repeated_rule ws P.Concat b c h t = absurd h
repeated_rule ws (P.Overflow op) b c h t = absurd h

-- what a left side compares with a constant
data Decision (l : Expr) : Type 0 where
  Turned : (p : Pair) (k n : Expr) (c : Word) → Turns p c → Negated k n → pair_node p k (E.Const c) ≡ l → Decision l
  Repeated : (p : Pair) (b : Expr) (c : Word) → Repeats p c → IsTest b → pair_node p b (E.Const c) ≡ l → Decision l

decision : (l r : Expr) → Deciding l r → Decision l
decision l r (B1_xor k n c m v) = Turned (P.Arithmetic O.Xor) k n c v m refl
decision l r (B1_eq k n c m v) = Turned (P.Compare C.Eq) k n c v m refl
decision l r (B1_ne k n c m v) = Turned (P.Compare C.Ne) k n c v m refl
decision l r (B2_ne b c t v) = Repeated (P.Compare C.Ne) b c v t refl
decision l r (B2_eq b c t v) = Repeated (P.Compare C.Eq) b c v t refl

module _ {T : Type 0} (sees : Sight T) where
  -- ---- negations

  abbrev Turning : Pair → T → T → Made T → Type 0
  Turning p x y made = (vs : Variables) (s t : Expr) → sees vs x s → sees vs y t
      → (n : Expr) × (Negated (pair_node p s t) n × Makes (sees vs) made n)

  compare_turns : (op : CompareOp) (x y : T) → Turning (P.Compare op) x y (compare_negated op x y)
  compare_turns C.Eq x y vs s t p q = (E.Compare C.Ne s t, (L.Eq s t, (s, (t, (refl, p, q)))))
  compare_turns C.Ne x y vs s t p q = (E.Compare C.Eq s t, (L.Ne s t, (s, (t, (refl, p, q)))))
  compare_turns C.Lt x y vs s t p q = (E.Compare C.Le t s, (L.Lt s t, (t, (s, (refl, q, p)))))
  compare_turns C.Le x y vs s t p q = (E.Compare C.Lt t s, (L.Le s t, (t, (s, (refl, q, p)))))

  signed_turns : (op : SignedCompareOp) (x y : T) → Turning (P.SignedCompare op) x y (signed_negated op x y)
  signed_turns I.SLt x y vs s t p q = (E.SignedCompare I.SLe t s, (L.SLt s t, (t, (s, (refl, q, p)))))
  signed_turns I.SLe x y vs s t p q = (E.SignedCompare I.SLt t s, (L.SLe s t, (t, (s, (refl, q, p)))))

  module _ (at x y : T) (node : Pair) (i : IsPair sees at node x y) where
    is_negation : (made : Made T) → Turning node x y made → IsNegation sees at made
    is_negation made turns = record {
      seen = λ vs e s. (
          let o = i.operands vs e s in
          let n = turns vs o.0 o.1.0 o.1.1.0 o.1.1.1 in
          record {
            k = pair_node node o.0 o.1.0;
            n = n.0;
            negated = n.1.0;
            seen = i.joins vs e o.0 o.1.0 s o.1.1.0 o.1.1.1;
            makes = n.1.1;
          });
    }

    pub compare_negation : (op : CompareOp) (made : Made T) → node ≡ P.Compare op → made ≡ compare_negated op x y
        → IsNegation sees at made
    compare_negation op made is same =
        is_negation made
        (subst (λ p. Turning p x y made) (sym is) (subst (Turning (P.Compare op) x y) (sym same) (compare_turns op x y)))

    pub signed_negation : (op : SignedCompareOp) (made : Made T) → node ≡ P.SignedCompare op → made ≡ signed_negated op x y
        → IsNegation sees at made
    signed_negation op made is same =
        is_negation made
        (subst (λ p. Turning p x y made) (sym is)
        (subst (Turning (P.SignedCompare op) x y) (sym same) (signed_turns op x y)))

    node_is : (vs : Variables) (p : Pair) (u v : Expr) → sees vs at (pair_node p u v) → node ≡ p
    node_is vs p u v s = sym (pair_only sees at x y node i vs p u v s).0

    pub no_comparison : ((op : CompareOp) → node ≡ P.Compare op → ⊥)
        → ((op : SignedCompareOp) → node ≡ P.SignedCompare op → ⊥) → NoComparison sees at
    no_comparison n m vs k r (L.Eq u v) s = n C.Eq (node_is vs (P.Compare C.Eq) u v s)
    no_comparison n m vs k r (L.Ne u v) s = n C.Ne (node_is vs (P.Compare C.Ne) u v s)
    no_comparison n m vs k r (L.Lt u v) s = n C.Lt (node_is vs (P.Compare C.Lt) u v s)
    no_comparison n m vs k r (L.Le u v) s = n C.Le (node_is vs (P.Compare C.Le) u v s)
    no_comparison n m vs k r (L.SLt u v) s = m I.SLt (node_is vs (P.SignedCompare I.SLt) u v s)
    no_comparison n m vs k r (L.SLe u v) s = m I.SLe (node_is vs (P.SignedCompare I.SLe) u v s)

    -- ---- tests

    is_test_at : ((u v : Expr) → IsTest (pair_node node u v)) → IsTestAt sees at
    is_test_at test = record {
      seen = λ vs e s. (
          let o = i.operands vs e s in
          (pair_node node o.0 o.1.0, (test o.0 o.1.0, i.joins vs e o.0 o.1.0 s o.1.1.0 o.1.1.1)));
    }

    pub compare_test : (op : CompareOp) → node ≡ P.Compare op → IsTestAt sees at
    compare_test op is = is_test_at (λ u v. subst (λ p. IsTest (pair_node p u v)) (sym is) (L.Compare op u v))

    pub signed_test : (op : SignedCompareOp) → node ≡ P.SignedCompare op → IsTestAt sees at
    signed_test op is = is_test_at (λ u v. subst (λ p. IsTest (pair_node p u v)) (sym is) (L.SignedCompare op u v))

    pub overflow_test : (op : OverflowOp) → node ≡ P.Overflow op → IsTestAt sees at
    overflow_test op is = is_test_at (λ u v. subst (λ p. IsTest (pair_node p u v)) (sym is) (L.Overflow op u v))

    pub no_test : ((op : CompareOp) → node ≡ P.Compare op → ⊥)
        → ((op : SignedCompareOp) → node ≡ P.SignedCompare op → ⊥)
        → ((op : OverflowOp) → node ≡ P.Overflow op → ⊥) → NoTest sees at
    no_test n m k vs b (L.Compare op u v) s = n op (node_is vs (P.Compare op) u v s)
    no_test n m k vs b (L.SignedCompare op u v) s = m op (node_is vs (P.SignedCompare op) u v s)
    no_test n m k vs b (L.Overflow op u v) s = k op (node_is vs (P.Overflow op) u v s)

  pub no_pair_compared : (at : T) → NoPair sees at → NoComparison sees at
  no_pair_compared at n vs k r (L.Eq u v) s = n vs (P.Compare C.Eq) u v s
  no_pair_compared at n vs k r (L.Ne u v) s = n vs (P.Compare C.Ne) u v s
  no_pair_compared at n vs k r (L.Lt u v) s = n vs (P.Compare C.Lt) u v s
  no_pair_compared at n vs k r (L.Le u v) s = n vs (P.Compare C.Le) u v s
  no_pair_compared at n vs k r (L.SLt u v) s = n vs (P.SignedCompare I.SLt) u v s
  no_pair_compared at n vs k r (L.SLe u v) s = n vs (P.SignedCompare I.SLe) u v s

  pub no_pair_tested : (at : T) → NoPair sees at → NoTest sees at
  no_pair_tested at n vs b (L.Compare op u v) s = n vs (P.Compare op) u v s
  no_pair_tested at n vs b (L.SignedCompare op u v) s = n vs (P.SignedCompare op) u v s
  no_pair_tested at n vs b (L.Overflow op u v) s = n vs (P.Overflow op) u v s

  -- ---- what functions answer

  module _ (p : Pair) (a : T) (c : Word) where
    pub turned_fires : (made : Made T) → Turns p c → IsNegation sees a made → FiredWith (DecidingOf R.B1) sees p a c made
    turned_fires made h negation = record {
      fires = λ vs x sized s. (
          let n = negation.seen vs x s in
          record { x = n.k; r = n.n; left = n.seen; rule = turned_rule vs.widths p n.k n.n c h n.negated; makes = n.makes });
    }

    pub repeated_fires : Repeats p c → IsTestAt sees a → FiredWith (DecidingOf R.B2) sees p a c (M.Is (A.Place a))
    repeated_fires h test = record {
      fires = λ vs x sized s. (
          let b = test.seen vs x s in
          record { x = b.0; r = b.0; left = b.1.1; rule = repeated_rule vs.widths p b.0 c h b.1.0; makes = b.1.1 });
    }

  module _ (p : Pair) (a b : T) where
    pub no_constant : NoConstant sees b → NoneOfPair (λ ws. Deciding) sees p a b
    no_constant n = record {
      none = λ vs x y r sized rule s t. (
          elim (decision (pair_node p x y) r rule) [
            | Turned q k m d h g is ↦ n vs d (two_seen sees p a b vs x y s t q k (E.Const d) is).1.1
            | Repeated q k d h g is ↦ n vs d (two_seen sees p a b vs x y s t q k (E.Const d) is).1.1
          ]);
    }

    module _ (c : Word) (k : IsConstant sees b c) where
      pub none_decided : NoneDecided sees p a c → NoneOfPair (λ ws. Deciding) sees p a b
      none_decided n = record {
        none = λ vs x y r sized rule s t. (
            elim (decision (pair_node p x y) r rule) [
              | Turned q u m d h g is ↦ (
                  let e = with_seen sees p a b c k vs x y s t q u d is in
                  let turns : Turns p c = subst (Turns p) e.word (subst (λ o. Turns o d) e.node h) in
                  n.turns turns vs u m g e.letter)
              | Repeated q u d h g is ↦ (
                  let e = with_seen sees p a b c k vs x y s t q u d is in
                  let repeats : Repeats p c = subst (Repeats p) e.word (subst (λ o. Repeats o d) e.node h) in
                  n.repeats repeats vs u g e.letter)
            ]);
      }

      pub decided_fires : (row : Row) (made : Made T) → FiredWith (DecidingOf row) sees p a c made
          → FiredOfPair (DecidingOf row) sees p a b made
      decided_fires row made f = with_constant sees (DecidingOf row) p a b c made k f
