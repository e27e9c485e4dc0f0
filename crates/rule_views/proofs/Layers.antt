-- The layer of an expression: which kind of node it is, and what its parts are.
use Rattle.std.proofs.Common.{◌≡◌, ℕ, sym, ap, ◌∙◌}
use Rattle.bits_core.specs.declared.word.Word.{Word}
use Rattle.cmeaning.specs.declared.tree.Expr.{Expr, out-Expr, out-roll-Expr, roll-Expr}
use Rattle.cmeaning.specs.declared.tree.Expr.TheOpen.{Expr-F}
use Rattle.cmeaning.specs.declared.tree.Expr.TheVariants as E
use Rattle.rule_views.specs.declared.nodes.Single.{Single}
use Rattle.rule_views.specs.declared.nodes.Single.TheVariants as S
use Rattle.rule_views.specs.declared.nodes.Pair.{Pair}
use Rattle.rule_views.specs.declared.nodes.Pair.TheVariants as P
use Rattle.rule_views.specs.Nodes.{single_node, pair_node}

-- what kind of node a layer is
pub data Kind : Type 0 where
  AVar : ℕ → Kind
  AConst : Word → Kind
  ASingle : Single → Expr → Kind
  APair : Pair → Expr → Expr → Kind

abbrev kind_of : Expr-F Expr → Kind
kind_of (Expr-F.Const c) = AConst c
kind_of (Expr-F.Var v) = AVar v
kind_of (Expr-F.Unary op a) = ASingle (S.Unary op) a
kind_of (Expr-F.Arithmetic op a b) = APair (P.Arithmetic op) a b
kind_of (Expr-F.Division op a b) = APair (P.Division op) a b
kind_of (Expr-F.SignedDivision op a b) = APair (P.SignedDivision op) a b
kind_of (Expr-F.Shift op a b) = APair (P.Shift op) a b
kind_of (Expr-F.Compare op a b) = APair (P.Compare op) a b
kind_of (Expr-F.SignedCompare op a b) = APair (P.SignedCompare op) a b
kind_of (Expr-F.Extend op w a) = ASingle (S.Extend op w) a
kind_of (Expr-F.Part k w a) = ASingle (S.Part k w) a
kind_of (Expr-F.Concat a b) = APair P.Concat a b
kind_of (Expr-F.Overflow op a b) = APair (P.Overflow op) a b
kind_of (Expr-F.Count op a) = ASingle (S.Count op) a

pub kind : Expr → Kind
kind e = kind_of (out-Expr e)

rolled : (l : Expr-F Expr) (e : Expr) → roll-Expr l ≡ e → kind e ≡ kind_of l
unfolding kind
rolled l e is = ap (λ x. kind_of (out-Expr x)) (sym is) ∙ ap kind_of (out-roll-Expr l)

pub kind_var : (v : ℕ) → kind (E.Var v) ≡ AVar v
kind_var v = rolled (Expr-F.Var v) (E.Var v) (E.rolls-Var v)

pub kind_const : (c : Word) → kind (E.Const c) ≡ AConst c
kind_const c = rolled (Expr-F.Const c) (E.Const c) (E.rolls-Const c)

pub kind_single : (s : Single) (x : Expr) → kind (single_node s x) ≡ ASingle s x
kind_single (S.Unary op) x = rolled (Expr-F.Unary op x) (E.Unary op x) (E.rolls-Unary op x)
kind_single (S.Extend op w) x = rolled (Expr-F.Extend op w x) (E.Extend op w x) (E.rolls-Extend op w x)
kind_single (S.Part k w) x = rolled (Expr-F.Part k w x) (E.Part k w x) (E.rolls-Part k w x)
kind_single (S.Count op) x = rolled (Expr-F.Count op x) (E.Count op x) (E.rolls-Count op x)

pub kind_pair : (p : Pair) (x y : Expr) → kind (pair_node p x y) ≡ APair p x y
kind_pair (P.Arithmetic op) x y = rolled (Expr-F.Arithmetic op x y) (E.Arithmetic op x y) (E.rolls-Arithmetic op x y)
kind_pair (P.Division op) x y = rolled (Expr-F.Division op x y) (E.Division op x y) (E.rolls-Division op x y)
kind_pair (P.SignedDivision op) x y = rolled (Expr-F.SignedDivision op x y) (E.SignedDivision op x y) (E.rolls-SignedDivision op x y)
kind_pair (P.Shift op) x y = rolled (Expr-F.Shift op x y) (E.Shift op x y) (E.rolls-Shift op x y)
kind_pair (P.Compare op) x y = rolled (Expr-F.Compare op x y) (E.Compare op x y) (E.rolls-Compare op x y)
kind_pair (P.SignedCompare op) x y = rolled (Expr-F.SignedCompare op x y) (E.SignedCompare op x y) (E.rolls-SignedCompare op x y)
kind_pair P.Concat x y = rolled (Expr-F.Concat x y) (E.Concat x y) (E.rolls-Concat x y)
kind_pair (P.Overflow op) x y = rolled (Expr-F.Overflow op x y) (E.Overflow op x y) (E.rolls-Overflow op x y)

-- ---- nodes of one kind that are equal are so part by part

pub record SamePair (p q : Pair) (x y u v : Expr) : Type 0 where
  pub node : p ≡ q
  pub left : x ≡ u
  pub right : y ≡ v

pub same_pair : (p q : Pair) (x y u v : Expr) → pair_node p x y ≡ pair_node q u v → SamePair p q x y u v
same_pair p q x y u v e =
    let h : APair p x y ≡ APair q u v = sym (kind_pair p x y) ∙ ap kind e ∙ kind_pair q u v in
    record { node = cc; left = cc; right = cc }

pub same_single : (s t : Single) (x u : Expr) → single_node s x ≡ single_node t u → (s ≡ t) × (x ≡ u)
same_single s t x u e =
    let h : ASingle s x ≡ ASingle t u = sym (kind_single s x) ∙ ap kind e ∙ kind_single t u in
    (cc, cc)

pub same_const : (c d : Word) → E.Const c ≡ E.Const d → c ≡ d
same_const c d e = let h : AConst c ≡ AConst d = sym (kind_const c) ∙ ap kind e ∙ kind_const d in cc

pub same_var : (v w : ℕ) → E.Var v ≡ E.Var w → v ≡ w
same_var v w e = let h : AVar v ≡ AVar w = sym (kind_var v) ∙ ap kind e ∙ kind_var w in cc

-- ---- nodes of two kinds differ

pub pair_no_single : (p : Pair) (x y : Expr) (s : Single) (u : Expr) → pair_node p x y ≡ single_node s u → ⊥
pair_no_single p x y s u e =
    let h : APair p x y ≡ ASingle s u = sym (kind_pair p x y) ∙ ap kind e ∙ kind_single s u in absurd cc

pub pair_no_const : (p : Pair) (x y : Expr) (c : Word) → pair_node p x y ≡ E.Const c → ⊥
pair_no_const p x y c e =
    let h : APair p x y ≡ AConst c = sym (kind_pair p x y) ∙ ap kind e ∙ kind_const c in absurd cc

pub pair_no_var : (p : Pair) (x y : Expr) (v : ℕ) → pair_node p x y ≡ E.Var v → ⊥
pair_no_var p x y v e = let h : APair p x y ≡ AVar v = sym (kind_pair p x y) ∙ ap kind e ∙ kind_var v in absurd cc

pub single_no_const : (s : Single) (x : Expr) (c : Word) → single_node s x ≡ E.Const c → ⊥
single_no_const s x c e =
    let h : ASingle s x ≡ AConst c = sym (kind_single s x) ∙ ap kind e ∙ kind_const c in absurd cc

pub single_no_var : (s : Single) (x : Expr) (v : ℕ) → single_node s x ≡ E.Var v → ⊥
single_no_var s x v e =
    let h : ASingle s x ≡ AVar v = sym (kind_single s x) ∙ ap kind e ∙ kind_var v in absurd cc

pub const_no_var : (c : Word) (v : ℕ) → E.Const c ≡ E.Var v → ⊥
const_no_var c v e = let h : AConst c ≡ AVar v = sym (kind_const c) ∙ ap kind e ∙ kind_var v in absurd cc
