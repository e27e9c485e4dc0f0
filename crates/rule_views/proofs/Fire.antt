-- How answers about places join to what a rule asks.
use Rattle.std.proofs.Common.{◌≡◌, ℕ, Some, sym, ap, subst, ◌∙◌, refl}
use Rattle.bits_core.specs.declared.word.Word.{Word}
use Rattle.cmeaning.specs.declared.tree.UnaryOp.{UnaryOp}
use Rattle.cmeaning.specs.declared.tree.CompareOp.{CompareOp}
use Rattle.cmeaning.specs.declared.tree.ArithmeticOp.{ArithmeticOp}
use Rattle.cmeaning.specs.declared.tree.ArithmeticOp.TheVariants as A
use Rattle.cmeaning.specs.declared.tree.Expr.{Expr}
use Rattle.cmeaning.specs.declared.tree.Expr.TheVariants as E
use Rattle.rules.specs.Size.{size_of}
use Rattle.rules.specs.Letters.{Commutes, IsWide}
use Rattle.rules.proofs.Nodes.{size_of_const, size_of_arithmetic, size_of_compare}
use Rattle.rules.proofs.Words.{some_is}
use Rattle.rules.proofs.Has.{alike}
use Rattle.rule_views.specs.declared.nodes.Single.{Single}
use Rattle.rule_views.specs.declared.nodes.Single.TheVariants as S
use Rattle.rule_views.specs.declared.nodes.Pair.{Pair}
use Rattle.rule_views.specs.declared.nodes.Pair.TheVariants as P
use Rattle.rule_views.specs.declared.view.Made.{Made}
use Rattle.rule_views.specs.Nodes.{pair_node}
use Rattle.rule_views.specs.Sees.{Sight, IsSized, IsWideAt, IsConstant, NoConstant, NoZero, IsPair, NoPair, NoNode, IsSingle, NoSingle}
use Rattle.rule_views.specs.Fires.{Family, FiredOfPair, FiredWith}
use Rattle.rule_views.specs.Beside.{ConstOn, OnRight, OnLeft, NoBeside, IsBeside, NoArithmetic, NoUnary}
use Rattle.rule_views.specs.Variables.{Variables}
use Rattle.rule_views.proofs.Layers.{same_pair, same_const}
use Rattle.rule_views.proofs.Seen.{pair_only, single_only, constant_only}

-- a node over a letter and a constant is so part by part
pub record SameWith (p q : Pair) (x y : Expr) (c d : Word) : Type 0 where
  pub node : p ≡ q
  pub left : x ≡ y
  pub word : c ≡ d

pub same_with : (p q : Pair) (x y : Expr) (c d : Word) → pair_node p x (E.Const c) ≡ pair_node q y (E.Const d)
    → SameWith p q x y c d
same_with p q x y c d e =
    let s = same_pair p q x (E.Const c) y (E.Const d) e in
    record { node = s.node; left = s.left; word = same_const c d s.right }

module _ {T : Type 0} (sees : Sight T) where
  -- whatever is seen has the one width
  pub wide_only : (a : T) (w : ℕ) → IsWideAt sees a w → (vs : Variables) (x : Expr) (v : ℕ) → sees vs a x → IsWide vs.widths x v
      → v ≡ w
  wide_only a w wide vs x v s is = some_is v w (sym is ∙ wide vs x s)

  -- a rule of a node over a constant is one where a constant stands
  pub with_constant : (family : Family) (p : Pair) (a b : T) (c : Word) (made : Made T) → IsConstant sees b c
      → FiredWith family sees p a c made → FiredOfPair family sees p a b made
  with_constant family p a b c made k f = record {
    fires = λ vs x y sized s t. (
        let const : sees vs b (E.Const c) = k.seen vs y t in
        let w = f.fires vs x (λ u h. sized u (E.Const c) h const) s in
        record {
          x = w.x;
          y = E.Const c;
          r = w.r;
          left = w.left;
          right = const;
          rule = w.rule;
          makes = w.makes;
        });
  }

  -- ---- a left side that is seen, by the operands of the node

  pub two_seen : (p : Pair) (a b : T) (vs : Variables) (x y : Expr) → sees vs a x → sees vs b y → (q : Pair) (u v : Expr)
      → pair_node q u v ≡ pair_node p x y → (q ≡ p) × (sees vs a u × sees vs b v)
  two_seen p a b vs x y s t q u v is =
      let e = same_pair q p u v x y is in
      (e.node, (subst (sees vs a) (sym e.left) s, subst (sees vs b) (sym e.right) t))

  pub record WithSeen (p : Pair) (a : T) (c : Word) (vs : Variables) (q : Pair) (u : Expr) (d : Word) : Type 0 where
    pub node : q ≡ p
    pub word : d ≡ c
    pub letter : sees vs a u

  pub with_seen : (p : Pair) (a b : T) (c : Word) → IsConstant sees b c → (vs : Variables) (x y : Expr) → sees vs a x
      → sees vs b y → (q : Pair) (u : Expr) (d : Word) → pair_node q u (E.Const d) ≡ pair_node p x y
      → WithSeen p a c vs q u d
  with_seen p a b c k vs x y s t q u d is =
      let e = two_seen p a b vs x y s t q u (E.Const d) is in
      record { node = e.0; word = constant_only sees b c k vs d e.1.1; letter = e.1.0 }

  -- ---- looks

  pub no_zero : (at : T) (c : Word) → IsConstant sees at c → (c.value ≡ 0 → ⊥) → NoZero sees at
  no_zero at c k n vs d z s = n (ap (λ (w : Word). w.value) (sym (constant_only sees at c k vs d s)) ∙ z)

  pub no_other_node : (at a b : T) (p q : Pair) → IsPair sees at q a b → (q ≡ p → ⊥) → NoNode sees at p
  no_other_node at a b p q i n vs x y s = n (sym (pair_only sees at a b q i vs p x y s).0)

  pub of_node : (at a b : T) (p q : Pair) → IsPair sees at q a b → q ≡ p → IsPair sees at p a b
  of_node at a b p q i is = subst (λ r. IsPair sees at r a b) is i

  pub no_pair_arithmetic : (at : T) → NoPair sees at → NoArithmetic sees at
  no_pair_arithmetic at n vs op x y s = n vs (P.Arithmetic op) x y s

  pub no_arithmetic : (at a b : T) (p : Pair) → IsPair sees at p a b → ((op : ArithmeticOp) → p ≡ P.Arithmetic op → ⊥)
      → NoArithmetic sees at
  no_arithmetic at a b p i h vs op x y s = h op (sym (pair_only sees at a b p i vs (P.Arithmetic op) x y s).0)

  module _ (at a b : T) (op : ArithmeticOp) (i : IsPair sees at (P.Arithmetic op) a b) where
    record Opened (vs : Variables) (o : ArithmeticOp) (x y : Expr) : Type 0 where
      node : o ≡ op
      left : sees vs a x
      right : sees vs b y

    opened : (vs : Variables) (o : ArithmeticOp) (x y : Expr) → sees vs at (E.Arithmetic o x y) → Opened vs o x y
    opened vs o x y s =
        let e = pair_only sees at a b (P.Arithmetic op) i vs (P.Arithmetic o) x y s in
        let node : P.Arithmetic o ≡ P.Arithmetic op = e.0 in
        record { node = cc; left = e.1.0; right = e.1.1 }

    op_only : (vs : Variables) (o : ArithmeticOp) (x : Expr) (d : Word) (l : Expr) → ConstOn o x d l → sees vs at l → o ≡ op
    op_only vs o x d l (OnRight q y e) s = (opened vs q y (E.Const e) s).node
    op_only vs o x d l (OnLeft q y e k) s = (opened vs q (E.Const e) y s).node

    pub beside_right : (c : Word) → IsConstant sees b c → IsBeside sees at op a c
    beside_right c k = record {
      only = op_only;
      seen = λ vs e s. (
          let o = i.operands vs e s in
          let const : sees vs b (E.Const c) = k.seen vs o.1.0 o.1.1.1 in
          record {
            x = o.0;
            l = E.Arithmetic op o.0 (E.Const c);
            on = OnRight op o.0 c;
            letter = o.1.1.0;
            seen = i.joins vs e o.0 (E.Const c) s o.1.1.0 const;
          });
    }

    pub beside_left : (c : Word) → Commutes op → IsConstant sees a c → IsBeside sees at op b c
    beside_left c h k = record {
      only = op_only;
      seen = λ vs e s. (
          let o = i.operands vs e s in
          let const : sees vs a (E.Const c) = k.seen vs o.0 o.1.1.0 in
          record {
            x = o.1.0;
            l = E.Arithmetic op (E.Const c) o.1.0;
            on = OnLeft op o.1.0 c h;
            letter = o.1.1.1;
            seen = i.joins vs e (E.Const c) o.1.0 s const o.1.1.1;
          });
    }

    pub beside_neither : NoConstant sees b → NoConstant sees a → NoBeside sees at
    beside_neither n m vs o x c l (OnRight q y e) s = n vs e (opened vs q y (E.Const e) s).right
    beside_neither n m vs o x c l (OnLeft q y e k) s = m vs e (opened vs q (E.Const e) y s).left

    pub beside_difference : NoConstant sees b → op ≡ A.Sub → NoBeside sees at
    beside_difference n is vs o x c l (OnRight q y e) s = n vs e (opened vs q y (E.Const e) s).right
    beside_difference n is vs o x c l (OnLeft q y e k) s = subst Commutes ((opened vs q (E.Const e) y s).node ∙ is) k

  pub no_beside : (at : T) → NoArithmetic sees at → NoBeside sees at
  no_beside at n vs o x c l (OnRight q y e) s = n vs q y (E.Const e) s
  no_beside at n vs o x c l (OnLeft q y e k) s = n vs q (E.Const e) y s

  pub no_unary : (at : T) → NoSingle sees at → NoUnary sees at
  no_unary at n vs op x s = n vs (S.Unary op) x s

  pub no_other_unary : (at a : T) (t : Single) → IsSingle sees at t a → ((op : UnaryOp) → t ≡ S.Unary op → ⊥)
      → NoUnary sees at
  no_other_unary at a t i h vs op x s = h op (sym (single_only sees at a t i vs (S.Unary op) x s).0)

-- the operands of a node that asks for one width have one
pub alike_operands : (ws : ℕ → ℕ) (op : ArithmeticOp) (x y : Expr) → IsSized ws (E.Arithmetic op x y)
    → (w : ℕ) × ((size_of ws x ≡ Some w) × (size_of ws y ≡ Some w))
alike_operands ws op x y h =
    let t = alike (λ v w. v) (size_of ws x) (size_of ws y) h.0 (sym (size_of_arithmetic ws op x y) ∙ h.1) in
    (t.0, (t.1.0, t.1.1))

pub alike_tested : (ws : ℕ → ℕ) (op : CompareOp) (x y : Expr) → IsSized ws (E.Compare op x y)
    → (w : ℕ) × ((size_of ws x ≡ Some w) × (size_of ws y ≡ Some w))
alike_tested ws op x y h =
    let t = alike (λ v w. 1) (size_of ws x) (size_of ws y) h.0 (sym (size_of_compare ws op x y) ∙ h.1) in
    (t.0, (t.1.0, t.1.1))

-- the width of a constant
pub const_wide : (ws : ℕ → ℕ) (c : Word) (w : ℕ) → size_of ws (E.Const c) ≡ Some w → c.width.bytes ≡ w
const_wide ws c w is = some_is c.width.bytes w (sym (size_of_const ws c) ∙ is)

-- beside a constant the operand of that constant's width is as wide
pub beside_wide : (ws : ℕ → ℕ) (op : ArithmeticOp) (x : Expr) (c : Word) (l : Expr) (w : ℕ) → ConstOn op x c l
    → size_of ws l ≡ Some w → c.width.bytes ≡ w
beside_wide ws op x c l w (OnRight q y e) is =
    let t = alike (λ v u. v) (size_of ws y) (size_of ws (E.Const e)) w (sym (size_of_arithmetic ws q y (E.Const e)) ∙ is) in
    const_wide ws e t.0 t.1.1 ∙ t.1.2
beside_wide ws op x c l w (OnLeft q y e k) is =
    let t = alike (λ v u. v) (size_of ws (E.Const e)) (size_of ws y) w (sym (size_of_arithmetic ws q (E.Const e) y) ∙ is) in
    const_wide ws e t.0 t.1.0 ∙ t.1.2

pub commutes_but : (op : ArithmeticOp) → (op ≡ A.Sub → ⊥) → Commutes op
commutes_but A.Add h = tt
commutes_but A.Sub h = h refl
commutes_but A.Mul h = tt
commutes_but A.And h = tt
commutes_but A.Or h = tt
commutes_but A.Xor h = tt
