-- What is seen at a node of a graph.
use Rattle.std.proofs.Common.{◌≡◌, ◌⊎◌, ⊎_elim, inl, inr, ℕ, List, Some, refl, sym, ap, ◌∙◌, subst}
use Rattle.bits_core.specs.declared.word.Word.{Word}
use Rattle.cmeaning.specs.declared.tree.Expr.{Expr}
use Rattle.cmeaning.specs.declared.tree.Expr.TheVariants as E
use Rattle.rules.specs.Letters.{IsAtom, Var, Const}
use Rattle.rule_views.specs.declared.nodes.Single.{Single}
use Rattle.rule_views.specs.declared.nodes.Pair.{Pair}
use Rattle.rule_views.specs.Nodes.{single_node, pair_node}
use Rattle.rule_views.specs.Sees.{Sight, IsVariable, IsSame, IsConstant, NoConstant, IsSingle, NoSingle, IsPair, NoPair}
use Rattle.rule_views.specs.Variables.{Variables}
use Rattle.rule_views.proofs.Layers.{same_pair, same_single, same_const, same_var, pair_no_single, pair_no_const, pair_no_var, single_no_const, single_no_var, const_no_var}
use Rattle.rule_graph.specs.declared.node.Op.{Op}
use Rattle.rule_graph.specs.declared.node.Op.TheVariants as O
use Rattle.rule_graph.specs.declared.node.Node.{Node}
use Rattle.rule_graph.specs.Graph.{op_at, real, Seen, AsValue, AsConst, AsSingle, AsPair}
use Rattle.rule_graph.specs.Sees.{AreOf, IsSeen}

pub some_op : (o p : Op) → Some o ≡ Some p → o ≡ p
some_op o p e = cc

pub some_word : (c d : Word) → Some (O.Const c) ≡ Some (O.Const d) → c ≡ d
some_word c d e = cc

-- ---- what a node that is seen as an expression of some kind is

pub record SingleSeen (nodes : List Node) (i : ℕ) (s : Single) (x : Expr) : Type 0 where
  pub a : ℕ
  pub is : op_at nodes i ≡ Some (O.Single s a)
  pub operand : Seen nodes (real nodes a) x

pub record PairSeen (nodes : List Node) (i : ℕ) (p : Pair) (x y : Expr) : Type 0 where
  pub a : ℕ
  pub b : ℕ
  pub is : op_at nodes i ≡ Some (O.Pair p a b)
  pub left : Seen nodes (real nodes a) x
  pub right : Seen nodes (real nodes b) y

module _ (nodes : List Node) where
  single_of : (i : ℕ) (s : Single) (x e : Expr) → e ≡ single_node s x → Seen nodes i e → SingleSeen nodes i s x
  single_of i s x e q (AsValue j f is) = absurd (single_no_var s x j (sym q ∙ is))
  single_of i s x e q (AsConst j f c is at) = absurd (single_no_const s x c (sym q ∙ is))
  single_of i s x e q (AsSingle j f t a y is at k) =
      let h = same_single t s y x (sym is ∙ q) in
      record { a = a; is = at ∙ ap (λ z. Some (O.Single z a)) h.0; operand = subst (Seen nodes (real nodes a)) h.1 k }
  single_of i s x e q (AsPair j f p a b y z is at k l) = absurd (pair_no_single p y z s x (sym is ∙ q))

  pair_of : (i : ℕ) (p : Pair) (x y e : Expr) → e ≡ pair_node p x y → Seen nodes i e → PairSeen nodes i p x y
  pair_of i p x y e q (AsValue j f is) = absurd (pair_no_var p x y j (sym q ∙ is))
  pair_of i p x y e q (AsConst j f c is at) = absurd (pair_no_const p x y c (sym q ∙ is))
  pair_of i p x y e q (AsSingle j f s a u is at k) = absurd (pair_no_single p x y s u (sym q ∙ is))
  pair_of i p x y e q (AsPair j f t a b u v is at k l) =
      let h = same_pair t p u v x y (sym is ∙ q) in
      record {
        a = a;
        b = b;
        is = at ∙ ap (λ z. Some (O.Pair z a b)) h.node;
        left = subst (Seen nodes (real nodes a)) h.left k;
        right = subst (Seen nodes (real nodes b)) h.right l;
      }

  const_of : (i : ℕ) (c : Word) (e : Expr) → e ≡ E.Const c → Seen nodes i e → op_at nodes i ≡ Some (O.Const c)
  const_of i c e q (AsValue j f is) = absurd (const_no_var c j (sym q ∙ is))
  const_of i c e q (AsConst j f d is at) = at ∙ ap (λ z. Some (O.Const z)) (same_const d c (sym is ∙ q))
  const_of i c e q (AsSingle j f s a x is at k) = absurd (single_no_const s x c (sym is ∙ q))
  const_of i c e q (AsPair j f p a b x y is at k l) = absurd (pair_no_const p x y c (sym is ∙ q))

  var_of : (i v : ℕ) (e : Expr) → e ≡ E.Var v → Seen nodes i e → v ≡ i
  var_of i v e q (AsValue j f is) = same_var v j (sym q ∙ is)
  var_of i v e q (AsConst j f c is at) = absurd (const_no_var c v (sym is ∙ q))
  var_of i v e q (AsSingle j f s a x is at k) = absurd (single_no_var s x v (sym is ∙ q))
  var_of i v e q (AsPair j f p a b x y is at k l) = absurd (pair_no_var p x y v (sym is ∙ q))

  -- ---- what a node of some op is seen as

  as_const : (i : ℕ) (c : Word) (e : Expr) → op_at nodes i ≡ Some (O.Const c) → Seen nodes i e
      → IsVariable e ⊎ (e ≡ E.Const c)
  as_const i c e q (AsValue j f is) = inl (j, is)
  as_const i c e q (AsConst j f d is at) =
      let h : Some (O.Const d) ≡ Some (O.Const c) = sym at ∙ q in inr (is ∙ ap E.Const (some_word d c h))
  as_const i c e q (AsSingle j f s a x is at k) =
      let h : Some (O.Single s a) ≡ Some (O.Const c) = sym at ∙ q in absurd cc
  as_const i c e q (AsPair j f p a b x y is at k l) =
      let h : Some (O.Pair p a b) ≡ Some (O.Const c) = sym at ∙ q in absurd cc

  abbrev OverOne : Single → ℕ → Expr → Type 0
  OverOne s a e = (x : Expr) × ((e ≡ single_node s x) × Seen nodes (real nodes a) x)

  as_single : (i : ℕ) (s : Single) (a : ℕ) (e : Expr) → op_at nodes i ≡ Some (O.Single s a) → Seen nodes i e
      → IsVariable e ⊎ OverOne s a e
  as_single i s a e q (AsValue j f is) = inl (j, is)
  as_single i s a e q (AsConst j f c is at) =
      let h : Some (O.Const c) ≡ Some (O.Single s a) = sym at ∙ q in absurd cc
  as_single i s a e q (AsSingle j f t b x is at k) =
      let h : Some (O.Single t b) ≡ Some (O.Single s a) = sym at ∙ q in
      let node : t ≡ s = cc in
      let input : b ≡ a = cc in
      inr (x, (is ∙ ap (λ z. single_node z x) node, subst (λ z. Seen nodes (real nodes z) x) input k))
  as_single i s a e q (AsPair j f p b c x y is at k l) =
      let h : Some (O.Pair p b c) ≡ Some (O.Single s a) = sym at ∙ q in absurd cc

  record OverTwo (p : Pair) (a b : ℕ) (e : Expr) : Type 0 where
    x : Expr
    y : Expr
    is : e ≡ pair_node p x y
    left : Seen nodes (real nodes a) x
    right : Seen nodes (real nodes b) y

  as_pair : (i : ℕ) (p : Pair) (a b : ℕ) (e : Expr) → op_at nodes i ≡ Some (O.Pair p a b) → Seen nodes i e
      → IsVariable e ⊎ OverTwo p a b e
  as_pair i p a b e q (AsValue j f is) = inl (j, is)
  as_pair i p a b e q (AsConst j f c is at) =
      let h : Some (O.Const c) ≡ Some (O.Pair p a b) = sym at ∙ q in absurd cc
  as_pair i p a b e q (AsSingle j f s c x is at k) =
      let h : Some (O.Single s c) ≡ Some (O.Pair p a b) = sym at ∙ q in absurd cc
  as_pair i p a b e q (AsPair j f t c d x y is at k l) =
      let h : Some (O.Pair t c d) ≡ Some (O.Pair p a b) = sym at ∙ q in
      let node : t ≡ p = cc in
      let one : c ≡ a = cc in
      let two : d ≡ b = cc in
      inr (record {
        x = x;
        y = y;
        is = is ∙ ap (λ z. pair_node z x y) node;
        left = subst (λ z. Seen nodes (real nodes z) x) one k;
        right = subst (λ z. Seen nodes (real nodes z) y) two l;
      })

-- a place whose graph and number are those of an input
pub record IsInput (nodes graph : List Node) (at i : ℕ) : Type 0 where
  pub same : graph ≡ nodes
  pub is : at ≡ real nodes i

module _ (nodes graph : List Node) (at i : ℕ) (h : IsInput nodes graph at i) (vs : Variables) (e : Expr) where
  to_input : AreOf nodes vs → Seen nodes (real nodes i) e → IsSeen graph at vs e
  to_input v s = subst (λ g. IsSeen g at vs e) (sym h.same)
      (record { variables = v; seen = subst (λ k. Seen nodes k e) (sym h.is) s })

  of_input : IsSeen graph at vs e → Seen nodes (real nodes i) e
  of_input s = subst (λ k. Seen nodes k e) h.is (subst (λ g. IsSeen g at vs e) h.same s).seen

-- ---- the answers about a place; places of a type, by the graph and the number that each holds

module _ {S : Type 0} (nodes : S → List Node) (at : S → ℕ) where
  abbrev pub Shows : Sight S
  Shows vs p e = IsSeen (nodes p) (at p) vs e

  pub const_here : (p : S) (c : Word) → op_at (nodes p) (at p) ≡ Some (O.Const c) → IsConstant Shows p c
  const_here p c is = record {
    only = λ vs e s. as_const (nodes p) (at p) c e is s.seen;
    seen = λ vs e s. record { variables = s.variables; seen = AsConst (at p) (E.Const c) c refl is };
  }

  pub const_none : (p : S) → ((c : Word) → op_at (nodes p) (at p) ≡ Some (O.Const c) → ⊥) → NoConstant Shows p
  const_none p never vs c s = never c (const_of (nodes p) (at p) c (E.Const c) refl s.seen)

  pub single_none : (p : S) → ((s : Single) (a : ℕ) → op_at (nodes p) (at p) ≡ Some (O.Single s a) → ⊥)
      → NoSingle Shows p
  single_none p never vs s x h =
      let k = single_of (nodes p) (at p) s x (single_node s x) refl h.seen in never s k.a k.is

  pub pair_none : (p : S) → ((t : Pair) (a b : ℕ) → op_at (nodes p) (at p) ≡ Some (O.Pair t a b) → ⊥)
      → NoPair Shows p
  pair_none p never vs t x y h =
      let k = pair_of (nodes p) (at p) t x y (pair_node t x y) refl h.seen in never t k.a k.b k.is

  module _ (p l : S) (a : ℕ) (il : IsInput (nodes p) (nodes l) (at l) a) where
    pub single_here : (s : Single) → op_at (nodes p) (at p) ≡ Some (O.Single s a) → IsSingle Shows p s l
    single_here s is =
        let to : (vs : Variables) (x : Expr) → AreOf (nodes p) vs → Seen (nodes p) (real (nodes p) a) x → Shows vs l x =
        λ vs x. to_input (nodes p) (nodes l) (at l) a il vs x in
        let value = E.Var (real (nodes p) a) in
        record {
          only = λ vs e h. ⊎_elim (λ (v : IsVariable e). inl v)
              (λ (o : OverOne (nodes p) s a e). inr (o.0, (o.1.0, to vs o.0 h.variables o.1.1)))
              (as_single (nodes p) (at p) s a e is h.seen);
          joins = λ vs e x h k. record {
            variables = h.variables;
            seen = AsSingle (at p) (single_node s x) s a x refl is (of_input (nodes p) (nodes l) (at l) a il vs x k);
          };
          operand = λ vs e h. (value, to vs value h.variables (AsValue (real (nodes p) a) value refl));
        }

    module _ (r : S) (b : ℕ) (ir : IsInput (nodes p) (nodes r) (at r) b) where
      pub pair_here : (t : Pair) → op_at (nodes p) (at p) ≡ Some (O.Pair t a b) → IsPair Shows p t l r
      pair_here t is =
          let left : (vs : Variables) (x : Expr) → AreOf (nodes p) vs → Seen (nodes p) (real (nodes p) a) x → Shows vs l x =
          λ vs x. to_input (nodes p) (nodes l) (at l) a il vs x in
          let right : (vs : Variables) (x : Expr) → AreOf (nodes p) vs → Seen (nodes p) (real (nodes p) b) x → Shows vs r x =
          λ vs x. to_input (nodes p) (nodes r) (at r) b ir vs x in
          let one = E.Var (real (nodes p) a) in
          let two = E.Var (real (nodes p) b) in
          record {
            only = λ vs e h. ⊎_elim (λ (v : IsVariable e). inl v)
                (λ (o : OverTwo (nodes p) t a b e). inr (record {
                  x = o.x;
                  y = o.y;
                  is = o.is;
                  left = left vs o.x h.variables o.left;
                  right = right vs o.y h.variables o.right;
                }))
                (as_pair (nodes p) (at p) t a b e is h.seen);
            joins = λ vs e x y h k m. record {
              variables = h.variables;
              seen = AsPair (at p) (pair_node t x y) t a b x y refl is
                  (of_input (nodes p) (nodes l) (at l) a il vs x k) (of_input (nodes p) (nodes r) (at r) b ir vs y m);
            };
            operands = λ vs e h. (
              one,
              (
                two,
                (
                  left vs one h.variables (AsValue (real (nodes p) a) one refl),
                  right vs two h.variables (AsValue (real (nodes p) b) two refl),
                ),
              ),
            );
          }

  -- one node, or one constant at both
  module _ (p q : S) where
    pub same_number : at p ≡ at q → IsSame Shows p q
    same_number e = (
      E.Var (at p),
      (
        Var (at p),
        λ vs x y s t. (
          record { variables = s.variables; seen = AsValue (at p) (E.Var (at p)) refl },
          record { variables = t.variables; seen = AsValue (at q) (E.Var (at p)) (ap E.Var e) },
        ),
      ),
    )

    pub same_constant : (c : Word) → IsConstant Shows p c → op_at (nodes q) (at q) ≡ Some (O.Const c) → IsSame Shows p q
    same_constant c h k = (
      E.Const c,
      (
        Const c,
        λ vs x y s t. (
          h.seen vs x s,
          record { variables = t.variables; seen = AsConst (at q) (E.Const c) c refl k },
        ),
      ),
    )

    -- of two numbers an atom that is seen at both is a constant
    pub unlike : (P : Type 0) → (at p ≡ at q → ⊥) → (vs : Variables)
        → ((d : Word) → Shows vs p (E.Const d) → op_at (nodes q) (at q) ≡ Some (O.Const d) → P)
        → (e : Expr) → IsAtom e → Shows vs p e → Shows vs q e → P
    unlike P differ vs f e (Var v) s t =
        absurd (differ (sym (var_of (nodes p) (at p) v (E.Var v) refl s.seen) ∙ var_of (nodes q) (at q) v (E.Var v) refl t.seen))
    unlike P differ vs f e (Const d) s t = f d s (const_of (nodes q) (at q) d (E.Const d) refl t.seen)
