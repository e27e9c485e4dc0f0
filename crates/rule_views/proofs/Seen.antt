-- What follows from an answer about a place.
use Rattle.std.proofs.Common.{◌≡◌, ◌⊎◌, ⊎_elim, sym, subst}
use Rattle.bits_core.specs.declared.word.Word.{Word}
use Rattle.cmeaning.specs.declared.tree.Expr.{Expr}
use Rattle.cmeaning.specs.declared.tree.Expr.TheVariants as E
use Rattle.rule_views.specs.declared.nodes.Single.{Single}
use Rattle.rule_views.specs.declared.nodes.Pair.{Pair}
use Rattle.rule_views.specs.Nodes.{single_node, pair_node}
use Rattle.rule_views.specs.Sees.{Sight, IsVariable, IsConstant, IsOver, IsSingle, AreUnder, IsPair}
use Rattle.rule_views.specs.Variables.{Variables}
use Rattle.rule_views.proofs.Layers.{same_pair, same_single, same_const, pair_no_var, single_no_var, const_no_var}

module _ {S : Type 0} (sees : Sight S) where
  -- the constant that is seen
  pub constant_only : (at : S) (c : Word) → IsConstant sees at c → (vs : Variables) (d : Word) → sees vs at (E.Const d)
      → d ≡ c
  constant_only at c k vs d s =
      ⊎_elim (λ (v : IsVariable (E.Const d)). absurd (const_no_var d v.0 v.1))
      (λ (e : E.Const d ≡ E.Const c). same_const d c e) (k.only vs (E.Const d) s)

  -- the node that is seen, and its operands
  pub pair_only : (at a b : S) (p : Pair) → IsPair sees at p a b → (vs : Variables) (q : Pair) (x y : Expr)
      → sees vs at (pair_node q x y) → (q ≡ p) × (sees vs a x × sees vs b y)
  pair_only at a b p k vs q x y s =
      ⊎_elim (λ (v : IsVariable (pair_node q x y)). absurd (pair_no_var q x y v.0 v.1))
      (λ (u : AreUnder sees p a b vs (pair_node q x y)).
      let e = same_pair q p x y u.x u.y u.is in
      (e.node, (subst (sees vs a) (sym e.left) u.left, subst (sees vs b) (sym e.right) u.right)))
      (k.only vs (pair_node q x y) s)

  pub single_only : (at a : S) (t : Single) → IsSingle sees at t a → (vs : Variables) (u : Single) (x : Expr)
      → sees vs at (single_node u x) → (u ≡ t) × sees vs a x
  single_only at a t k vs u x s =
      ⊎_elim (λ (v : IsVariable (single_node u x)). absurd (single_no_var u x v.0 v.1))
      (λ (o : IsOver sees t a vs (single_node u x)).
      let e = same_single u t x o.0 o.1.0 in
      (e.0, subst (sees vs a) (sym e.1) o.1.1))
      (k.only vs (single_node u x) s)
