-- What is seen at a node of a formed graph has the node's width.
use Rattle.std.proofs.Common.{◌≡◌, ℕ, zero, suc, ◌<◌, List, [], ◌∷◌, length, Option, Some, None, refl, sym, ap, ◌∙◌, arith}
use Rattle.std.proofs.lemmas.Bool.{lt-ltb}
use Rattle.cmeaning.specs.declared.tree.Expr.{Expr}
use Rattle.cmeaning.specs.declared.tree.Expr.TheVariants as E
use Rattle.rules.specs.Size.{size_of}
use Rattle.rules.proofs.Nodes as N
use Rattle.rule_measure.proofs.Alike.{single_alike, pair_alike}
use Rattle.rule_graph.specs.declared.node.Op.{Op}
use Rattle.rule_graph.specs.declared.node.Op.TheVariants as O
use Rattle.rule_graph.specs.declared.node.Node.{Node}
use Rattle.rule_graph.specs.Graph.{op_at, passed, real, width_at, IsPlain, IsFormed, Seen, AsValue, AsConst, AsSingle, AsPair}

-- ---- a COPY passed

-- a node that is no COPY, as wide as the one whose number was given
pub record Stands (nodes : List Node) (a r : ℕ) : Type 0 where
  pub plain : IsPlain nodes r
  pub width : width_at nodes r ≡ width_at nodes a

module _ (nodes : List Node) (f : IsFormed nodes) where
  stands_by : (a : ℕ) → a < length nodes → (o : Option Op) → op_at nodes a ≡ o → Stands nodes a (passed o a)
  stands_by a h None is = record { plain = record { inside = h; no_copy = λ j e. cc }; width = refl }
  stands_by a h (Some O.Entry) is = record { plain = record { inside = h; no_copy = λ j e. cc }; width = refl }
  stands_by a h (Some (O.Copy j)) is = record { plain = f.copy a j is; width = sym (f.copy_width a j is) }
  stands_by a h (Some (O.Const c)) is = record { plain = record { inside = h; no_copy = λ j e. cc }; width = refl }
  stands_by a h (Some (O.Single s x)) is = record { plain = record { inside = h; no_copy = λ j e. cc }; width = refl }
  stands_by a h (Some (O.Pair p x y)) is = record { plain = record { inside = h; no_copy = λ j e. cc }; width = refl }

  -- what an input's number stands for
  pub stands : (a : ℕ) → a < length nodes → Stands nodes a (real nodes a)
  stands a h = stands_by a h (op_at nodes a) refl

width_some : (nodes : List Node) (i : ℕ) → i < length nodes → 0 < width_at nodes i
width_some [] i h = absurd (omega arith)
width_some (n ∷ nodes) zero h = n.width.from
width_some (n ∷ nodes) (suc i) h = width_some nodes i (omega arith)

-- the variable of a node's value
pub var_sized : (nodes : List Node) (i : ℕ) → i < length nodes
    → size_of (width_at nodes) (E.Var i) ≡ Some (width_at nodes i)
var_sized nodes i inside =
    N.size_of_var (width_at nodes) i ∙ rw (lt-ltb 0 (width_at nodes i) (width_some nodes i inside)) refl

module _ (nodes : List Node) (f : IsFormed nodes) where
  -- an input has the size of what its number stands for
  input_sized : (a : ℕ) (x : Expr) → a < length nodes → size_of (width_at nodes) x ≡ Some (width_at nodes (real nodes a))
      → size_of (width_at nodes) x ≡ size_of (width_at nodes) (E.Var a)
  input_sized a x h s = s ∙ ap Some (stands nodes f a h).width ∙ sym (var_sized nodes a h)

  -- What is seen at a node has the node's width.
  pub seen_size : (i : ℕ) (e : Expr) → Seen nodes i e → i < length nodes
      → size_of (width_at nodes) e ≡ Some (width_at nodes i)
  seen_size i e (AsValue j x is) inside = ap (size_of (width_at nodes)) is ∙ var_sized nodes i inside
  seen_size i e (AsConst j x c is at) inside =
      ap (size_of (width_at nodes)) is ∙ N.size_of_const (width_at nodes) c ∙ ap Some (sym (f.const_width i c at))
  seen_size i e (AsSingle j z s a x is at k) inside =
      let h = f.single i s a at in
      let l = input_sized a x h (seen_size (real nodes a) x k (stands nodes f a h).plain.inside) in
      ap (size_of (width_at nodes)) is ∙ single_alike (width_at nodes) s x (E.Var a) l ∙ f.single_width i s a at
  seen_size i e (AsPair j z p a b x y is at k m) inside =
      let h = f.pair i p a b at in
      let l = input_sized a x h.0 (seen_size (real nodes a) x k (stands nodes f a h.0).plain.inside) in
      let r = input_sized b y h.1 (seen_size (real nodes b) y m (stands nodes f b h.1).plain.inside) in
      ap (size_of (width_at nodes)) is ∙ pair_alike (width_at nodes) p x y (E.Var a) (E.Var b) l r ∙ f.pair_width i p a b at
