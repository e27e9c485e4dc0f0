-- What is seen at a place of a tree: the one expression that stands there.
use Rattle.std.proofs.Common.{◌≡◌, ℕ, ◌<◌, ◌≤◌, List, Some, inr, refl, sym, ap, ◌∙◌, subst}
use Rattle.bits_core.specs.declared.word.Word.{Word}
use Rattle.bits_core.specs.declared.word.Width.{Width}
use Rattle.cmeaning.specs.declared.tree.Expr.{Expr}
use Rattle.cmeaning.specs.declared.tree.Expr.TheVariants as E
use Rattle.rules.specs.Letters.{IsAtom}
use Rattle.rule_views.specs.declared.nodes.Single.{Single}
use Rattle.rule_views.specs.declared.nodes.Pair.{Pair}
use Rattle.rule_views.specs.Nodes.{single_node, pair_node}
use Rattle.rule_views.specs.Sees.{Sight, IsSized, IsWideAt, IsSame, IsConstant, IsSingle, IsPair}
use Rattle.rule_views.specs.InTree.{widths_by, bytes_of, IsIn}
use Rattle.rule_views.specs.Variables.{Variables}
use Rattle.rule_views.proofs.Widths.{single_sized, pair_sized, bytes_size, size_some, size_most, widths_most}

-- places of a type, by the expression and the widths that each holds
module _ {S : Type 0} (now : S → Expr) (widths : S → List Width) where
  abbrev pub Shows : Sight S
  Shows vs t e = IsIn (widths t) (now t) vs.widths e

  pub atom_same : (a b : S) (e : Expr) → IsAtom e → now a ≡ e → now b ≡ e → IsSame Shows a b
  atom_same a b e atom p q = (
    e,
    (
      atom,
      λ vs x y s t. (
        record { widths_are = s.widths_are; is = p; sized = subst (IsSized vs.widths) (sym s.is ∙ p) s.sized },
        record { widths_are = t.widths_are; is = q; sized = subst (IsSized vs.widths) (sym t.is ∙ q) t.sized },
      ),
    ),
  )

  pub const_here : (at : S) (c : Word) → now at ≡ E.Const c → IsConstant Shows at c
  const_here at c is = record {
    only = λ vs e s. inr (sym s.is ∙ is);
    seen = λ vs e s. record {
      widths_are = s.widths_are;
      is = is;
      sized = subst (IsSized vs.widths) (sym s.is ∙ is) s.sized;
    };
  }

  -- by the width that is computed, k, and the one that is made of it, n
  pub wide_here : (at : S) (k n : ℕ) → k ≡ bytes_of (widths_by (widths at)) (now at) → (0 < k → k ≤ 16 → n ≡ k)
      → IsWideAt Shows at n
  wide_here at k n is made vs e s =
      let w = s.sized in
      let bound : (v : ℕ) → vs.widths v ≤ 16 =
      λ v. subst (λ (f : ℕ → ℕ). f v ≤ 16) (sym s.widths_are) (widths_most (widths at) v) in
      let bytes : bytes_of vs.widths e ≡ w.0 = bytes_size vs.widths e w.0 w.1 in
      let same : k ≡ w.0 =
      is ∙ ap (λ f. bytes_of f (now at)) (sym s.widths_are) ∙ ap (bytes_of vs.widths) s.is ∙ bytes in
      let some : 0 < k = subst (λ z. 0 < z) (sym same) (size_some vs.widths e w.0 w.1) in
      let most : k ≤ 16 = subst (λ z. z ≤ 16) (sym same) (size_most vs.widths bound e w.0 w.1) in
      w.1 ∙ ap Some (sym (made some most ∙ same))

  module _ (at a : S) (same : widths a ≡ widths at) where
    child : (vs : Variables) (e : Expr) → Shows vs at e → IsSized vs.widths (now a) → Shows vs a (now a)
    child vs e h s = record { widths_are = h.widths_are ∙ ap widths_by (sym same); is = refl; sized = s }

    pub single_here : (s : Single) → now at ≡ single_node s (now a) → IsSingle Shows at s a
    single_here s is =
        let inner : (vs : Variables) (e : Expr) → Shows vs at e → Shows vs a (now a) =
        λ vs e h. child vs e h (single_sized vs.widths s (now a) (subst (IsSized vs.widths) (sym h.is ∙ is) h.sized)) in
        record {
          only = λ vs e h. inr (now a, (sym h.is ∙ is, inner vs e h));
          joins = λ vs e x h k. (
              let to : now at ≡ single_node s x = is ∙ ap (single_node s) k.is in
              record { widths_are = h.widths_are; is = to; sized = subst (IsSized vs.widths) (sym h.is ∙ to) h.sized });
          operand = λ vs e h. (now a, inner vs e h);
        }

    module _ (b : S) (alike : widths b ≡ widths at) where
      pub pair_here : (p : Pair) → now at ≡ pair_node p (now a) (now b) → IsPair Shows at p a b
      pair_here p is =
          let sizes : (vs : Variables) (e : Expr) → Shows vs at e → IsSized vs.widths (now a) × IsSized vs.widths (now b) =
          λ vs e h. pair_sized vs.widths p (now a) (now b) (subst (IsSized vs.widths) (sym h.is ∙ is) h.sized) in
          let left : (vs : Variables) (e : Expr) → Shows vs at e → Shows vs a (now a) =
          λ vs e h. child vs e h (sizes vs e h).0 in
          let right : (vs : Variables) (e : Expr) → Shows vs at e → Shows vs b (now b) =
          λ vs e h. record {
            widths_are = h.widths_are ∙ ap widths_by (sym alike);
            is = refl;
            sized = (sizes vs e h).1;
          } in
          record {
            only = λ vs e h. inr (record {
              x = now a;
              y = now b;
              is = sym h.is ∙ is;
              left = left vs e h;
              right = right vs e h;
            });
            joins = λ vs e x y h k l. (
                let to : now at ≡ pair_node p x y = is ∙ ap (λ z. pair_node p z (now b)) k.is ∙ ap (pair_node p x) l.is in
                record { widths_are = h.widths_are; is = to; sized = subst (IsSized vs.widths) (sym h.is ∙ to) h.sized });
            operands = λ vs e h. (now a, (now b, (left vs e h, right vs e h)));
          }
