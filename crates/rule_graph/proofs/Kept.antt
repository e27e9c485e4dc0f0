-- What the rule that is found makes of a node has the node's width and its value.
use Rattle.std.proofs.Common.{◌≡◌, ℕ, ◌<◌, List, length, Option, Some, None, MatchOption, refl, sym, ap, ◌∙◌, subst}
use Rattle.cmeaning.specs.declared.tree.Expr.{Expr}
use Rattle.cmeaning.specs.declared.tree.Expr.TheVariants as E
use Rattle.rules.specs.Size.{size_of}
use Rattle.rules.specs.Readings.{Reading, value_by}
use Rattle.rules.proofs.Nodes as N
use Rattle.rules.proofs.Sound.{sound}
use Rattle.rule_views.specs.declared.view.Arg.{Arg}
use Rattle.rule_views.specs.declared.view.Arg.TheVariants as A
use Rattle.rule_views.specs.declared.view.Made.{Made}
use Rattle.rule_views.specs.declared.view.Made.TheVariants as M
use Rattle.rule_views.specs.declared.view.Found.{Found}
use Rattle.rule_views.specs.Sees.{IsSized}
use Rattle.rule_views.specs.Makes.{ArgIs, Makes}
use Rattle.rule_views.specs.Variables.{Variables}
use Rattle.rule_measure.proofs.Alike.{single_alike, pair_alike}
use Rattle.rule_find.specs.Found.{NoRule, Fires, Fired}
use Rattle.rule_graph.specs.declared.node.Node.{Node}
use Rattle.rule_graph.specs.declared.place.Place.{Place}
use Rattle.rule_graph.specs.Graph.{real, width_at, IsFormed, Seen, AsValue}
use Rattle.rule_graph.specs.Sees.{AreOf}
use Rattle.rule_graph.specs.Found.{arg_over, made_over, IsKept, NoRuleAt, variables_of, IsSeenAt, IsInstance}
use Rattle.rule_graph.proofs.Sizes.{stands, var_sized, seen_size}
use Rattle.rule_graph.proofs.Values.{Like, single_like, pair_like, like_var, copied, seen_reads}

-- ---- what is made has the width of its right side

module _ (vs : Variables) where
  place_size : (p : Place) (x : Expr) → IsSeenAt vs p x → size_of vs.widths x ≡ size_of vs.widths (E.Var p.at)
  place_size p x h =
      let g = p.nodes.now in
      subst (λ w. size_of w x ≡ size_of w (E.Var p.at)) (sym h.variables.widths)
      (seen_size g p.formed p.at x h.seen p.plain.inside ∙ sym (var_sized g p.at p.plain.inside))

  arg_size : (a : Arg Place) (x : Expr) → ArgIs (IsSeenAt vs) a x → size_of vs.widths x ≡ size_of vs.widths (arg_over a)
  arg_size (A.Place p) x h = place_size p x h
  arg_size (A.Const c) x h = ap (size_of vs.widths) h

  made_size : (made : Made Place) (r : Expr) → Makes (IsSeenAt vs) made r
      → size_of vs.widths r ≡ size_of vs.widths (made_over made)
  made_size (M.Is a) r h = arg_size a r h
  made_size (M.Single s a) r h =
      ap (size_of vs.widths) h.1.0 ∙ single_alike vs.widths s h.0 (arg_over a) (arg_size a h.0 h.1.1)
  made_size (M.Pair p a b) r h =
      ap (size_of vs.widths) h.1.1.0 ∙ pair_alike vs.widths p h.0 h.1.0 (arg_over a) (arg_over b)
      (arg_size a h.0 h.1.1.1) (arg_size b h.1.0 h.1.1.2)

-- ---- and its value

module _ (ws : ℕ → ℕ) (d : Reading) (env : ℕ → Option ℕ) where
  abbrev held : Variables
  held = record { widths = ws; values = Some (record { reading = d; env = env }) }

  place_like : (p : Place) (x : Expr) → IsSeenAt held p x → Like d ws env x (E.Var p.at)
  place_like p x h =
      let g = p.nodes.now in
      let reads = h.variables.values.0 in
      let holds = h.variables.values.1 in
      subst (λ w. Like d w env x (E.Var p.at)) (sym h.variables.widths)
      (like_var d reads g p.formed env holds p.at x p.plain.inside
      (seen_reads d reads g p.formed env holds p.at x h.seen p.plain.inside))

  arg_like : (a : Arg Place) (x : Expr) → ArgIs (IsSeenAt held) a x → Like d ws env x (arg_over a)
  arg_like (A.Place p) x h = place_like p x h
  arg_like (A.Const c) x h = record { width = ap (N.wide d ws) h; value = ap (value_by d ws env) h }

  made_value : (made : Made Place) (r : Expr) → Makes (IsSeenAt held) made r
      → value_by d ws env r ≡ value_by d ws env (made_over made)
  made_value (M.Is a) r h = (arg_like a r h).value
  made_value (M.Single s a) r h =
      ap (value_by d ws env) h.1.0 ∙ single_like d ws env s h.0 (arg_over a) (arg_like a h.0 h.1.1)
  made_value (M.Pair p a b) r h =
      ap (value_by d ws env) h.1.1.0 ∙ pair_like d ws env p h.0 h.1.0 (arg_over a) (arg_over b)
      (arg_like a h.0 h.1.1.1) (arg_like b h.1.0 h.1.1.2)

-- ---- at a node i, whose place is q

module _ (nodes : List Node)
    (formed : IsFormed nodes)
    (i : ℕ)
    (inside : i < length nodes)
    (q : Place)
    (same : q.nodes.now ≡ nodes)
    (at : q.at ≡ real nodes i) where
  here : (vs : Variables) (e : Expr) → IsSeenAt vs q e → Seen nodes (real nodes i) e
  here vs e s = subst (λ k. Seen nodes k e) at (subst (λ g. Seen g q.at e) same s.seen)

  there : (vs : Variables) (e : Expr) → AreOf nodes vs → Seen nodes (real nodes i) e → IsSeenAt vs q e
  there vs e v s = record {
    variables = subst (λ g. AreOf g vs) (sym same) v;
    seen = subst (λ g. Seen g q.at e) (sym same) (subst (λ k. Seen nodes k e) (sym at) s);
  }

  size_here : (e : Expr) → Seen nodes (real nodes i) e → size_of (width_at nodes) e ≡ Some (width_at nodes i)
  size_here e s =
      let t = stands nodes formed i inside in
      seen_size nodes formed (real nodes i) e s t.plain.inside ∙ ap Some t.width

  sized_here : (vs : Variables) → AreOf nodes vs → (e : Expr) → IsSeenAt vs q e → IsSized vs.widths e
  sized_here vs v e s =
      (width_at nodes i, subst (λ w. size_of w e ≡ Some (width_at nodes i)) (sym v.widths) (size_here e (here vs e s)))

  module _ (f : Found Place) (h : Fired IsSeenAt q f) where
    fires : (vs : Variables) → AreOf nodes vs → Fires IsSeenAt q f vs
    fires vs v =
        let value = E.Var (real nodes i) in
        h.fires vs value (sized_here vs v) (there vs value v (AsValue (real nodes i) value refl))

    whatever : AreOf nodes (variables_of nodes)
    whatever = record { widths = refl; values = tt }

    is_instance : IsInstance nodes i f
    is_instance =
        let k = fires (variables_of nodes) whatever in
        record { l = k.l; r = k.r; seen = here (variables_of nodes) k.l k.seen; rule = k.rule; makes = k.makes }

    is_kept : IsKept nodes i f.made
    is_kept = record {
      size = (
          let k = fires (variables_of nodes) whatever in
          let w = width_at nodes i in
          sym (made_size (variables_of nodes) f.made k.r k.makes)
          ∙ (sound (width_at nodes) k.l k.r k.rule.0).size w (size_here k.l (here (variables_of nodes) k.l k.seen)));
      value = λ d reads env holds n is. (
          let ws = width_at nodes in
          let k = fires (held ws d env) (record { widths = refl; values = (reads, holds) }) in
          let l : Seen nodes (real nodes i) k.l = here (held ws d env) k.l k.seen in
          let t = seen_reads d reads nodes formed env holds (real nodes i) k.l l (stands nodes formed i inside).plain.inside in
          sym (made_value ws d env f.made k.r k.makes)
          ∙ (sound ws k.l k.r k.rule.0).value_by d reads env holds.words (ws i) n (size_here k.l l)
          (t.value ∙ copied d reads nodes formed env holds i ∙ is));
    }

  none_here : NoRule IsSeenAt q → NoRuleAt nodes i
  none_here none l r rule s =
      let vs = variables_of nodes in
      let v : AreOf nodes vs = record { widths = refl; values = tt } in
      let seen = there vs l v s in
      none vs l r (sized_here vs v l seen) rule seen

  -- What is found at the place is found at the node.
  pub found_here : (o : Option (Found Place)) → MatchOption o (NoRule IsSeenAt q) (λ f. Fired IsSeenAt q f)
      → MatchOption o (NoRuleAt nodes i) (λ f. IsInstance nodes i f)
  found_here None none = none_here none
  found_here (Some f) h = is_instance f h

  -- What the rule makes is kept.
  pub kept_here : (o : Option (Found Place)) → MatchOption o (NoRule IsSeenAt q) (λ f. Fired IsSeenAt q f)
      → (f : Found Place) → o ≡ Some f → IsKept nodes i f.made
  kept_here None none f is = absurd cc
  kept_here (Some g) h f is = let e : g ≡ f = cc in subst (λ (k : Found Place). IsKept nodes i k.made) e (is_kept g h)
