-- What is seen at a node reads as its value, where the nodes' equations hold.
use Rattle.std.proofs.Common.{◌≡◌, ℕ, ◌<◌, List, length, Option, Some, None, refl, sym, ap, ◌∙◌}
use Rattle.cmeaning.specs.declared.tree.Expr.{Expr}
use Rattle.cmeaning.specs.declared.tree.Expr.TheVariants as E
use Rattle.rules.specs.Size.{size_of}
use Rattle.rules.specs.Readings.{Reading, IsReading, value_by}
use Rattle.rules.proofs.Nodes as N
use Rattle.rules.proofs.Words.{good}
use Rattle.rule_views.specs.declared.nodes.Single.{Single}
use Rattle.rule_views.specs.declared.nodes.Single.TheVariants as S
use Rattle.rule_views.specs.declared.nodes.Pair.{Pair}
use Rattle.rule_views.specs.declared.nodes.Pair.TheVariants as P
use Rattle.rule_views.specs.Nodes.{single_node, pair_node}
use Rattle.rule_graph.specs.declared.node.Op.{Op}
use Rattle.rule_graph.specs.declared.node.Op.TheVariants as O
use Rattle.rule_graph.specs.declared.node.Node.{Node}
use Rattle.rule_graph.specs.Graph.{op_at, passed, real, width_at, IsFormed, Seen, AsValue, AsConst, AsSingle, AsPair}
use Rattle.rule_graph.specs.Holds.{Holds, ReadsAs}
use Rattle.rule_graph.proofs.Sizes.{stands, var_sized, seen_size}

-- ---- a node's value goes by the widths and the values of its operands

module _ (d : Reading) (ws : ℕ → ℕ) (env : ℕ → Option ℕ) where
  -- one reads as the other
  pub record Like (x u : Expr) : Type 0 where
    pub width : N.wide d ws x ≡ N.wide d ws u
    pub value : value_by d ws env x ≡ value_by d ws env u

  pub single_like : (s : Single) (x u : Expr) → Like x u
      → value_by d ws env (single_node s x) ≡ value_by d ws env (single_node s u)
  single_like (S.Unary op) x u h =
      N.value_by_unary d ws env op x ∙ rw (h.width, h.value) (sym (N.value_by_unary d ws env op u))
  single_like (S.Extend op w) x u h =
      N.value_by_extend d ws env op w x ∙ rw (h.width, h.value) (sym (N.value_by_extend d ws env op w u))
  single_like (S.Part k w) x u h =
      N.value_by_part d ws env k w x ∙ rw h.value (sym (N.value_by_part d ws env k w u))
  single_like (S.Count op) x u h =
      N.value_by_count d ws env op x ∙ rw (h.width, h.value) (sym (N.value_by_count d ws env op u))

  pub pair_like : (p : Pair) (x y u v : Expr) → Like x u → Like y v
      → value_by d ws env (pair_node p x y) ≡ value_by d ws env (pair_node p u v)
  pair_like (P.Arithmetic op) x y u v h k = N.value_by_arithmetic d ws env op x y
      ∙ rw (h.width, k.width, h.value, k.value) (sym (N.value_by_arithmetic d ws env op u v))
  pair_like (P.Division op) x y u v h k = N.value_by_division d ws env op x y
      ∙ rw (h.width, h.value, k.value) (sym (N.value_by_division d ws env op u v))
  pair_like (P.SignedDivision op) x y u v h k = N.value_by_signed_division d ws env op x y
      ∙ rw (h.width, h.value, k.value) (sym (N.value_by_signed_division d ws env op u v))
  pair_like (P.Shift op) x y u v h k = N.value_by_shift d ws env op x y
      ∙ rw (h.width, k.width, h.value, k.value) (sym (N.value_by_shift d ws env op u v))
  pair_like (P.Compare op) x y u v h k = N.value_by_compare d ws env op x y
      ∙ rw (h.width, k.width, h.value, k.value) (sym (N.value_by_compare d ws env op u v))
  pair_like (P.SignedCompare op) x y u v h k = N.value_by_signed_compare d ws env op x y
      ∙ rw (h.width, k.width, h.value, k.value) (sym (N.value_by_signed_compare d ws env op u v))
  pair_like P.Concat x y u v h k = N.value_by_concat d ws env x y
      ∙ rw (k.width, h.value, k.value) (sym (N.value_by_concat d ws env u v))
  pair_like (P.Overflow op) x y u v h k = N.value_by_overflow d ws env op x y
      ∙ rw (h.width, k.width, h.value, k.value) (sym (N.value_by_overflow d ws env op u v))

-- ---- in a graph

module _ (d : Reading) (reads : IsReading d) (nodes : List Node) (f : IsFormed nodes) (env : ℕ → Option ℕ)
    (h : Holds d nodes env) where
  copied_by : (a : ℕ) (o : Option Op) → op_at nodes a ≡ o → env (passed o a) ≡ env a
  copied_by a None is = refl
  copied_by a (Some O.Entry) is = refl
  copied_by a (Some (O.Copy j)) is = sym (h.copy a j is)
  copied_by a (Some (O.Const c)) is = refl
  copied_by a (Some (O.Single s x)) is = refl
  copied_by a (Some (O.Pair p x y)) is = refl

  -- a COPY has the value of what it is of
  pub copied : (a : ℕ) → env (real nodes a) ≡ env a
  copied a = copied_by a (op_at nodes a) refl

  -- a width that is read is the size
  read_width : (e : Expr) (w : ℕ) → size_of (width_at nodes) e ≡ Some w → N.wide d (width_at nodes) e ≡ w
  read_width e w s = (good d reads (width_at nodes) env h.words e w s).width

  -- what reads as the value of a node reads as its variable
  pub like_var : (i : ℕ) (x : Expr) → i < length nodes → ReadsAs d nodes env i x
      → Like d (width_at nodes) env x (E.Var i)
  like_var i x inside k = record {
    width = read_width x (width_at nodes i) k.size ∙ sym (read_width (E.Var i) (width_at nodes i) (var_sized nodes i inside));
    value = k.value ∙ sym (N.value_by_var d (width_at nodes) env i);
  }

  input_like : (a : ℕ) (x : Expr) → a < length nodes → ReadsAs d nodes env (real nodes a) x
      → Like d (width_at nodes) env x (E.Var a)
  input_like a x inside k =
      let t = stands nodes f a inside in record {
        width = read_width x (width_at nodes (real nodes a)) k.size ∙ t.width
            ∙ sym (read_width (E.Var a) (width_at nodes a) (var_sized nodes a inside));
        value = k.value ∙ copied a ∙ sym (N.value_by_var d (width_at nodes) env a);
      }

  -- What is seen at a node reads as its value.
  pub seen_reads : (i : ℕ) (e : Expr) → Seen nodes i e → i < length nodes → ReadsAs d nodes env i e
  seen_reads i e (AsValue j x is) inside = record {
    size = seen_size nodes f i e (AsValue i e is) inside;
    value = ap (value_by d (width_at nodes) env) is ∙ N.value_by_var d (width_at nodes) env i;
  }
  seen_reads i e (AsConst j x c is at) inside = record {
    size = seen_size nodes f i e (AsConst i e c is at) inside;
    value = ap (value_by d (width_at nodes) env) is ∙ N.value_by_const d (width_at nodes) env c ∙ sym (h.const i c at);
  }
  seen_reads i e (AsSingle j z s a x is at k) inside =
      let t = f.single i s a at in
      let l = input_like a x t (seen_reads (real nodes a) x k (stands nodes f a t).plain.inside) in record {
        size = seen_size nodes f i e (AsSingle i e s a x is at k) inside;
        value = ap (value_by d (width_at nodes) env) is ∙ single_like d (width_at nodes) env s x (E.Var a) l
            ∙ sym (h.single i s a at);
      }
  seen_reads i e (AsPair j z p a b x y is at k m) inside =
      let t = f.pair i p a b at in
      let l = input_like a x t.0 (seen_reads (real nodes a) x k (stands nodes f a t.0).plain.inside) in
      let r = input_like b y t.1 (seen_reads (real nodes b) y m (stands nodes f b t.1).plain.inside) in record {
        size = seen_size nodes f i e (AsPair i e p a b x y is at k m) inside;
        value = ap (value_by d (width_at nodes) env) is
            ∙ pair_like d (width_at nodes) env p x y (E.Var a) (E.Var b) l r ∙ sym (h.pair i p a b at);
      }
