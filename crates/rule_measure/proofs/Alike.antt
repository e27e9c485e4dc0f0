-- A node's size goes by the sizes of its operands.
use Rattle.std.proofs.Common.{◌≡◌, ℕ, sym, ◌∙◌}
use Rattle.cmeaning.specs.declared.tree.Expr.{Expr}
use Rattle.rules.specs.Size.{size_of}
use Rattle.rules.proofs.Nodes as N
use Rattle.rule_views.specs.declared.nodes.Single.{Single}
use Rattle.rule_views.specs.declared.nodes.Single.TheVariants as S
use Rattle.rule_views.specs.declared.nodes.Pair.{Pair}
use Rattle.rule_views.specs.declared.nodes.Pair.TheVariants as P
use Rattle.rule_views.specs.Nodes.{single_node, pair_node}

module _ (ws : ℕ → ℕ) where
  pub single_alike : (s : Single) (x u : Expr) → size_of ws x ≡ size_of ws u
      → size_of ws (single_node s x) ≡ size_of ws (single_node s u)
  single_alike (S.Unary op) x u e = N.size_of_unary ws op x ∙ rw e (sym (N.size_of_unary ws op u))
  single_alike (S.Extend op w) x u e = N.size_of_extend ws op w x ∙ rw e (sym (N.size_of_extend ws op w u))
  single_alike (S.Part k w) x u e = N.size_of_part ws k w x ∙ rw e (sym (N.size_of_part ws k w u))
  single_alike (S.Count op) x u e = N.size_of_count ws op x ∙ rw e (sym (N.size_of_count ws op u))

  pub pair_alike : (p : Pair) (x y u v : Expr) → size_of ws x ≡ size_of ws u → size_of ws y ≡ size_of ws v
      → size_of ws (pair_node p x y) ≡ size_of ws (pair_node p u v)
  pair_alike (P.Arithmetic op) x y u v e f =
      N.size_of_arithmetic ws op x y ∙ rw (e, f) (sym (N.size_of_arithmetic ws op u v))
  pair_alike (P.Division op) x y u v e f = N.size_of_division ws op x y ∙ rw (e, f) (sym (N.size_of_division ws op u v))
  pair_alike (P.SignedDivision op) x y u v e f =
      N.size_of_signed_division ws op x y ∙ rw (e, f) (sym (N.size_of_signed_division ws op u v))
  pair_alike (P.Shift op) x y u v e f = N.size_of_shift ws op x y ∙ rw (e, f) (sym (N.size_of_shift ws op u v))
  pair_alike (P.Compare op) x y u v e f = N.size_of_compare ws op x y ∙ rw (e, f) (sym (N.size_of_compare ws op u v))
  pair_alike (P.SignedCompare op) x y u v e f =
      N.size_of_signed_compare ws op x y ∙ rw (e, f) (sym (N.size_of_signed_compare ws op u v))
  pair_alike P.Concat x y u v e f = N.size_of_concat ws x y ∙ rw (e, f) (sym (N.size_of_concat ws u v))
  pair_alike (P.Overflow op) x y u v e f = N.size_of_overflow ws op x y ∙ rw (e, f) (sym (N.size_of_overflow ws op u v))
