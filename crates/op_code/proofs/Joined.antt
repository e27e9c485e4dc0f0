-- The concatenation of variables, made from the last one on.
use Rattle.std.proofs.Common.{◌≡◌, List, [], ◌∷◌, ◌++◌, refl, ap}
use Rattle.cmeaning.specs.declared.tree.Expr.{Expr}
use Rattle.cmeaning.specs.declared.tree.Expr.TheVariants as E
use Rattle.op_code.specs.Cover.{Piece}
use Rattle.op_code.specs.Words.{joined}

-- variables above an expression
abbrev pub joined_onto : List Piece → Expr → Expr
joined_onto [] e = e
joined_onto (p ∷ ps) e = E.Concat (E.Var p.variable) (joined_onto ps e)

-- The last of them is joined to the expression first.
pub onto_more : (ps : List Piece) (p : Piece) (e : Expr)
    → joined_onto (ps ++ p ∷ []) e ≡ joined_onto ps (E.Concat (E.Var p.variable) e)
onto_more [] p e = refl
onto_more (q ∷ qs) p e = ap (λ d. E.Concat (E.Var q.variable) d) (onto_more qs p e)

pub onto_last : (ps : List Piece) (p : Piece) → joined_onto ps (E.Var p.variable) ≡ joined (ps ++ p ∷ [])
onto_last [] p = refl
onto_last (q ∷ []) p = refl
onto_last (q ∷ r ∷ qs) p = ap (λ d. E.Concat (E.Var q.variable) d) (onto_last (r ∷ qs) p)
