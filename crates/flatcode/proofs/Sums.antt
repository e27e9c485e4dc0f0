-- How many steps statements make whose parts stand one behind another.
use Rattle.std.proofs.Common.{◌≡◌, ◌+◌, ◌∙◌, ℕ, suc, Bool, List, ap, arith}
use Rattle.cmeaning.specs.declared.tree.Expr.{Expr}
use Rattle.cmeaning.specs.declared.tree.Stmt.{Stmt}
use Rattle.cmeaning.specs.declared.tree.Stmt.TheVariants as S
use Rattle.cmeaning.specs.Flat.{Piece, piece_of, pieces_of, spans}
use Rattle.cmeaning.proofs.Flat.{piece_of_if_else, piece_of_while}

module _ (returns : ℕ → Bool) (s : Stmt) (c : Expr) where
  pub if_else_span : (body other : List Stmt) → s ≡ S.IfElse c body other → (a b d e n : ℕ)
      → a ≡ spans (pieces_of returns other)
      → b ≡ 1 + a
      → d ≡ spans (pieces_of returns body)
      → e ≡ d + b
      → n ≡ 1 + e
      → n ≡ (piece_of returns s).span
  if_else_span body other is a b d e n ha hb hd he hn =
      let span : (piece_of returns s).span
      ≡ suc (spans (pieces_of returns body) + suc (spans (pieces_of returns other))) =
      ap (λ (x : Stmt). (piece_of returns x).span) is
      ∙ ap (λ (x : Piece). x.span) (piece_of_if_else returns c body other) in
      omega (arith, span, ha, hb, hd, he, hn)

  pub while_span : (body : List Stmt) → s ≡ S.While c body → (a b n : ℕ)
      → a ≡ spans (pieces_of returns body)
      → b ≡ a + 1
      → n ≡ 1 + b
      → n ≡ (piece_of returns s).span
  while_span body is a b n ha hb hn =
      let span : (piece_of returns s).span ≡ suc (spans (pieces_of returns body) + 1) =
      ap (λ (x : Stmt). (piece_of returns x).span) is ∙ ap (λ (x : Piece). x.span) (piece_of_while returns c body) in
      omega (arith, span, ha, hb, hn)
