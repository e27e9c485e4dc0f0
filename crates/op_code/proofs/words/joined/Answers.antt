use Rattle.std.proofs.Common.{sym, ap, ap₂, ◌∙◌}
use Rattle.cmeaning.specs.declared.tree.Expr.{Expr}
use Rattle.cmeaning.specs.declared.tree.Expr.TheVariants as E
use Rattle.op_code.specs.Words.{joined}
use Rattle.op_code.proofs.Joined.{joined_onto, onto_last, onto_more}
use Rattle.op_code.proofs.words.joined.Goals as goal

pub loop-piece-init : goal.loop-piece-init
loop-piece-init c = onto_last c.pop.new.self.items c.in-Some.last ∙ ap joined (sym c.in-Some.ensures.items)

pub loop-piece-preserved : goal.loop-piece-preserved
loop-piece-preserved c =
    let left = c.pop-in-loop-piece.new.self.items in
    ap₂ (λ (d e : Expr). joined_onto left (E.Concat d e)) c.in_ok-first.ensures c.in_ok-new.ensures
    ∙ sym (onto_more left c.in-Some-pop.piece c.loop-piece.word)
    ∙ ap (λ ps. joined_onto ps c.loop-piece.word) (sym c.in-Some-pop.ensures.items)
    ∙ c.loop-piece.invariant
