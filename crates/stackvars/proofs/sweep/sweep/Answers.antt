use Rattle.std.proofs.Common.{◌≡◌, ◌∙◌, ◌++◌, List, [], ap, drop, arith, subst, sym}
use Rattle.std.proofs.lemmas.List.{append-nil, drop_all}
use Rattle.stackvars.specs.declared.sweep.Mark.{Mark}
use Rattle.stackvars.specs.declared.sweep.Piece.{Piece}
use Rattle.stackvars.specs.Sweep.{ArePieces}
use Rattle.stackvars.proofs.Swept.{are_pieces, swept}
use Rattle.stackvars.proofs.sweep.sweep.Goals as goal

pub returns : goal.returns
returns c =
    let out : List Piece = c.loop-mark.pieces.items in
    let past : drop c.loop-mark.mark-index c.args.marks.now ≡ [] =
    drop_all c.loop-mark.mark-index c.args.marks.now (omega arith) in
    let same : out ≡ swept 0 0 c.args.marks.now =
    sym (append-nil out)
    ∙ (ap (λ (ms : List Mark). out ++ swept c.loop-mark.begin c.loop-mark.reach ms) (sym past)
    ∙ c.loop-mark.invariant) in
    subst (λ (ps : List Piece). ArePieces c.args.marks.now ps) (sym same) (are_pieces c.args.marks.now c.requires)
