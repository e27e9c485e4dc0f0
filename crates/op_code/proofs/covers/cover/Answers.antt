use Rattle.std.proofs.Common.{ℕ, ◌+◌, ◌++◌, ap₂, ◌∙◌}
use Rattle.op_code.specs.Cover.{cover, pieces_at}
use Rattle.op_code.proofs.Walks.{cover_step}
use Rattle.op_code.proofs.covers.cover.Goals as goal

pub loop-at-preserved : goal.loop-at-preserved
loop-at-preserved c =
    let ranges = c.args.table.now in
    let v = c.args.range in
    let done = c.loop-at.pieces.items in
    cover_step ranges v.space v.offset c.loop-at.at v.size done c.add_piece.new.pieces.items (cover ranges v)
    (c.in_ok-add_piece.ensures
    ∙ ap₂ (λ (o k : ℕ). done ++ pieces_at ranges v.space (o + k)) c.from.ensures c.from-in-loop-at.ensures)
    c.loop-at-test.true c.loop-at.invariant
