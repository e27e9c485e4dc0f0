use Rattle.std.proofs.Common.{List, map, ap, ◌∙◌}
use Rattle.pcode_model.specs.declared.flow.Block as flow_block
use Rattle.pcode_model.specs.Flow.{starts_of}
use Rattle.pcode_model.specs.Frame.{frame_of}
use Rattle.pcode_model.specs.Step.{first_place}
use Rattle.op_code.specs.FrameTable.{own_at}
use Rattle.op_code.specs.Lowered.{place_number, ranges_of, variable_for}
use Rattle.plaincode.proofs.Whole.{lowered_is}
use Rattle.plaincode.proofs.lowering.plain.Goals as goal

pub returns-clause-code : goal.returns-clause-code
returns-clause-code c =
    let l = c.args.listing.now in
    lowered_is l (frame_of l c.args.frame.now) c.args.flow.now c.args.atoms.now (own_at c.in_ok-frame.frame)
    c.in_ok-table.table c.in_ok-variables.variables c.blocks-2.new.variables c.as_slice-3.result.now
    c.in_ok-blocks.blocks c.block_number.result
    c.in_ok-frame.ensures
    (c.in_ok-table.ensures ∙ (c.deref.ensures.value ∙ (c.in_ok-ranges.ensures ∙ ap (ranges_of l) c.as_slice.ensures)))
    (c.in_ok-variables.ensures ∙ ap (map variable_for) c.as_slice-2.ensures)
    c.as_slice-3.ensures
    c.in_ok-blocks.ensures.blocks
    c.in_ok-blocks.ensures.locals
    (c.block_number.ensures
    ∙ ap (λ (w : List flow_block.Block). place_number (starts_of w) (first_place l)) c.as_slice-4.ensures)
