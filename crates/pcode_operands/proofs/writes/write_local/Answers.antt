use Rattle.std.proofs.Common.{◌∙◌}
use Rattle.run_world.specs.Maps.{bytes_of}
use Rattle.pcode_operands.proofs.Writing.{write_is}
use Rattle.pcode_operands.proofs.writes.write_local.Goals as goal

pub returns : goal.returns
returns c =
    c.in_ok-write.ensures
    ∙ write_is c.args.context.now.listing.now c.args.v c.args.word c.new-shape.result (bytes_of c.args.local.now)
    c.as_slice.result.now c.new-shape.ensures (c.as_slice.ensures ∙ c.in_ok-bytes.ensures)
