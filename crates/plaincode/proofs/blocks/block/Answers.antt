use Rattle.std.proofs.Common.{◌++◌, ap, ◌∙◌, length}
use Rattle.op_code.specs.FrameTable.{own_at}
use Rattle.op_code.specs.Lowered.{places_made}
use Rattle.plaincode.proofs.Last.{locals_last}
use Rattle.plaincode.proofs.blocks.block.Goals as goal

pub returns-in_ok-exit-in-Some-clause-locals : goal.returns-in_ok-exit-in-Some-clause-locals
returns-in_ok-exit-in-Some-clause-locals c =
    let l = c.args.listing.now in
    let own = own_at c.args.frame.now in
    let ranges = c.args.table.now in
    let variables = c.args.variables.now in
    let e = c.args.block.now.exit in
    locals_last l own ranges e variables c.body.new.variables c.way_out.new.variables c.as_slice-places.result.now
    c.in-Some.last.now c.in-Some.ensures.value c.in_ok-body-in-Some.ensures.locals
    (c.in_ok-exit-in-Some.ensures {u = tt}).locals
    ∙ ap (λ ps. variables ++ (places_made l own ranges (length variables) ps e).locals) c.as_slice-places.ensures
