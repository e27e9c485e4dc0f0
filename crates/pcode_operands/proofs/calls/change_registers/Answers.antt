use Rattle.run_world.specs.Maps.{at}
use Rattle.pcode_operands.proofs.Calling.{changed}
use Rattle.pcode_operands.proofs.calls.change_registers.Goals as goal

pub returns : goal.returns
returns c =
    let q = c.args in
    changed q.context.now.listing.now q.proto.now q.answer.now c.as_slice-keep.result.now
    q.context.now.setting.registers c.as_slice.result.now (at q.local.now) (at c.take_in.new.local)
    c.as_slice-keep.ensures c.requires.context.setting.registers c.as_slice.ensures
    (c.in_ok-take_in.ensures (at q.local.now) c.forget.ensures)
