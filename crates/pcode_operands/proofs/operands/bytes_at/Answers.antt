use Rattle.pcode_memory.specs.Context.{got, layout_of, whole_of}
use Rattle.pcode_operands.proofs.Reading.{read_own_is}
use Rattle.pcode_operands.proofs.operands.bytes_at.Goals as goal

pub returns-in_ok-bytes-in-Some : goal.returns-in_ok-bytes-in-Some
returns-in_ok-bytes-in-Some c =
    let q = c.args in
    read_own_is (layout_of q.context.now) q.own c.in-Some.field-0 q.space q.address q.size
    (whole_of q.state.now.memory) (got c.in_ok-bytes-in-Some.bytes) c.in-Some.is
    (λ d. c.in_ok-bytes-in-Some.ensures d)
