use Rattle.std.proofs.Common.{◌∙◌}
use Rattle.std.proofs.lemmas.Result.{on_ok_weaker}
use Rattle.pcode_memory.specs.Context.{layout_of, whole_of}
use Rattle.pcode_operands.specs.State.{state_of}
use Rattle.pcode_run.proofs.Accessing.{own_put}
use Rattle.pcode_run.proofs.accesses.put_at.Goals as goal

pub returns-in-Some : goal.returns-in-Some
returns-in-Some c =
    let q = c.args in
    on_ok_weaker c.write_own.result
    (λ wrote. own_put (layout_of q.context.now) q.context.now.listing.now (state_of q.context.now q.state.now)
    (whole_of c.write_own.new.self) q.own c.in-Some.field-0 q.space q.address q.size q.word
    c.new-shape.result.big c.as_slice.result.now c.in-Some.is c.new-shape.ensures.big
    (c.as_slice.ensures ∙ (c.in_ok-bytes.ensures {u = tt})) wrote)
    c.write_own.ensures
