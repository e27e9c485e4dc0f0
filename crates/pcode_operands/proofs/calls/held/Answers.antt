use Rattle.pcode_operands.proofs.Calling.{held_by, some_at, none_more}
use Rattle.pcode_operands.proofs.calls.held.Goals as goal

pub returns-in-Some : goal.returns-in-Some
returns-in-Some c =
    let q = c.args in (
      c.in-Some.ensures.0,
      λ p a b. held_by q.keep.now q.stack p
          (some_at q.keep.now c.loop-v.v-index (record { space = 0; offset = 0; size = 0 }) p
          c.loop-v-test.true (c.in-Some.ensures.1 p a b)),
    )

pub loop-v-preserved : goal.loop-v-preserved
loop-v-preserved c =
    let h = c.last_in.ensures in
    let isnt = rw c.in_default.is at h in
    none_more c.args.keep.now c.loop-v.v-index (record { space = 0; offset = 0; size = 0 }) c.args.offset
    c.loop-v-test.true c.loop-v.invariant isnt
