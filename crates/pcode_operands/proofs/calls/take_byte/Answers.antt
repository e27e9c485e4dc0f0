use Rattle.std.proofs.Common.{◌∙◌, ap, Some, arith}
use Rattle.pcode_model.specs.Spaces.{put_in}
use Rattle.pcode_operands.specs.Calls.{is_held}
use Rattle.pcode_operands.proofs.Calling.{mixes_one, mixes_held}
use Rattle.pcode_operands.proofs.calls.take_byte.Goals as goal

pub returns-in-Some : goal.returns-in-Some
returns-in-Some c = λ g f e.
    let q = c.args in
    e
    ∙ mixes_held (is_held q.keep.now q.stack) q.space g f q.byte.offset q.byte.value
    (c.in-Some.ensures.1 q.byte.offset (omega arith) c.in-Some.ensures.0)

pub returns-in_ok-put-in-None : goal.returns-in_ok-put-in-None
returns-in_ok-put-in-None c = λ g f e.
    let q = c.args in
    c.in_ok-put-in-None.ensures.map
    ∙ ap (put_in q.space q.byte.offset (Some q.byte.value)) e
    ∙ mixes_one (is_held q.keep.now q.stack) q.space g f q.byte.offset q.byte.value c.in-None.ensures
