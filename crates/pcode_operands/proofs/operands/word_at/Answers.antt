use Rattle.std.proofs.Common.{◌∙◌, ℕ, List, ap, sym, length}
use Rattle.pcode_memory.specs.Context.{got, layout_of, whole_of}
use Rattle.pcode_operands.proofs.Reading.{read_length}
use Rattle.pcode_operands.proofs.operands.word_at.Goals as goal

pub word-requires-clause-bytes : goal.word-requires-clause-bytes
word-requires-clause-bytes c =
    let q = c.args in
    ap (λ (xs : List ℕ). length xs) c.as_slice.ensures
    ∙ read_length (layout_of q.context.now) q.own q.space q.address q.size (whole_of q.state.now.memory)
    c.in-Some.bytes (ap got (sym c.in-Some.is) ∙ c.in_ok-bytes.ensures)
