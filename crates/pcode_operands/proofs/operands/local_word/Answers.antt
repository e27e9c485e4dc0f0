use Rattle.std.proofs.Common.{◌∙◌, ℕ, List, ap, length}
use Rattle.run_world.specs.Maps.{bytes_of}
use Rattle.run_world.specs.Setting.{size}
use Rattle.pcode_operands.proofs.Reading.{length_bytes_at}
use Rattle.pcode_operands.proofs.operands.local_word.Goals as goal

pub word-requires-clause-bytes : goal.word-requires-clause-bytes
word-requires-clause-bytes c =
    ap (λ (xs : List ℕ). length xs) (c.as_slice.ensures.value ∙ c.in_ok-bytes.ensures)
    ∙ length_bytes_at (size c.new-shape.result) (bytes_of c.args.local.now c.args.v.space) c.args.v.offset c.args.v.size
