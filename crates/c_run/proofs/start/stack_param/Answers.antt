use Rattle.std.proofs.Common.{◌∙◌}
use Rattle.c_run.proofs.Bytes.{read_length}
use Rattle.c_run.proofs.start.stack_param.Goals as goal

pub word-requires : goal.word-requires
word-requires c = read_length _ _ _ _ _ _ (c.as_slice.ensures.value ∙ c.in_ok-bytes.ensures) c.from.ensures
