use Rattle.std.proofs.Common.{map, string_bytes}
use Rattle.pipeline.specs.Request.{asked_by}
use Rattle.statuses.specs.Answer.{answer_of}
use Rattle.pipeline.proofs.Outcomes.{table}
use Rattle.pipeline.proofs.top.decompile_words.Goals as goal

pub returns-clause-table : goal.returns-clause-table
returns-clause-table g c =
    table (asked_by (map string_bytes c.args.words.now)) _ _ (answer_of c.work_out-outcome.result) c.deliver.result
    c.work_out-outcome.ensures.because c.deliver.ensures.writes
