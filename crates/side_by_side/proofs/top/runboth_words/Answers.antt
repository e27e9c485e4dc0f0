use Rattle.std.proofs.Common.{map, string_bytes}
use Rattle.runwords.proofs.Exact.{table}
use Rattle.runwords.specs.Request.{asked_by}
use Rattle.statuses.specs.Answer.{answer_of}
use Rattle.side_by_side.specs.Judged.{Faults, Shows}
use Rattle.side_by_side.proofs.top.runboth_words.Goals as goal

pub returns-clause-table : goal.returns-clause-table
returns-clause-table g c = table Shows Faults (asked_by (map string_bytes c.args.words.now)) _ _ _ _ _ _
    (answer_of c.work_out-outcome.result) c.deliver.result c.work_out-outcome.ensures.because c.deliver.ensures.writes
