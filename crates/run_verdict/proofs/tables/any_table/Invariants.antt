use Rattle.std.proofs.Common.{◌≡◌, drop}
use Rattle.run_verdict.specs.Search.{any_table}
use Rattle.run_verdict.proofs.tables.any_table.Given as goal

abbrev pub invariant-loop-instruction : goal.invariant-loop-instruction
invariant-loop-instruction l = any_table (drop l.instruction-index l.code) ≡ any_table l.code
