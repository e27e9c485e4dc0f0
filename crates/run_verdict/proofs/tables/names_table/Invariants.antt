use Rattle.std.proofs.Common.{◌≡◌, drop}
use Rattle.run_verdict.specs.Search.{names_table}
use Rattle.run_verdict.proofs.tables.names_table.Given as goal

abbrev pub invariant-loop-op : goal.invariant-loop-op
invariant-loop-op l = names_table (drop l.op-index l.ops) ≡ names_table l.ops
