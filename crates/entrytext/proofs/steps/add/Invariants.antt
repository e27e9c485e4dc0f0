use Rattle.std.proofs.Common.{◌≡◌, ◌+◌, ◌++◌, drop}
use Rattle.entrytext.specs.Meaning.{bytes_from}
use Rattle.entrytext.proofs.steps.add.Given as goal

abbrev pub invariant-loop-i : goal.invariant-loop-i
invariant-loop-i l = l.list ++ bytes_from l.space (l.offset + l.i) (drop l.i l.bytes)
    ≡ l.initial.list ++ bytes_from l.space l.offset l.bytes
