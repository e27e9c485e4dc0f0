use Rattle.std.proofs.Common.{◌≡◌, ◌++◌, drop}
use Rattle.stackvars.specs.Accesses.{passed}
use Rattle.frames.specs.Walk.{signed_of}
use Rattle.frames.proofs.escapes.push_arguments.Given as goal

abbrev pub invariant-loop-argument : goal.invariant-loop-argument
invariant-loop-argument l =
    l.escapes.items ++ signed_of l.listing l.slots l.row (passed (drop l.argument-index l.arguments))
    ≡ l.fn.escapes.items ++ signed_of l.listing l.slots l.row (passed l.arguments)
