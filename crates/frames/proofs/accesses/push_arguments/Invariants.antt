use Rattle.std.proofs.Common.{◌≡◌, ◌++◌, Some, drop}
use Rattle.pcode_model.specs.Step.{arguments}
use Rattle.frame_facts.specs.Accesses.{stack_reaches}
use Rattle.frames.specs.Walk.{accesses_of}
use Rattle.frames.proofs.accesses.push_arguments.Given as goal

abbrev pub invariant-loop-number : goal.invariant-loop-number
invariant-loop-number l =
    l.accesses.items
    ++ accesses_of l.listing l.slots l.row l.place (stack_reaches (Some l.stack) (arguments l.number (drop l.number l.arguments)))
    ≡ l.fn.accesses.items
    ++ accesses_of l.listing l.slots l.row l.place (stack_reaches (Some l.stack) (arguments 0 l.arguments))
