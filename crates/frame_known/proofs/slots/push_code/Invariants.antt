use Rattle.std.proofs.Common.{◌≡◌, ◌++◌, drop}
use Rattle.frame_known.specs.Slots.{code_keys}
use Rattle.frame_known.proofs.slots.push_code.Given as goal

abbrev pub invariant-loop-instruction : goal.invariant-loop-instruction
invariant-loop-instruction l =
    l.keys.items ++ code_keys l.listing l.width (drop l.instruction-index l.code)
    ≡ l.fn.keys.items ++ code_keys l.listing l.width l.code
