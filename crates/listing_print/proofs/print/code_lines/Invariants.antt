use Rattle.std.proofs.Common.{◌≡◌, ◌++◌, drop}
use Rattle.listing_print.specs.Printed.{code_text}
use Rattle.listing_print.proofs.print.code_lines.Given as goal

abbrev pub invariant-loop-instruction : goal.invariant-loop-instruction
invariant-loop-instruction l = l.out.items ++ code_text l.spaces (drop l.instruction-index l.code) ≡ l.initial.out.items ++ code_text l.spaces l.code
