use Rattle.std.proofs.Common.{◌≡◌, ℕ, Option, None, take}
use Rattle.run_world.specs.Maps.{at}
use Rattle.run_world.specs.Meaning.{with_offsets}
use Rattle.pcode_operands.specs.Calls.{is_held, mixed}
use Rattle.pcode_operands.proofs.calls.take_in.Given as goal

abbrev pub invariant-loop-b : goal.invariant-loop-b
invariant-loop-b l =
    (g : ℕ → ℕ → Option ℕ)
    → at l.initial.local ≡ mixed (is_held l.keep l.stack) l.space (λ o. None) g
    → at l.local ≡ mixed (is_held l.keep l.stack) l.space (with_offsets (take l.b-index l.bytes) (λ o. None)) g
