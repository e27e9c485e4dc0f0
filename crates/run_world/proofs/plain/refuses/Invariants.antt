use Rattle.std.proofs.Common.{◌≡◌, drop}
use Rattle.std.specs.List.{list_any}
use Rattle.pcode_model.specs.Spaces.{is_fixed}
use Rattle.run_world.proofs.plain.refuses.Given as goal

abbrev pub invariant-loop-b : goal.invariant-loop-b
invariant-loop-b l =
    list_any (λ b. is_fixed l.listing b.space b.offset) (drop l.b-index l.bytes)
    ≡ list_any (λ b. is_fixed l.listing b.space b.offset) l.bytes
