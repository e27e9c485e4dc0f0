use Rattle.std.proofs.Common.{◌≡◌, ◌+◌, drop}
use Rattle.cmeaning.specs.Flat.{arm_spans, pieces_of, returns_by, spans}
use Rattle.flatcode.specs.Steps.{arms_of}
use Rattle.flatcode.proofs.spans.+spans.Given as goal

abbrev pub invariant-spans-loop-s : goal.invariant-spans-loop-s
invariant-spans-loop-s l =
    l.sum + spans (pieces_of (returns_by l.callees) (drop l.s-index l.body))
    ≡ spans (pieces_of (returns_by l.callees) l.body)

abbrev pub invariant-arms_span-loop-arm : goal.invariant-arms_span-loop-arm
invariant-arms_span-loop-arm l =
    l.sum + arm_spans (arms_of (returns_by l.callees) (drop l.arm-index l.arms))
    ≡ arm_spans (arms_of (returns_by l.callees) l.arms)
