use Rattle.std.proofs.Common.{◌≡◌, drop}
use Rattle.cmeaning.specs.Mentions.{numbered, in_body, in_arms}
use Rattle.cmeaning.proofs.numbering.+numbering.Given as goal

abbrev pub invariant-number_body-loop-s : goal.invariant-number_body-loop-s
invariant-number_body-loop-s l = numbered l.callees (in_body (drop l.s-index l.body)) l.next
    ≡ numbered l.callees (in_body l.body) l.initial.next

abbrev pub invariant-number_arms-loop-arm : goal.invariant-number_arms-loop-arm
invariant-number_arms-loop-arm l = numbered l.callees (in_arms (drop l.arm-index l.arms)) l.next
    ≡ numbered l.callees (in_arms l.arms) l.initial.next
