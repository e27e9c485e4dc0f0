use Rattle.std.proofs.Common.{◌^◌, ℕ, ap, arith, ◌∙◌, ◌≤◌}
use Rattle.std.specs.Prelude.{nat_lt}
use Rattle.pcode_model.proofs.Sizes.{never_past, shift_is}
use Rattle.pcode_model.proofs.ranges.passes.Goals as goal

pub returns-then-size-gt8 : goal.returns-then-size-gt8
returns-then-size-gt8 c = never_past _ _ c.if-size-gt8.true c.requires

pub returns : goal.returns
returns c =
    let small : c.from.result ≤ 8 = omega arith in
    ap (λ (n : ℕ). nat_lt n c.args.end) (shift_is c.from.result small ∙ ap (λ (k : ℕ). 256 ^ k) c.from.ensures)
