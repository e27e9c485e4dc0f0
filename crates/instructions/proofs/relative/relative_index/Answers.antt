use Rattle.std.proofs.Common.{◌≡◌, ℕ, ◌+◌, ap, ◌∙◌, arith, Option, Some, None, ◌≤◌, ◌-◌}
use Rattle.std.specs.Prelude.{MatchOption, pos, ◌+ℤ◌, SomeIff}
use Rattle.bits_core.specs.Value.{signed}
use Rattle.instructions.specs.Relative.{IsNegative}
use Rattle.instructions.proofs.Indices.{forward_wide, forward_by, back_by, back_past, below}
use Rattle.instructions.proofs.relative.relative_index.Goals as goal

pub returns-then-count-gt8 : goal.returns-then-count-gt8
returns-then-count-gt8 c =
    let e : c.args.index + c.args.count.offset ≡ c.from.result + c.from-offset.result = omega arith in
    forward_wide c.args.count.size c.args.index c.args.count.offset c.if-count-gt8.true (omega arith) ∙ ap pos e

pub returns-then-offset-limit : goal.returns-then-offset-limit
returns-then-offset-limit c =
    let e : c.args.index + c.args.count.offset ≡ c.from.result + c.from-offset.result = omega arith in
    forward_by c.args.count.size c.args.index c.args.count.offset c.limit-limit.result c.limit-limit.ensures
    (omega arith)
    ∙ ap pos e

pub returns-else-offset-limit : goal.returns-else-offset-limit
returns-else-offset-limit c = by c.checked_sub.result c.checked_sub.ensures where
  by : (o : Option ℕ)
      → SomeIff o (c.limit-limit.result ≤ c.from.result + c.from-offset.result)
      (c.from.result + c.from-offset.result - c.limit-limit.result)
      → MatchOption o (IsNegative (pos c.args.index +ℤ signed c.args.count.size c.args.count.offset))
      (λ m. pos c.args.index +ℤ signed c.args.count.size c.args.count.offset ≡ pos m)
  by None h =
      back_past c.args.count.size c.args.index c.args.count.offset c.limit-limit.result c.limit-limit.ensures
      (omega arith) (below (c.args.index + c.args.count.offset) c.limit-limit.result (λ le. h (omega arith)))
  by (Some m) h =
      let e : c.args.index + c.args.count.offset - c.limit-limit.result ≡ m = omega (arith, h.1) in
      back_by c.args.count.size c.args.index c.args.count.offset c.limit-limit.result c.limit-limit.ensures
      (omega arith) (omega (arith, h.0))
      ∙ ap pos e
