use Rattle.std.proofs.Common.{arith, sym}
use Rattle.listing_lines.proofs.Digits.{odd_end, pair_more}
use Rattle.listing_lines.proofs.tokens.pairs.Goals as goal

pub loop-i-preserved : goal.loop-i-preserved
loop-i-preserved c = record {
  within = omega arith;
  same = rw c.in_ok-push.ensures.items (pair_more _ _ _ _ _ c.loop-i-test.true c.digit-high.ensures c.digit-low.ensures (λ h. omega arith) (λ h. omega arith) c.loop-i.invariant.same);
}

pub returns-else-i-part : goal.returns-else-i-part
returns-else-i-part c = sym (odd_end _ c.loop-i.bytes.items _ (λ h. omega arith) c.if-i-part.false c.loop-i.invariant.within c.loop-i.invariant.same)
