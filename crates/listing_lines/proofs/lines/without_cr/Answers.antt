use Rattle.listing_lines.proofs.Cutting.{with_cr, with_no_cr}
use Rattle.listing_lines.proofs.lines.without_cr.Goals as goal

pub returns-then-last-eq13 : goal.returns-then-last-eq13
returns-then-last-eq13 c = with_cr _ _ _ c.in-Some.ensures.cases.0 c.if-last-eq13.true

pub returns-else-last-eq13 : goal.returns-else-last-eq13
returns-else-last-eq13 c = with_no_cr _ _ _ c.in-Some.ensures.cases.0 c.if-last-eq13.false
