use Rattle.std.proofs.Common.{◌≡◌, true, false, sym, ◌∙◌}
use Rattle.cmeaning.proofs.Sets.{value_added, value_known, values_end}
use Rattle.cmeaning.proofs.cases.add_new.Goals as goal

pub returns-in-Ok-false : goal.returns-in-Ok-false
returns-in-Ok-false c known holds =
    let before = c.loop-x.invariant known holds in (
      value_known c.loop-x.seen known c.args.values.now c.loop-x.x-index c.loop-x-test.true before.0 before.1
          (sym c.in-Ok-false.field-0-test ∙ c.in-Ok-false.ensures.added),
      λ t. absurd (no t),
    )
  where
    no : false ≡ true → ⊥
    no h = cc

pub loop-x-preserved : goal.loop-x-preserved
loop-x-preserved c known holds =
    let before = c.loop-x.invariant known holds in
    value_added c.loop-x.seen c.insert.new.self known c.args.values.now c.loop-x.x-index c.loop-x-test.true before.0
    before.1 (sym c.in-Ok-true.field-0-test ∙ c.in-Ok-true.ensures.added) c.in-Ok-true.ensures.updates

pub returns : goal.returns
returns c known holds =
    let before = c.loop-x.invariant known holds in
    values_end c.loop-x.seen known c.args.values.now c.loop-x.x-index c.loop-x-test.false before.0 before.1
