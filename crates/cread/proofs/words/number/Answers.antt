use Rattle.std.proofs.Common.{arith}
use Rattle.cread.proofs.Fronts.{number_more, number_done, number_end}
use Rattle.cread.proofs.words.number.Goals as goal

pub returns-then-d-radix : goal.returns-then-d-radix
returns-then-d-radix c = number_done c.args.radix c.loop-i.n c.loop-i.i c.digit-d.result c.args.bytes.now _
    c.digit-d.ensures c.if-d-radix.true c.loop-i.invariant.same

pub loop-i-preserved : goal.loop-i-preserved
loop-i-preserved c = record {
  within = omega arith;
  same = number_more c.args.radix c.loop-i.n c.loop-i.i c.digit-d.result c.from.result c.from-in-loop-i.result
      c.args.bytes.now _ c.loop-i-test.true c.digit-d.ensures c.if-d-radix.false c.from.ensures
      c.from-in-loop-i.ensures c.loop-i.invariant.same;
}

pub returns : goal.returns
returns c = number_end c.args.radix c.loop-i.n c.loop-i.i c.args.bytes.now _ c.loop-i-test.false c.loop-i.invariant.same
