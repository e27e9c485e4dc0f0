use Rattle.cvalue.proofs.Ones.{ones_are, when_least, when_other}
use Rattle.cvalue.proofs.value.overflows_quotient.Goals as goal

pub returns-then-a-ones : goal.returns-then-a-ones
returns-then-a-ones c =
    when_least c.args.a.width.bytes _ c.args.a.value c.args.b.value
    (ones_are c.args.a.width.bytes c.from.result c.from.ensures c.args.a.width.from c.args.a.width.to) c.if-a-ones.true

pub returns-else-a-ones : goal.returns-else-a-ones
returns-else-a-ones c =
    when_other c.args.a.width.bytes _ c.args.a.value c.args.b.value
    (ones_are c.args.a.width.bytes c.from.result c.from.ensures c.args.a.width.from c.args.a.width.to) c.if-a-ones.false
