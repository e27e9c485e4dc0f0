use Rattle.run_world.proofs.Next.{begins_at, begins_here, begins_past, ends_there}
use Rattle.run_world.proofs.byte_map.ByteMap.after.Goals as goal

pub returns-in-Some : goal.returns-in-Some
returns-in-Some c =
    let k = c.in-Some.key.now in
    begins_here c.args.self.now.bytes c.args.space c.args.offset k.0 k.1
    (begins_at c.args.self.now.bytes c.args.space c.args.offset k.0 k.1 c.in-Some.field-0-1.now c.range.result _
    (c.range.ensures.in_range tt) c.in-Some.ensures.steps)
    c.if-key-space.true

pub returns-in_default : goal.returns-in_default
returns-in_default c =
    let k = c.in-Some.key.now in
    begins_past c.args.self.now.bytes c.args.space c.args.offset k.0 k.1
    (begins_at c.args.self.now.bytes c.args.space c.args.offset k.0 k.1 c.in-Some.field-0-1.now c.range.result _
    (c.range.ensures.in_range tt) c.in-Some.ensures.steps)
    c.if-key-space.false

pub returns-in_default-2 : goal.returns-in_default-2
returns-in_default-2 c =
    let h = c.next.ensures.steps in
    let left = rw c.in_default.is at h in
    ends_there c.args.self.now.bytes c.args.space c.args.offset c.range.result (c.range.ensures.in_range tt) left.0
