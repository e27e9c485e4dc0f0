use Rattle.std.proofs.Common.{◌<◌, length, arith}
use Rattle.opgraph.specs.Graph.{op_at, inputs_in}
use Rattle.opgraph.proofs.Runs.{shortened_op, shortened_some, shortened_more}
use Rattle.opgraph.proofs.graph.OpGraph.detach_all.Goals as goal

pub detach-requires-clause-op : goal.detach-requires-clause-op
detach-requires-clause-op c =
    shortened_op c.args.op c.slots.counter c.args.self.now c.slots.self c.requires c.slots.invariant.row

pub detach-requires-clause-some : goal.detach-requires-clause-some
detach-requires-clause-some c =
    let low : c.slots.counter < length (inputs_in (op_at c.args.self.now c.args.op)) =
    omega (arith, c.input_count-count.ensures) in
    shortened_some c.args.op c.slots.counter c.args.self.now c.slots.self c.requires c.slots.invariant.row low

pub slots-preserved : goal.slots-preserved
slots-preserved c =
    let low : c.slots.counter < length (inputs_in (op_at c.args.self.now c.args.op)) =
    omega (arith, c.input_count-count.ensures) in
    record {
      row =
          shortened_more c.args.op c.slots.counter c.args.self.now c.slots.self c.detach.new.self c.slots.invariant.row
          c.detach.ensures.row low;
      ops = omega arith;
      slots = omega arith;
    }
