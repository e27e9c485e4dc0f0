use Rattle.std.proofs.Common.{◌<◌, ◌+◌, length, take, get_or, arith}
use Rattle.opgraph.specs.Graph.{numbers}
use Rattle.opgraph.proofs.Runs.{extended_op, extended_value, extended_more, value_at, numbers_more}
use Rattle.opgraph.proofs.graph.OpGraph.attach_all.Goals as goal

pub attach-requires-clause-op : goal.attach-requires-clause-op
attach-requires-clause-op c =
    extended_op c.args.op (numbers (take c.loop-v.v-index c.args.inputs.now)) c.args.self.now c.loop-v.self
    c.requires.op c.loop-v.invariant.row

pub attach-requires-clause-value : goal.attach-requires-clause-value
attach-requires-clause-value c =
    let low : c.loop-v.v-index < length c.args.inputs.now = omega arith in
    extended_value c.args.op (numbers (take c.loop-v.v-index c.args.inputs.now)) c.args.self.now c.loop-v.self
    c.requires.op c.loop-v.invariant.row (get_or c.args.inputs.now c.loop-v.v-index (record { 0 = 0 })).0
    (value_at c.args.self.now c.args.inputs.now c.loop-v.v-index c.requires.values low)

pub loop-v-preserved : goal.loop-v-preserved
loop-v-preserved c =
    let low : c.loop-v.v-index < length c.args.inputs.now = omega arith in
    record {
      row =
          extended_more c.args.op (get_or c.args.inputs.now c.loop-v.v-index (record { 0 = 0 })).0
          (numbers (take c.loop-v.v-index c.args.inputs.now))
          (numbers (take (c.loop-v.v-index + 1) c.args.inputs.now)) c.args.self.now c.loop-v.self c.attach.new.self
          c.loop-v.invariant.row c.attach.ensures.row (numbers_more c.args.inputs.now c.loop-v.v-index low);
      ops = omega arith;
      slots = omega arith;
    }
