use Rattle.std.proofs.Common.{◌<◌, ℕ, List, Option, length, take, get_or, arith, subst, refl, ap}
use Rattle.opgraph.specs.Graph.{OpRow, op_at, inputs_in}
use Rattle.opgraph.proofs.Tables.{value_of}
use Rattle.ssa_model.specs.Drops.{op_numbers, Blanked}
use Rattle.ssa_model.proofs.Dropping.{blanked_none, blanked_there, blanked_more, op_there, ops_more, not_before, slots_step}
use Rattle.ssa_model.proofs.drops.blank_all.Goals as goal

pub loop-op-init : goal.loop-op-init
loop-op-init c = record {
  blanked = blanked_none c.args.graph.now c.known.ensures;
  spare_ops = refl;
  spare_slots = omega arith;
}

pub retarget-requires-clause-op : goal.retarget-requires-clause-op
retarget-requires-clause-op c =
    let ops = c.args.ops.now in let i = c.loop-op.op-index in
    let low : i < length ops = omega arith in
    blanked_there (op_numbers (take i ops)) c.args.graph.now c.loop-op.graph (get_or ops i (record { 0 = 0 })).0
    c.loop-op.invariant.blanked (op_there c.args.graph.now ops i c.requires.ops low)

pub loop-op-preserved : goal.loop-op-preserved
loop-op-preserved c =
    let ops = c.args.ops.now in let i = c.loop-op.op-index in
    let low : i < length ops = omega arith in
    let x = (get_or ops i (record { 0 = 0 })).0 in
    let there =
    blanked_there (op_numbers (take i ops)) c.args.graph.now c.loop-op.graph x c.loop-op.invariant.blanked
    (op_there c.args.graph.now ops i c.requires.ops low) in
    let z = value_of (op_at c.loop-op.graph x) there in
    record {
      blanked =
          subst (λ (xs : List ℕ). Blanked xs c.args.graph.now c.retarget.new.self) (ops_more ops i low)
          (blanked_more (op_numbers (take i ops)) x c.args.graph.now c.loop-op.graph c.retarget.new.self z.0 z.1
          c.loop-op.invariant.blanked (c.retarget.ensures.row z.0 z.1));
      spare_ops = omega arith;
      spare_slots =
          let same = ap (λ (o : Option OpRow). length (inputs_in o))
          (c.loop-op.invariant.blanked.stays x (not_before ops i c.requires.once low)) in
          let one = slots_step c.args.graph.now ops i low in
          let now = c.retarget.ensures.spare_slots in let so_far = c.loop-op.invariant.spare_slots in
          omega (arith, same, one, now, so_far);
    }
