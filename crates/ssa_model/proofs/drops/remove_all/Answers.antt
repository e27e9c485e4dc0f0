use Rattle.std.proofs.Common.{◌<◌, ℕ, List, Option, length, take, get_or, arith, subst, IsSome, sym, ap}
use Rattle.opgraph.specs.Graph.{OpRow, op_at, inputs_in}
use Rattle.opgraph.proofs.Tables.{value_of}
use Rattle.ssa_model.specs.Drops.{op_numbers, Cleared}
use Rattle.ssa_model.proofs.Dropping.{cleared_none, cleared_more, op_there, op_in, ops_more, not_before, unread_still, no_uses, slots_step}
use Rattle.ssa_model.proofs.drops.remove_all.Goals as goal

pub loop-op-init : goal.loop-op-init
loop-op-init c = record {
  cleared = cleared_none c.args.graph.now c.known.ensures;
  spare_ops = omega arith;
  spare_slots = omega arith;
}

pub remove-requires-clause-op : goal.remove-requires-clause-op
remove-requires-clause-op c =
    let ops = c.args.ops.now in let i = c.loop-op.op-index in
    let low : i < length ops = omega arith in
    let x = (get_or ops i (record { 0 = 0 })).0 in
    subst IsSome (sym (c.loop-op.invariant.cleared.stays x (not_before ops i c.requires.once low)))
    (op_there c.args.graph.now ops i c.requires.ops low)

pub remove-requires-clause-uses : goal.remove-requires-clause-uses
remove-requires-clause-uses c =
    let ops = c.args.ops.now in let i = c.loop-op.op-index in
    let low : i < length ops = omega arith in
    let x = (get_or ops i (record { 0 = 0 })).0 in
    no_uses c.loop-op.graph x c.loop-op.invariant.cleared.whole
    (unread_still (op_numbers (take i ops)) c.args.graph.now c.loop-op.graph x c.loop-op.invariant.cleared
    (λ y t e m. c.requires.unread.at y x t e m (op_in ops i low)))

pub loop-op-preserved : goal.loop-op-preserved
loop-op-preserved c =
    let ops = c.args.ops.now in let i = c.loop-op.op-index in
    let low : i < length ops = omega arith in
    let x = (get_or ops i (record { 0 = 0 })).0 in
    let there =
    subst IsSome (sym (c.loop-op.invariant.cleared.stays x (not_before ops i c.requires.once low)))
    (op_there c.args.graph.now ops i c.requires.ops low) in
    let z = value_of (op_at c.loop-op.graph x) there in
    record {
      cleared =
          subst (λ (xs : List ℕ). Cleared xs c.args.graph.now c.remove.new.self) (ops_more ops i low)
          (cleared_more (op_numbers (take i ops)) x c.args.graph.now c.loop-op.graph c.remove.new.self z.0 z.1
          c.loop-op.invariant.cleared.whole c.loop-op.invariant.cleared (c.remove.ensures.removed z.0 z.1));
      spare_ops = omega arith;
      spare_slots =
          let same = ap (λ (o : Option OpRow). length (inputs_in o))
          (c.loop-op.invariant.cleared.stays x (not_before ops i c.requires.once low)) in
          let one = slots_step c.args.graph.now ops i low in
          let now = c.remove.ensures.spare_slots in let so_far = c.loop-op.invariant.spare_slots in
          omega (arith, same, one, now, so_far);
    }
