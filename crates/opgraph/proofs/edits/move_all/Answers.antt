use Rattle.std.proofs.Common.{◌∙◌, sym}
use Rattle.opgraph.proofs.MoveAll.{step, shorter, all}
use Rattle.opgraph.proofs.edits.move_all.Goals as goal

pub move_first-requires-clause-node : goal.move_first-requires-clause-node
move_first-requires-clause-node c =
    (c.loop-slot.invariant.full.members (Rattle.std.proofs.Common.Some c.args.before) c.in-Some.slot
    (Rattle.node_lists.proofs.Chains.head_none
    (Rattle.node_lists.specs.Families.list_at c.loop-slot.uses (Rattle.std.proofs.Common.Some c.args.before))
    c.in-Some.slot (sym c.first.ensures ∙ c.in-Some.is))).0

pub loop-slot-smaller : goal.loop-slot-smaller
loop-slot-smaller c =
    shorter c.args.before c.args.after c.requires.other c.in-Some.slot c.args.uses.now c.loop-slot.uses
    c.move_first.new.self (sym c.first.ensures ∙ c.in-Some.is) c.move_first.ensures c.loop-slot.invariant

pub loop-slot-preserved : goal.loop-slot-preserved
loop-slot-preserved c =
    step c.args.before c.args.after c.requires.other c.in-Some.slot c.args.uses.now c.loop-slot.uses
    c.move_first.new.self (sym c.first.ensures ∙ c.in-Some.is) c.move_first.ensures c.loop-slot.invariant

pub returns : goal.returns
returns c =
    all c.args.before c.args.after c.requires.other c.args.uses.now c.loop-slot.uses
    (sym c.first.ensures ∙ c.in_default.is) c.loop-slot.invariant
