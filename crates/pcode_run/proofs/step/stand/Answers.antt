use Rattle.std.proofs.Common.{sym}
use Rattle.pcode_model.specs.Places.{place}
use Rattle.pcode_run.proofs.Standing.{does_at, few_ops, op_obeys}
use Rattle.pcode_run.proofs.step.stand.Goals as goal

pub carry_out-requires-clause-few : goal.carry_out-requires-clause-few
carry_out-requires-clause-few c =
    few_ops c.args.context.now.listing.now c.args.state.now.at.address c.args.instruction.now c.requires.context.formed
    c.requires.here

pub carry_out-requires-clause-obeys : goal.carry_out-requires-clause-obeys
carry_out-requires-clause-obeys c =
    op_obeys c.args.context.now.listing.now c.args.state.now.at.address c.args.state.now.at.index c.args.instruction.now
    c.in-Some.op.now c.requires.context.formed c.requires.context.checked c.requires.here (sym c.in-Some.ensures.value)

pub carry_out-requires-clause-owns : goal.carry_out-requires-clause-owns
carry_out-requires-clause-owns c = λ pointer own.
    let q = c.args in
    c.requires.owns (place q.state.now.at.address q.state.now.at.index) q.instruction.now c.in-Some.op.now
    (does_at q.context.now.listing.now q.state.now.at.address q.state.now.at.index q.instruction.now
    c.in-Some.op.now c.requires.here (sym c.in-Some.ensures.value))
    pointer own
