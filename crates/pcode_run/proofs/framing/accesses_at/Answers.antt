use Rattle.std.proofs.Common.{◌∙◌, ap, sym}
use Rattle.pcode_model.specs.Places.{Standing}
use Rattle.pcode_run.specs.Run.{accesses}
use Rattle.pcode_run.proofs.Standing.{does_in}
use Rattle.pcode_run.proofs.framing.accesses_at.Goals as goal

pub returns-in-Some : goal.returns-in-Some
returns-in-Some c =
    let i = c.args.instruction.now in
    c.accesses_space.ensures i
    ∙ ap (λ (s : Standing). accesses c.args.ram s)
    (sym (does_in i i.ops c.args.index c.in-Some.op.now (sym c.in-Some.ensures.value)))
