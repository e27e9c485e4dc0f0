use Rattle.std.proofs.Common.{◌∙◌, Some, None, subst, sym}
use Rattle.machine.specs.Trace.{Outside}
use Rattle.pcode_model.specs.declared.listing.Varnode.{Varnode}
use Rattle.pcode_model.specs.declared.opcode.Opcode.TheVariants as O
use Rattle.pcode_model.specs.Memory.{whole}
use Rattle.pcode_memory.specs.Context.{frame_in, layout_of}
use Rattle.pcode_operands.specs.State.{places_of, state_of}
use Rattle.pcode_operands.specs.Used.{IsUsed}
use Rattle.pcode_run.proofs.Obeying.{test_input}
use Rattle.pcode_run.proofs.Doing.{ends, other}
use Rattle.pcode_run.proofs.Leading.{tested}
use Rattle.pcode_run.proofs.branches.cbranch.Goals as goal

pub read_varnode-requires-clause-used : goal.read_varnode-requires-clause-used
read_varnode-requires-clause-used c =
    let P : Varnode → Type 0 = λ v. IsUsed c.args.context.now.listing.now v in
    subst P (sym c.input.ensures)
    (test_input c.args.context.now.listing.now c.args.op.now c.requires.obeys c.requires.context.formed.spaces
    c.requires.kind).1

pub returns-in-Some : goal.returns-in-Some
returns-in-Some c =
    let q = c.args in
    let l = q.context.now.listing.now in
    let m = whole (layout_of q.context.now) in
    let f = frame_in q.context.now in
    let s = state_of q.context.now q.state.now in
    let count = (test_input l q.op.now c.requires.obeys c.requires.context.formed.spaces c.requires.kind).0 in
    let read =
    other m l f s q.op.now.inputs c.input.result c.in_ok-test.field-0 (Some c.in-Some.test) count c.input.ensures
    ((c.in_ok-test.ensures {u = tt}).value) c.in-Some.is in
    c.go.ensures q.context.now
    ∙ tested m l f q.instruction.now s q.op.now c.in-Some.test c.input-in-Some.result
    (places_of c.tested_spot-to.result) c.requires.kind read c.input-in-Some.ensures c.tested_spot-to.ensures

pub returns-in-None : goal.returns-in-None
returns-in-None c =
    let q = c.args in
    let l = q.context.now.listing.now in
    let m = whole (layout_of q.context.now) in
    let f = frame_in q.context.now in
    let s = state_of q.context.now q.state.now in
    let count = (test_input l q.op.now c.requires.obeys c.requires.context.formed.spaces c.requires.kind).0 in
    c.finish.ensures q.context.now
    ∙ ends m l f q.instruction.now s q.op.now O.CBranch Outside c.requires.kind
    (other m l f s q.op.now.inputs c.input.result c.in_ok-test.field-0 None count c.input.ensures
    ((c.in_ok-test.ensures {u = tt}).value) c.in-None.is)
