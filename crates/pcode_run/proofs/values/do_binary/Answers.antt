use Rattle.std.proofs.Common.{◌∙◌, Some, None, ap, subst, sym}
use Rattle.std.proofs.lemmas.Result.{on_ok_weaker}
use Rattle.machine.specs.Trace.{Outside}
use Rattle.pcode_operands.specs.State.{state_of}
use Rattle.pcode_operands.specs.Used.{IsUsed}
use Rattle.pcode_model.specs.declared.listing.Varnode.{Varnode}
use Rattle.pcode_model.specs.declared.opcode.Opcode.TheVariants as O
use Rattle.pcode_model.specs.Memory.{whole}
use Rattle.pcode_model.specs.Step.{size_out, varnode_at}
use Rattle.pcode_memory.specs.Context.{frame_in, layout_of}
use Rattle.pcode_run.proofs.Obeying.{binary_fits, binary_inputs, binary_output}
use Rattle.pcode_run.proofs.Doing.{binary_done, binary_sized, ends, two, widths_are}
use Rattle.pcode_run.proofs.values.do_binary.Goals as goal

pub read_two-requires-clause-first : goal.read_two-requires-clause-first
read_two-requires-clause-first c =
    let P : Varnode → Type 0 = λ v. IsUsed c.args.context.now.listing.now v in
    subst P (sym c.input.ensures)
    (binary_inputs c.args.context.now.listing.now c.args.op.now c.requires.obeys c.requires.context.formed.spaces
    c.args.code c.requires.kind).first

pub read_two-requires-clause-second : goal.read_two-requires-clause-second
read_two-requires-clause-second c =
    let P : Varnode → Type 0 = λ v. IsUsed c.args.context.now.listing.now v in
    subst P (sym c.input-2.ensures)
    (binary_inputs c.args.context.now.listing.now c.args.op.now c.requires.obeys c.requires.context.formed.spaces
    c.args.code c.requires.kind).second

pub put_value-requires-clause-out : goal.put_value-requires-clause-out
put_value-requires-clause-out c =
    (binary_output c.args.context.now.listing.now c.args.op.now c.requires.obeys c.requires.context.formed.spaces
    c.args.code c.requires.kind).used

pub binary-word-requires : goal.binary-word-requires
binary-word-requires c =
    let q = c.args in
    let fits =
    binary_fits q.context.now.listing.now q.op.now c.requires.obeys c.requires.context.formed.spaces q.code
    c.requires.kind in
    let are =
    widths_are c.in_ok-a.field-0 (c.in-Some.a, c.in-Some.b) c.input.result.size c.input-2.result.size
    c.in-Some.is ((c.in_ok-a.ensures {u = tt}).widths) in
    binary_sized q.code c.in-Some.a.width.bytes c.in-Some.b.width.bytes c.width_out.result.bytes
    (varnode_at q.op.now.inputs 0).size (varnode_at q.op.now.inputs 1).size (size_out q.op.now.out)
    (are.0 ∙ ap (λ (v : Varnode). v.size) c.input.ensures) (are.1 ∙ ap (λ (v : Varnode). v.size) c.input-2.ensures)
    c.width_out.ensures fits

pub returns-in-Some : goal.returns-in-Some
returns-in-Some c =
    let q = c.args in
    let l = q.context.now.listing.now in
    let m = whole (layout_of q.context.now) in
    let f = frame_in q.context.now in
    let s = state_of q.context.now q.state.now in
    let op = q.op.now in
    let ins = binary_inputs l op c.requires.obeys c.requires.context.formed.spaces q.code c.requires.kind in
    let are =
    widths_are c.in_ok-a.field-0 (c.in-Some.a, c.in-Some.b) c.input.result.size c.input-2.result.size
    c.in-Some.is ((c.in_ok-a.ensures {u = tt}).widths) in
    let read =
    two m l f s op.inputs c.input.result c.input-2.result c.in_ok-a.field-0 (Some (c.in-Some.a, c.in-Some.b))
    ins.count c.input.ensures c.input-2.ensures ((c.in_ok-a.ensures {u = tt}).value) c.in-Some.is in
    on_ok_weaker c.put_value.result
    (λ e. e
    ∙ binary_done m l f q.instruction.now s op q.code c.in-Some.a c.in-Some.b c.binary-word.result.value
    c.in-Some.a.width.bytes c.in-Some.b.width.bytes c.width_out.result.bytes c.requires.kind read
    c.binary-word.ensures.value (are.0 ∙ ap (λ (v : Varnode). v.size) c.input.ensures)
    (are.1 ∙ ap (λ (v : Varnode). v.size) c.input-2.ensures) c.width_out.ensures)
    c.put_value.ensures

pub returns-in-None : goal.returns-in-None
returns-in-None c =
    let q = c.args in
    let l = q.context.now.listing.now in
    let m = whole (layout_of q.context.now) in
    let f = frame_in q.context.now in
    let s = state_of q.context.now q.state.now in
    let op = q.op.now in
    let ins = binary_inputs l op c.requires.obeys c.requires.context.formed.spaces q.code c.requires.kind in
    c.finish.ensures q.context.now
    ∙ ends m l f q.instruction.now s op (O.Binary q.code) Outside c.requires.kind
    (two m l f s op.inputs c.input.result c.input-2.result c.in_ok-a.field-0 None ins.count c.input.ensures
    c.input-2.ensures ((c.in_ok-a.ensures {u = tt}).value) c.in-None.is)
