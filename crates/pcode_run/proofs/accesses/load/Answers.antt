use Rattle.std.proofs.Common.{◌≤◌, ◌^◌, ◌∙◌, Some, None, subst, sym}
use Rattle.std.proofs.lemmas.Result.{on_ok_weaker}
use Rattle.machine.specs.Trace.{Outside}
use Rattle.pcode_model.specs.declared.listing.Varnode.{Varnode}
use Rattle.pcode_model.specs.declared.opcode.Opcode.TheVariants as O
use Rattle.pcode_model.specs.Memory.{whole}
use Rattle.pcode_model.specs.Spaces.{size_of}
use Rattle.pcode_memory.specs.Context.{frame_in, layout_of}
use Rattle.pcode_operands.specs.State.{place_of, state_of}
use Rattle.pcode_operands.specs.Used.{IsUsed}
use Rattle.pcode_operands.specs.Words.{got_word}
use Rattle.pcode_run.proofs.Obeying.{load_input, load_output, load_ram, ram_small}
use Rattle.pcode_run.proofs.Doing.{ends, other}
use Rattle.pcode_run.proofs.Accessing.{loaded}
use Rattle.pcode_run.proofs.accesses.load.Goals as goal

pub read_varnode-requires-clause-used : goal.read_varnode-requires-clause-used
read_varnode-requires-clause-used c =
    let P : Varnode → Type 0 = λ v. IsUsed c.args.context.now.listing.now v in
    subst P (sym c.input.ensures)
    (load_input c.args.context.now.listing.now c.args.op.now c.requires.obeys c.requires.context.formed.spaces
    c.requires.kind).1

pub byte_address-address-requires : goal.byte_address-address-requires
byte_address-address-requires c =
    let l = c.args.context.now.listing.now in
    let P : Varnode → Type 0 = λ v. size_of l v.offset ≤ 2 ^ 64 in
    subst P (sym c.input-space.ensures) (ram_small l _ c.requires.context.formed.spaces
    (load_ram l c.args.op.now c.requires.obeys c.requires.context.formed.spaces c.requires.kind))

pub word_at-requires-clause-small : goal.word_at-requires-clause-small
word_at-requires-clause-small c =
    let l = c.args.context.now.listing.now in
    let P : Varnode → Type 0 = λ v. size_of l v.offset ≤ 2 ^ 64 in
    subst P (sym c.input-space.ensures) (ram_small l _ c.requires.context.formed.spaces
    (load_ram l c.args.op.now c.requires.obeys c.requires.context.formed.spaces c.requires.kind))

pub put_fetched-requires-clause-out : goal.put_fetched-requires-clause-out
put_fetched-requires-clause-out c =
    (load_output c.args.context.now.listing.now c.args.op.now c.requires.obeys c.requires.context.formed.spaces
    c.requires.kind).used

pub returns-in_default : goal.returns-in_default
returns-in_default c =
    let q = c.args in
    let l = q.context.now.listing.now in
    let m = whole (layout_of q.context.now) in
    let f = frame_in q.context.now in
    let s = state_of q.context.now q.state.now in
    let count = (load_input l q.op.now c.requires.obeys c.requires.context.formed.spaces c.requires.kind).0 in
    c.finish.ensures q.context.now
    ∙ ends m l f q.instruction.now s q.op.now O.Load Outside c.requires.kind
    (other m l f s q.op.now.inputs c.input.result c.in_ok-offset.field-0 None count c.input.ensures
    ((c.in_ok-offset.ensures {u = tt}).value) c.in_default.is)

pub returns : goal.returns
returns c =
    let q = c.args in
    let l = q.context.now.listing.now in
    let m = whole (layout_of q.context.now) in
    let f = frame_in q.context.now in
    let s = state_of q.context.now q.state.now in
    let count = (load_input l q.op.now c.requires.obeys c.requires.context.formed.spaces c.requires.kind).0 in
    let read =
    other m l f s q.op.now.inputs c.input.result c.in_ok-offset.field-0 (Some c.in-Some.offset) count
    c.input.ensures ((c.in_ok-offset.ensures {u = tt}).value) c.in-Some.is in
    on_ok_weaker c.put_fetched.result
    (λ e. e
    ∙ loaded m l f q.instruction.now s q.op.now c.in-Some.offset c.input-space.result c.own-own.result
    c.byte_address-address.result (place_of c.next_spot-state.result) c.size_out.result
    (got_word c.in_ok-word.word) c.requires.kind read c.input-space.ensures c.own-own.ensures
    c.byte_address-address.ensures.value c.next_spot-state.ensures c.size_out.ensures
    ((c.in_ok-word.ensures {u = tt}).value))
    c.put_fetched.ensures
