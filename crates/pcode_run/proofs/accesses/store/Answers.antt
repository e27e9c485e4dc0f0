use Rattle.std.proofs.Common.{◌≤◌, ◌^◌, ◌∙◌, Some, None, subst, sym}
use Rattle.std.proofs.lemmas.Result.{on_ok_weaker}
use Rattle.machine.specs.Trace.{Outside}
use Rattle.pcode_model.specs.declared.listing.Varnode.{Varnode}
use Rattle.pcode_model.specs.declared.opcode.Opcode.TheVariants as O
use Rattle.pcode_model.specs.Memory.{whole}
use Rattle.pcode_model.specs.Spaces.{size_of}
use Rattle.pcode_memory.specs.Context.{frame_in, layout_of}
use Rattle.pcode_operands.specs.State.{place_of, state_of}
use Rattle.pcode_operands.specs.Used.{IsUsed}
use Rattle.pcode_run.proofs.Obeying.{ram_small, store_inputs, store_ram}
use Rattle.pcode_run.proofs.Doing.{ends, last_two}
use Rattle.pcode_run.proofs.Accessing.{stored}
use Rattle.pcode_run.proofs.accesses.store.Goals as goal

pub read_two-requires-clause-first : goal.read_two-requires-clause-first
read_two-requires-clause-first c =
    let P : Varnode → Type 0 = λ v. IsUsed c.args.context.now.listing.now v in
    subst P (sym c.input.ensures)
    (store_inputs c.args.context.now.listing.now c.args.op.now c.requires.obeys c.requires.context.formed.spaces
    c.requires.kind).1.0

pub read_two-requires-clause-second : goal.read_two-requires-clause-second
read_two-requires-clause-second c =
    let P : Varnode → Type 0 = λ v. IsUsed c.args.context.now.listing.now v in
    subst P (sym c.input-value.ensures)
    (store_inputs c.args.context.now.listing.now c.args.op.now c.requires.obeys c.requires.context.formed.spaces
    c.requires.kind).1.1

pub byte_address-address-requires : goal.byte_address-address-requires
byte_address-address-requires c =
    let l = c.args.context.now.listing.now in
    let P : Varnode → Type 0 = λ v. size_of l v.offset ≤ 2 ^ 64 in
    subst P (sym c.input-space.ensures) (ram_small l _ c.requires.context.formed.spaces
    (store_ram l c.args.op.now c.requires.obeys c.requires.context.formed.spaces c.requires.kind))

pub put_at-requires-clause-small : goal.put_at-requires-clause-small
put_at-requires-clause-small c =
    let l = c.args.context.now.listing.now in
    let P : Varnode → Type 0 = λ v. size_of l v.offset ≤ 2 ^ 64 in
    subst P (sym c.input-space.ensures) (ram_small l _ c.requires.context.formed.spaces
    (store_ram l c.args.op.now c.requires.obeys c.requires.context.formed.spaces c.requires.kind))

pub returns-in_default : goal.returns-in_default
returns-in_default c =
    let q = c.args in
    let l = q.context.now.listing.now in
    let m = whole (layout_of q.context.now) in
    let f = frame_in q.context.now in
    let s = state_of q.context.now q.state.now in
    let count = (store_inputs l q.op.now c.requires.obeys c.requires.context.formed.spaces c.requires.kind).0 in
    c.finish.ensures q.context.now
    ∙ ends m l f q.instruction.now s q.op.now O.Store Outside c.requires.kind
    (last_two m l f s q.op.now.inputs c.input.result c.input-value.result c.in_ok-offset.field-0 None count
    c.input.ensures c.input-value.ensures ((c.in_ok-offset.ensures {u = tt}).value) c.in_default.is)

pub returns : goal.returns
returns c =
    let q = c.args in
    let l = q.context.now.listing.now in
    let m = whole (layout_of q.context.now) in
    let f = frame_in q.context.now in
    let s = state_of q.context.now q.state.now in
    let count = (store_inputs l q.op.now c.requires.obeys c.requires.context.formed.spaces c.requires.kind).0 in
    let read =
    last_two m l f s q.op.now.inputs c.input.result c.input-value.result c.in_ok-offset.field-0
    (Some (c.in-Some.offset, c.in-Some.word)) count c.input.ensures c.input-value.ensures
    ((c.in_ok-offset.ensures {u = tt}).value) c.in-Some.is in
    on_ok_weaker c.put_at.result
    (λ e. e
    ∙ stored m l f q.instruction.now s q.op.now c.in-Some.offset c.input-space.result c.own-own.result
    c.byte_address-address.result (place_of c.next_spot-state.result) c.in-Some.word c.input-value.result
    c.requires.kind read c.input-space.ensures c.input-value.ensures c.own-own.ensures
    c.byte_address-address.ensures.value c.next_spot-state.ensures)
    c.put_at.ensures
