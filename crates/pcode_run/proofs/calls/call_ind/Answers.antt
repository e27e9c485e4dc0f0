use Rattle.std.proofs.Common.{◌<◌, ◌^◌, List, refl, length, subst, sym}
use Rattle.std.specs.List.{AllByRecursion}
use Rattle.pcode_model.specs.declared.listing.Proto.{Proto}
use Rattle.pcode_model.specs.declared.listing.Storage.{Storage}
use Rattle.pcode_operands.specs.Used.{IsArgument, IsUsed}
use Rattle.pcode_model.specs.declared.listing.Varnode.{Varnode}
use Rattle.pcode_model.specs.declared.opcode.Opcode.TheVariants as O
use Rattle.pcode_run.proofs.Obeying.{only_input}
use Rattle.pcode_run.proofs.Protos.{Runs, own_runs}
use Rattle.pcode_run.proofs.calls.call_ind.Goals as goal

pub own_proto-proto-requires : goal.own_proto-proto-requires
own_proto-proto-requires c = c.requires.context.formed.func.proto

pub read_arguments-requires-clause-used : goal.read_arguments-requires-clause-used
read_arguments-requires-clause-used c =
    let l = c.args.context.now.listing.now in
    let P : Proto → Type 0 = λ p. Runs l p in
    let Q : List Storage → Type 0 = λ xs. AllByRecursion (IsArgument l) xs in
    subst Q (sym c.as_slice.ensures)
    (subst P (sym c.own_proto-proto.ensures) (own_runs l c.requires.context.formed)).args

pub read_arguments-requires-clause-few : goal.read_arguments-requires-clause-few
read_arguments-requires-clause-few c =
    let l = c.args.context.now.listing.now in
    let P : Proto → Type 0 = λ p. Runs l p in
    let Q : List Storage → Type 0 = λ xs. length xs < 2 ^ 32 in
    subst Q (sym c.as_slice.ensures)
    (subst P (sym c.own_proto-proto.ensures) (own_runs l c.requires.context.formed)).few

pub call_to-requires-clause-keep : goal.call_to-requires-clause-keep
call_to-requires-clause-keep c =
    let l = c.args.context.now.listing.now in
    let P : Proto → Type 0 = λ p. Runs l p in
    (subst P (sym c.own_proto-proto.ensures) (own_runs l c.requires.context.formed)).keep

pub call_to-requires-clause-gives : goal.call_to-requires-clause-gives
call_to-requires-clause-gives c =
    let l = c.args.context.now.listing.now in
    let P : Proto → Type 0 = λ p. Runs l p in
    (subst P (sym c.own_proto-proto.ensures) (own_runs l c.requires.context.formed)).gives

pub read_varnode-requires-clause-used : goal.read_varnode-requires-clause-used
read_varnode-requires-clause-used c =
    let P : Varnode → Type 0 = λ v. IsUsed c.args.context.now.listing.now v in
    subst P (sym c.input.ensures)
    (only_input c.args.context.now.listing.now c.args.op.now c.requires.obeys c.requires.context.formed.spaces
    O.CallInd c.requires.kind refl refl).first
