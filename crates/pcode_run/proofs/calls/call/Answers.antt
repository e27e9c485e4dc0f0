use Rattle.std.proofs.Common.{◌<◌, ◌^◌, List, length, subst, sym}
use Rattle.std.specs.List.{AllByRecursion}
use Rattle.pcode_model.specs.declared.listing.Proto.{Proto}
use Rattle.pcode_model.specs.declared.listing.Storage.{Storage}
use Rattle.pcode_operands.specs.Used.{IsArgument}
use Rattle.pcode_run.proofs.Protos.{Runs, called_runs}
use Rattle.pcode_run.proofs.calls.call.Goals as goal

pub read_arguments-requires-clause-used : goal.read_arguments-requires-clause-used
read_arguments-requires-clause-used c =
    let l = c.args.context.now.listing.now in
    let P : Proto → Type 0 = λ p. Runs l p in
    let Q : List Storage → Type 0 = λ xs. AllByRecursion (IsArgument l) xs in
    subst Q (sym c.as_slice.ensures)
    (subst P (sym c.called_at-returns.ensures.proto)
    (called_runs l c.input-to.result.offset c.requires.context.formed)).args

pub read_arguments-requires-clause-few : goal.read_arguments-requires-clause-few
read_arguments-requires-clause-few c =
    let l = c.args.context.now.listing.now in
    let P : Proto → Type 0 = λ p. Runs l p in
    let Q : List Storage → Type 0 = λ xs. length xs < 2 ^ 32 in
    subst Q (sym c.as_slice.ensures)
    (subst P (sym c.called_at-returns.ensures.proto)
    (called_runs l c.input-to.result.offset c.requires.context.formed)).few

pub call_to-requires-clause-keep : goal.call_to-requires-clause-keep
call_to-requires-clause-keep c =
    let l = c.args.context.now.listing.now in
    let P : Proto → Type 0 = λ p. Runs l p in
    (subst P (sym c.called_at-returns.ensures.proto)
    (called_runs l c.input-to.result.offset c.requires.context.formed)).keep

pub call_to-requires-clause-gives : goal.call_to-requires-clause-gives
call_to-requires-clause-gives c =
    let l = c.args.context.now.listing.now in
    let P : Proto → Type 0 = λ p. Runs l p in
    (subst P (sym c.called_at-returns.ensures.proto)
    (called_runs l c.input-to.result.offset c.requires.context.formed)).gives
