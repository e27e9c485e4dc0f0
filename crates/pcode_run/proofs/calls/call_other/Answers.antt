use Rattle.std.proofs.Common.{◌∙◌, ◌-◌, List, length, take, drop, ap, subst, sym}
use Rattle.std.specs.List.{AllByRecursion}
use Rattle.pcode_model.specs.declared.listing.Varnode.{Varnode}
use Rattle.pcode_model.specs.declared.opcode.Opcode.TheVariants as O
use Rattle.pcode_operands.specs.Used.{IsUsed}
use Rattle.pcode_run.proofs.Obeying.{out_used, rest_is, rest_used}
use Rattle.pcode_run.proofs.calls.call_other.Goals as goal

pub read_all-requires-clause-used : goal.read_all-requires-clause-used
read_all-requires-clause-used c =
    let l = c.args.context.now.listing.now in
    let P : List Varnode → Type 0 = λ vs. AllByRecursion (IsUsed l) vs in
    subst P
    (sym (ap (λ (vs : List Varnode). take (length vs - 1) (drop 1 vs)) c.as_slice.ensures
    ∙ rest_is c.args.op.now.inputs))
    (rest_used l c.args.op.now O.CallOther c.requires.kind c.requires.obeys c.requires.context.formed.spaces)

pub ask-requires-clause-out : goal.ask-requires-clause-out
ask-requires-clause-out c =
    out_used c.args.context.now.listing.now c.args.op.now O.CallOther c.requires.kind c.requires.obeys
    c.requires.context.formed.spaces
