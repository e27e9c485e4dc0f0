use Rattle.std.proofs.Common.{◌∙◌, ap, subst, sym}
use Rattle.pcode_operands.specs.Used.{IsUsed}
use Rattle.pcode_model.specs.declared.listing.Varnode.{Varnode}
use Rattle.pcode_model.specs.Step.{size_out, varnode_at}
use Rattle.pcode_run.proofs.Obeying.{unary_fits, unary_input, unary_output}
use Rattle.pcode_run.proofs.Doing.{unary_sized, width_is}
use Rattle.pcode_run.proofs.values.do_unary.Goals as goal

pub read_varnode-requires-clause-used : goal.read_varnode-requires-clause-used
read_varnode-requires-clause-used c =
    let P : Varnode → Type 0 = λ v. IsUsed c.args.context.now.listing.now v in
    subst P (sym c.input.ensures)
    (unary_input c.args.context.now.listing.now c.args.op.now c.requires.obeys c.requires.context.formed.spaces
    c.args.code c.requires.kind).first

pub unary-word-requires : goal.unary-word-requires
unary-word-requires c =
    let q = c.args in
    let from =
    width_is c.in_ok-a.field-0 c.in-Some.a c.input.result.size c.in-Some.is ((c.in_ok-a.ensures {u = tt}).width)
    ∙ ap (λ (v : Varnode). v.size) c.input.ensures in
    unary_sized q.code c.in-Some.a.width.bytes c.width_out.result.bytes (varnode_at q.op.now.inputs 0).size
    (size_out q.op.now.out) from c.width_out.ensures
    (unary_fits q.context.now.listing.now q.op.now c.requires.obeys c.requires.context.formed.spaces q.code
    c.requires.kind)

pub put_value-requires-clause-out : goal.put_value-requires-clause-out
put_value-requires-clause-out c =
    (unary_output c.args.context.now.listing.now c.args.op.now c.requires.obeys c.requires.context.formed.spaces
    c.args.code c.requires.kind).used
