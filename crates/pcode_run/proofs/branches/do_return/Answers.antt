use Rattle.std.proofs.Common.{refl, subst, sym}
use Rattle.std.specs.Prelude.{IfSome}
use Rattle.pcode_model.specs.declared.listing.Proto.{Proto}
use Rattle.pcode_model.specs.declared.listing.Varnode.{Varnode}
use Rattle.pcode_model.specs.declared.opcode.Opcode.TheVariants as O
use Rattle.pcode_operands.specs.Used.{IsLocal, IsUsed}
use Rattle.pcode_run.proofs.Obeying.{only_input}
use Rattle.pcode_run.proofs.Protos.{own_runs}
use Rattle.pcode_run.proofs.branches.do_return.Goals as goal

pub read_varnode-requires-clause-used : goal.read_varnode-requires-clause-used
read_varnode-requires-clause-used c =
    let P : Varnode → Type 0 = λ v. IsUsed c.args.context.now.listing.now v in
    subst P (sym c.input.ensures)
    (only_input c.args.context.now.listing.now c.args.op.now c.requires.obeys c.requires.context.formed.spaces
    O.Return c.requires.kind refl refl).first

pub own_proto-requires : goal.own_proto-requires
own_proto-requires c = c.requires.context.formed.func.proto

pub word_given-requires : goal.word_given-requires
word_given-requires c =
    let P : Proto → Type 0 = λ p. IfSome p.gives (IsLocal c.args.context.now.listing.now) in
    subst P (sym c.own_proto.ensures) (own_runs c.args.context.now.listing.now c.requires.context.formed).gives
