use Rattle.std.proofs.Common.{refl, subst, sym}
use Rattle.pcode_model.specs.declared.listing.Varnode.{Varnode}
use Rattle.pcode_model.specs.declared.opcode.Opcode.TheVariants as O
use Rattle.pcode_operands.specs.Used.{IsUsed}
use Rattle.pcode_run.proofs.Obeying.{only_input}
use Rattle.pcode_run.proofs.branches.branch_ind.Goals as goal

pub read_varnode-requires-clause-used : goal.read_varnode-requires-clause-used
read_varnode-requires-clause-used c =
    let P : Varnode → Type 0 = λ v. IsUsed c.args.context.now.listing.now v in
    subst P (sym c.input.ensures)
    (only_input c.args.context.now.listing.now c.args.op.now c.requires.obeys c.requires.context.formed.spaces
    O.BranchInd c.requires.kind refl refl).first
