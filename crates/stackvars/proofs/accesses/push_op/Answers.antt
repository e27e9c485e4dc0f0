use Rattle.std.proofs.Common.{◌∙◌, ◌++◌, List, ap, None}
use Rattle.std.proofs.lemmas.Result.{on_ok_weaker}
use Rattle.pcode_model.specs.declared.atoms.Atom.{Atom}
use Rattle.pcode_model.specs.Atoms.{further_ranges, one_range}
use Rattle.stackvars.specs.Collected.{atoms_of}
use Rattle.stackvars.proofs.Passed.{parts_pushed}
use Rattle.stackvars.proofs.accesses.push_op.Goals as goal

pub returns : goal.returns
returns c =
    on_ok_weaker c.push_further.result
    (λ e. e
    ∙ (ap
    (λ (xs : List Atom). xs
    ++ atoms_of c.args.listing.now
    (further_ranges c.args.listing.now None c.args.op.now.code c.args.op.now.inputs))
    c.in_ok-push_optional.ensures
    ∙ (ap
    (λ (xs : List Atom). (xs ++ atoms_of c.args.listing.now (one_range c.args.op.now.out))
    ++ atoms_of c.args.listing.now
    (further_ranges c.args.listing.now None c.args.op.now.code c.args.op.now.inputs))
    c.in_ok-push_operands.ensures
    ∙ parts_pushed c.args.listing.now c.args.op.now c.args.out.now.items)))
    c.push_further.ensures
