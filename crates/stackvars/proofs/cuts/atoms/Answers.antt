use Rattle.std.proofs.Common.{rules, arith}
use Rattle.stackvars.proofs.Found.{is_cause}
use Rattle.stackvars.proofs.cuts.atoms.Goals as goal

pub returns-then-len-gt-MAX_ATOMS-clause-err : goal.returns-then-len-gt-MAX_ATOMS-clause-err
returns-then-len-gt-MAX_ATOMS-clause-err c =
    is_cause c.args.listing.now c.args.frame.now c.in_ok-atoms.atoms.items c.len-then-len-gt-MAX_ATOMS.result c.too_many.result
    c.in_ok-atoms.ensures (search rules) (omega arith) c.too_many.ensures
