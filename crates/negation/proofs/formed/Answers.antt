use Rattle.std.proofs.Common.{sym, subst}
use Rattle.rules.specs.Letters.{Negated}
use Rattle.negation.specs.Negation.{OfComparison}
use Rattle.negation.proofs.Negates.{no_comparison, other_negated}
use Rattle.negation.proofs.formed.Goals as goal

pub returns-in-Compare : goal.returns-in-Compare
returns-in-Compare c =
    OfComparison c.args.condition c.compare_negated.result
    (subst (λ e. Negated e c.compare_negated.result) (sym c.in-Compare.is) c.compare_negated.ensures)

pub returns-in-SignedCompare : goal.returns-in-SignedCompare
returns-in-SignedCompare c =
    OfComparison c.args.condition c.signed_compare_negated.result
    (subst (λ e. Negated e c.signed_compare_negated.result) (sym c.in-SignedCompare.is)
    c.signed_compare_negated.ensures)

pub returns-in_default : goal.returns-in_default
returns-in_default c = other_negated c.args.width.bytes c.args.condition c.is_zero.result
    (no_comparison c.args.condition c.in_default.not-Compare c.in_default.not-SignedCompare) c.is_zero.ensures
