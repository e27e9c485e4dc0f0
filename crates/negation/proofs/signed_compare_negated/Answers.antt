use Rattle.std.proofs.Common.{sym, subst}
use Rattle.cmeaning.specs.declared.tree.SignedCompareOp.TheVariants as S
use Rattle.cmeaning.specs.declared.tree.Expr.TheVariants as E
use Rattle.rules.specs.Letters.{Negated, SLt, SLe}
use Rattle.negation.proofs.signed_compare_negated.Goals as goal

pub returns-in-SLt : goal.returns-in-SLt
returns-in-SLt c =
    subst (λ op. Negated (E.SignedCompare op c.args.a c.args.b) (E.SignedCompare S.SLe c.args.b c.args.a))
    (sym c.in-SLt.is) (SLt c.args.a c.args.b)

pub returns-in-SLe : goal.returns-in-SLe
returns-in-SLe c =
    subst (λ op. Negated (E.SignedCompare op c.args.a c.args.b) (E.SignedCompare S.SLt c.args.b c.args.a))
    (sym c.in-SLe.is) (SLe c.args.a c.args.b)
