use Rattle.std.proofs.Common.{sym, subst}
use Rattle.cmeaning.specs.declared.tree.CompareOp.TheVariants as C
use Rattle.cmeaning.specs.declared.tree.Expr.TheVariants as E
use Rattle.rules.specs.Letters.{Negated, Eq, Ne, Lt, Le}
use Rattle.negation.proofs.compare_negated.Goals as goal

pub returns-in-Eq : goal.returns-in-Eq
returns-in-Eq c =
    subst (λ op. Negated (E.Compare op c.args.a c.args.b) (E.Compare C.Ne c.args.a c.args.b)) (sym c.in-Eq.is)
    (Eq c.args.a c.args.b)

pub returns-in-Ne : goal.returns-in-Ne
returns-in-Ne c =
    subst (λ op. Negated (E.Compare op c.args.a c.args.b) (E.Compare C.Eq c.args.a c.args.b)) (sym c.in-Ne.is)
    (Ne c.args.a c.args.b)

pub returns-in-Lt : goal.returns-in-Lt
returns-in-Lt c =
    subst (λ op. Negated (E.Compare op c.args.a c.args.b) (E.Compare C.Le c.args.b c.args.a)) (sym c.in-Lt.is)
    (Lt c.args.a c.args.b)

pub returns-in-Le : goal.returns-in-Le
returns-in-Le c =
    subst (λ op. Negated (E.Compare op c.args.a c.args.b) (E.Compare C.Lt c.args.b c.args.a)) (sym c.in-Le.is)
    (Le c.args.a c.args.b)
