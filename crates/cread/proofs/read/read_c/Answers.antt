use Rattle.std.proofs.Common.{sym, subst}
use Rattle.std.proofs.lemmas.Result.{err_from_is_err_and}
use Rattle.exact_c.specs.Tree.{IsTreeOf}
use Rattle.exact_c.proofs.Judged.{not_true}
use Rattle.cread.proofs.Whole.{not_failed, read_is}
use Rattle.cread.proofs.read.read_c.Goals as goal

pub returns-in_err-f-clause-only : goal.returns-in_err-f-clause-only
returns-in_err-f-clause-only c = λ f tree.
    let p = err_from_is_err_and c.from_residual.result c.from_residual.ensures.1 in
    let g = not_failed c.in_err-f.field-0.0 f c.args.bytes.now tree.valid tree.text (c.in_err-f.ensures {u = tt}) in
    rw (p.1, p.2) g

pub returns-then-not-stands-clause-only : goal.returns-then-not-stands-clause-only
returns-then-not-stands-clause-only c = λ f tree.
    let same = read_is f c.in_ok-f.f c.args.bytes.now tree.valid tree.text (c.in_ok-f.ensures {u = tt}) in
    let there = subst (IsTreeOf c.args.bytes.now) (sym same) tree in
    absurd (not_true c.in_ok-stands.stands c.if-not-stands.true ((c.in_ok-stands.ensures {u = tt}).1 there))

pub returns-clause-only : goal.returns-clause-only
returns-clause-only c = λ f tree.
    read_is f c.in_ok-f.f c.args.bytes.now tree.valid tree.text (c.in_ok-f.ensures {u = tt})
