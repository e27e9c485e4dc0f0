use Rattle.std.proofs.Common.{◌*◌, ◌%◌, ◌^◌, ◌<◌, nat_lt, ap, ◌∙◌, arith}
use Rattle.cmeaning.proofs.Distinct.{narrow_limit}
use Rattle.cmeaning.proofs.cases.fits.Goals as goal

pub returns : goal.returns
returns c =
    let narrow : c.args.width < 16 = grind (arith, c.if-width-ge16.false) in
    ap (λ w. nat_lt c.args.x (1 * 2 ^ (8 * w) % 2 ^ 128)) c.from.ensures
    ∙ ap (nat_lt c.args.x) (narrow_limit c.args.width narrow)
