use Rattle.std.proofs.Common.{◌∙◌, ℕ, ap, ap₂, sym}
use Rattle.std.specs.Prelude.{nat_lt, List}
use Rattle.pcode_model.specs.declared.listing.Fixed.{Fixed}
use Rattle.pcodetext.specs.Tables.{stands_after}
use Rattle.pcodetext.proofs.Tops.{stands_after_is}
use Rattle.pcodetext.proofs.fixed.FixedTable.stands_after.Goals as goal

pub returns : goal.returns
returns c =
    ap₂ (λ (o next : ℕ). nat_lt o next) c.from.ensures (c.self.invariant.next c.args.space c.ranges.space.fits)
    ∙ sym (stands_after_is c.self.inside.fixed c.args.space c.args.offset)
    ∙ ap (λ (fixed : List Fixed). stands_after fixed c.args.space c.args.offset) c.self.view_is
