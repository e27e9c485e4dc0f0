use Rattle.std.proofs.Common.{◌∙◌, ◌≡◌, ℕ, ap, ap₂, sym}
use Rattle.std.specs.Prelude.{nat_lt, List, false}
use Rattle.pcode_model.specs.declared.listing.Fixed.{Fixed}
use Rattle.pcodetext.specs.Tables.{overlaps, stands_after}
use Rattle.pcodetext.proofs.Tops.{overlaps_is}
use Rattle.pcodetext.proofs.fixed.FixedTable.overlaps.Goals as goal

pub returns : goal.returns
returns c =
    let free : stands_after c.self.inside.fixed c.args.space c.args.offset ≡ false =
    ap (λ (fixed : List Fixed). stands_after fixed c.args.space c.args.offset) c.self.view_is ∙ c.requires in
    ap₂ (λ (o end : ℕ). nat_lt o end) c.from.ensures (c.self.invariant.end c.args.space c.ranges.space.fits)
    ∙ sym (overlaps_is c.self.inside.fixed c.args.space c.args.offset c.args.size free)
    ∙ ap (λ (fixed : List Fixed). overlaps fixed c.args.space c.args.offset c.args.size) c.self.view_is
