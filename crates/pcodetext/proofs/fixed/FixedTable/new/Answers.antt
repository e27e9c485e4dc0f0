use Rattle.std.proofs.Common.{sym, subst}
use Rattle.std.specs.Prelude.{List, replicate}
use Rattle.pcode_model.specs.declared.listing.Fixed.{Fixed}
use Rattle.pcodetext.specs.Tables.{HasTops}
use Rattle.pcodetext.proofs.Tops.{no_tops}
use Rattle.pcodetext.proofs.fixed.FixedTable.new.Goals as goal

pub invariant_of-result : goal.invariant_of-result
invariant_of-result c =
    subst (λ (fixed : List Fixed). HasTops (replicate 256 0) (replicate 256 0) fixed) (sym c.new.ensures) no_tops
