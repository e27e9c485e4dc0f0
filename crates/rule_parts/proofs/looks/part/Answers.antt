use Rattle.std.proofs.Common.{rules}
use Rattle.rule_views.specs.Sees.{NoSingle}
use Rattle.rule_parts.specs.Pieces.{NoPart}
use Rattle.rule_parts.proofs.Pieces.{no_single_part}
use Rattle.rule_parts.proofs.looks.part.Goals as goal

pub returns-in_err-node : goal.returns-in_err-node
returns-in_err-node g c =
    let none : NoSingle g.V.View.Sees c.args.at = search rules in
    let no_part : NoPart g.V.View.Sees c.args.at = no_single_part g.V.View.Sees c.args.at none in
    search rules
