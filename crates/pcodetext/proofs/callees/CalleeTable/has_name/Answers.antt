use Rattle.std.proofs.Common.{◌∙◌, List, ap}
use Rattle.std.specs.List.{list_any}
use Rattle.std.specs.Option.{is_some}
use Rattle.listing_lines.specs.Text.{Line}
use Rattle.pcodetext.specs.Tables.{has_name, place_in}
use Rattle.pcodetext.proofs.CalleeTable.{named_is}
use Rattle.pcodetext.proofs.callees.CalleeTable.has_name.Goals as goal

pub returns : goal.returns
returns c =
    c.is_some.ensures
    ∙ ap is_some c.number.ensures.place
    ∙ ap (λ (names : List Line). is_some (place_in c.args.name.now names)) c.self.invariant
    ∙ named_is c.args.name.now c.self.inside.callees ∙ ap (list_any (has_name c.args.name.now)) c.self.view_is
