use Rattle.std.proofs.Common.{◌∙◌, ap}
use Rattle.std.specs.Prelude.{nat_eq}
use Rattle.std.specs.List.{list_any}
use Rattle.pcode_model.specs.Functions.{has_address}
use Rattle.pcode_model.proofs.CalleeTable.{addressed_is}
use Rattle.pcode_model.proofs.callees.Callees.has_address.Goals as goal

pub returns : goal.returns
returns c =
    c.contains.ensures
    ∙ ap (list_any (nat_eq c.args.address)) c.self.invariant
    ∙ addressed_is c.args.address c.self.inside.listed
    ∙ ap (list_any (has_address c.args.address)) c.self.view_is
