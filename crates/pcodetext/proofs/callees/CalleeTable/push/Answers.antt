use Rattle.std.proofs.Common.{◌≡◌, ◌∙◌, ap, false}
use Rattle.std.specs.List.{list_any}
use Rattle.listing_lines.specs.Text.{Line}
use Rattle.pcodetext.specs.Tables.{has_name, place_in}
use Rattle.pcodetext.proofs.CalleeTable.{other_name}
use Rattle.pcodetext.proofs.callees.CalleeTable.push.Goals as goal

pub push-requires : goal.push-requires
push-requires c =
    let none : list_any (has_name c.args.callee.name) c.self.inside.callees ≡ false =
    ap (list_any (has_name c.args.callee.name)) c.self.view_is ∙ c.requires.other_name in
    ap (λ (name : Line). place_in name c.self.inside.names) c.as_slice.ensures
    ∙ ap (place_in c.args.callee.name) c.self.invariant
    ∙ other_name c.args.callee.name c.self.inside.callees none
