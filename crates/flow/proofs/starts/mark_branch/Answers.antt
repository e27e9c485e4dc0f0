use Rattle.std.proofs.Common.{sym, ◌∙◌, ap}
use Rattle.pcode_model.specs.Flow.{is_branch}
use Rattle.flow.proofs.Marking.{branch_marked}
use Rattle.flow.proofs.starts.mark_branch.Goals as goal

pub returns-then-is_branch : goal.returns-then-is_branch
returns-then-is_branch c =
    branch_marked c.args.listing.now c.args.places.now c.args.place c.edges_from.result c.args.begins.now.items
    c.mark.new.begins.items c.requires.places.rising
    (ap is_branch (sym c.turn.ensures) ∙ (sym c.is_branch.ensures ∙ c.if-is_branch.true)) c.edges_from.ensures
    c.mark.ensures
