use Rattle.std.proofs.Common.{◌<◌, arith, subst, sym}
use Rattle.std.specs.Prelude.{vec_len}
use Rattle.std.proofs.lemmas.Result.{on_ok_weaker}
use Rattle.flow.specs.declared.edges.Edge.{Edge}
use Rattle.flow.specs.Edges.{edge_targets, EdgeInside}
use Rattle.flow.specs.Steps.{Expanded}
use Rattle.flow.proofs.Rounds.{expanded_one}
use Rattle.flow.proofs.reach.note_target.Goals as goal

pub returns-in-To : goal.returns-in-To
returns-in-To c =
    let P : Edge → Type 0 = λ e. EdgeInside (vec_len c.args.reached.now) e in
    let Q : Edge → Type 0 =
    λ e. Expanded c.args.reached.now.items c.args.work.now.items (edge_targets e) c.note.new.reached.items
    c.note.new.work.items in
    let lt : c.in-To.slot < vec_len c.args.reached.now = subst P c.in-To.is c.requires in
    on_ok_weaker c.note.result
    (λ h. subst Q (sym c.in-To.is)
    (expanded_one c.args.reached.now.items c.args.work.now.items c.in-To.slot c.note.new.reached.items
    c.note.new.work.items (omega (arith, lt, c.args.reached.now.ok.0)) h))
    c.note.ensures
