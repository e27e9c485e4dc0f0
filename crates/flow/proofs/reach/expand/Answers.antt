use Rattle.std.proofs.Common.{subst, sym}
use Rattle.std.proofs.lemmas.Result.{on_ok_weaker}
use Rattle.flow.specs.declared.edges.Leaving.{Leaving}
use Rattle.flow.specs.Edges.{targets_of}
use Rattle.flow.specs.Steps.{Expanded}
use Rattle.flow.proofs.Rounds.{expanded_both}
use Rattle.flow.proofs.reach.expand.Goals as goal

pub returns-in_ok-note_target-in-Two : goal.returns-in_ok-note_target-in-Two
returns-in_ok-note_target-in-Two c =
    let Q : Leaving → Type 0 =
    λ e. Expanded c.args.reached.now.items c.args.work.now.items (targets_of e)
    c.note_target-in-Two-2.new.reached.items c.note_target-in-Two-2.new.work.items in
    on_ok_weaker c.note_target-in-Two-2.result
    (λ h. subst Q (sym c.in-Two.is) (expanded_both _ _ _ _ _ _ _ _ (c.in_ok-note_target-in-Two.ensures {u = tt}) h))
    c.note_target-in-Two-2.ensures
