use Rattle.std.proofs.Common.{◌≡◌, ◌∷◌, List, subst, sym}
use Rattle.std.specs.List.{AllByRecursion}
use Rattle.std.proofs.lemmas.Result.{IfOk-weaker}
use Rattle.pcode_model.specs.declared.frame.FrameAccess.{FrameAccess}
use Rattle.stackvars.specs.Near.{IsNearAccess}
use Rattle.frame_classes.specs.declared.runs.Run.{Run}
use Rattle.frame_classes.specs.Runs.{AreRuns, HasBytes, IsSorted, run_of, swept}
use Rattle.frame_classes.proofs.Swept.{runs_from}
use Rattle.frame_classes.proofs.runs.sorted_runs.Goals as goal

pub returns-in-Some : goal.returns-in-Some
returns-in-Some c =
    let a : FrameAccess = c.in-Some.first.now in
    let rest : List FrameAccess = c.in-Some.rest.now in
    let e : c.args.accesses.now ≡ a ∷ rest = c.in-Some.ensures.cases.0 in
    let are : AreRuns (a ∷ rest) (swept (run_of a) rest) =
    runs_from a rest (subst (λ xs. AllByRecursion IsNearAccess xs) e c.requires.near)
    (subst (λ xs. AllByRecursion HasBytes xs) e c.requires.some)
    (subst (λ (xs : List FrameAccess). IsSorted xs) e c.requires.sorted) in
    let whole : AreRuns c.args.accesses.now (swept c.run_of.result rest) =
    subst (λ (r : Run). AreRuns c.args.accesses.now (swept r rest)) (sym c.run_of.ensures)
    (subst (λ (xs : List FrameAccess). AreRuns xs (swept (run_of a) rest)) (sym e) are) in
    IfOk-weaker c.sweep.result _ _
    (λ runs f. subst (λ (rs : List Run). AreRuns c.args.accesses.now rs) (sym f) whole)
    c.sweep.ensures
