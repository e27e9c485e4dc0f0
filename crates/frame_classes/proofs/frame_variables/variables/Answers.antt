use Rattle.std.proofs.Common.{◌≡◌, ◌∙◌, [], List, ap, rules, subst, sym}
use Rattle.std.specs.Prelude.{ℤ}
use Rattle.std.proofs.lemmas.Int.{to_z-of_z}
use mir.Syntax.{w64}
use mir.Val.{SFits}
use Rattle.std.specs.List.{AllByRecursion}
use Rattle.pcode_model.specs.declared.frame.FrameAccess.{FrameAccess}
use Rattle.pcode_model.specs.declared.frame.FrameVariable.{FrameVariable}
use Rattle.frame_facts.specs.Accesses.{IsFrameVariable, IsVariableAccess}
use Rattle.frame_facts.specs.Listed.{IsAccessBefore, IsVariableBefore, Lists}
use Rattle.frame_classes.specs.declared.runs.Run.{Run}
use Rattle.frame_classes.specs.FrameVariables.{Fits, before, limit, variables_of}
use Rattle.frame_classes.proofs.Whole.{accesses_listed, all_fit, variables_listed}
use Rattle.frame_classes.proofs.frame_variables.variables.Goals as goal

pub variables_of-requires : goal.variables_of-requires
variables_of-requires c =
    subst (λ (rs : List Run). AllByRecursion Fits rs) (sym c.deref.ensures.value)
    (all_fit c.args.accesses.now c.requires.near c.in_ok-runs.runs.items c.in_ok-runs.ensures)

pub returns-clause-accesses : goal.returns-clause-accesses
returns-clause-accesses c =
    let l = c.args._listing.now in
    let runs : List Run = c.in_ok-runs.runs.items in
    let same : c.limit-limit.result ≡ limit c.args.escapes.now runs =
    c.limit-limit.ensures ∙ ap (λ (rs : List Run). limit c.args.escapes.now rs) c.deref-2.ensures.value in
    let fits : SFits w64 c.limit-limit.result = search rules in
    let back = to_z-of_z w64 c.limit-limit.result fits in
    let found : c.from_vec.result ≡ before (limit c.args.escapes.now runs) c.args.accesses.now =
    c.from_vec.ensures ∙ (c.in_ok-found.ensures ∙ ap (λ (n : ℤ). before n c.args.accesses.now) (back ∙ same)) in
    subst (λ (xs : List FrameAccess). Lists (IsVariableAccess l [] []) IsAccessBefore xs) (sym found)
    (accesses_listed l [] [] c.args.accesses.now c.requires.accesses c.requires.some c.requires.near runs
    c.in_ok-runs.ensures c.args.escapes.now c.requires.escapes)

pub returns-clause-variables : goal.returns-clause-variables
returns-clause-variables c =
    let l = c.args._listing.now in
    let runs : List Run = c.in_ok-runs.runs.items in
    let found : c.from_vec-2.result ≡ variables_of c.args.escapes.now runs =
    c.from_vec-2.ensures
    ∙ (c.in_ok-variables.ensures ∙ ap (λ (rs : List Run). variables_of c.args.escapes.now rs) c.deref.ensures.value) in
    subst (λ (vs : List FrameVariable). Lists (IsFrameVariable l [] []) IsVariableBefore vs) (sym found)
    (variables_listed l [] [] c.args.accesses.now c.requires.accesses c.requires.some c.requires.near runs
    c.in_ok-runs.ensures c.args.escapes.now c.requires.escapes)
