use Rattle.std.proofs.Common.{ℕ, List, rules, subst}
use Rattle.exact_c.specs.Tree.{IsTreeOf}
use Rattle.run_verdict.specs.Runs.{Runs}
use Rattle.side_by_side.specs.Judged.{IsEntryFault}
use Rattle.side_by_side.proofs.Faults.{entry_refused}
use Rattle.side_by_side.proofs.reading.parse.Goals as goal

pub returns-in_err-entry-clause-refused : goal.returns-in_err-entry-clause-refused
returns-in_err-entry-clause-refused c =
    let l = c.in_ok-listing.field-0.listing in
    let f = c.in_ok-function.function in
    let L : List ℕ → Type 0 = λ bytes. Runs bytes l in
    let T : List ℕ → Type 0 = λ bytes. IsTreeOf bytes f in
    let E : List ℕ → Type 0 = λ bytes. IsEntryFault l bytes c.in_err-entry.field-0.0 in
    let cause = entry_refused c.args.inputs.now l f
    (subst L c.as_slice.ensures c.in_ok-listing.ensures.runs)
    (subst T c.as_slice-2.ensures c.in_ok-function.ensures.tree)
    (c.fits.ensures.0 c.if-not-fits.false)
    c.in_err-entry.field-0.0
    (subst E c.as_slice-3.ensures c.in_err-entry.ensures.refused) in
    search (rules, cause)
