use Rattle.std.proofs.Common.{[], sym, subst}
use Rattle.refusals.specs.declared.refusal.Refusal.{Refusal}
use Rattle.refusals.proofs.Blocks.{few_starts}
use Rattle.frames.proofs.Near.{near_accesses}
use Rattle.pipeline.specs.Verdict.{Stops}
use Rattle.pipeline.proofs.Forms.{atoms_stops}
use Rattle.pipeline.proofs.verdict.variables.Goals as goal

pub atoms-requires-clause-near : goal.atoms-requires-clause-near
atoms-requires-clause-near c =
    near_accesses c.args.listing.now c.requires.formed c.requires.ops [] [] c.args.frame.now c.requires.frame

pub returns-in-Err-clause-stops : goal.returns-in-Err-clause-stops
returns-in-Err-clause-stops c =
    let l = c.args.listing.now in
    let R : Refusal → Type 0 = λ r. Stops l r in
    subst R (sym c.from.ensures)
    (atoms_stops l c.in-Err.fault c.requires.no_fault (few_starts l c.args.flow.now c.requires.flow c.requires.few)
    (c.args.frame.now, (c.requires.frame, c.in-Err.ensures.err)))
