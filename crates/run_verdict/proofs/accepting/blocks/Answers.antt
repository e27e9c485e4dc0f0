use Rattle.std.proofs.Common.{List, sym, subst}
use Rattle.pcode_model.specs.declared.tables.TableAt.{TableAt}
use Rattle.pcode_model.specs.Flow.{IsFlow, NoFault}
use Rattle.flow.specs.Answer.{IsFlowFault}
use Rattle.refusals.specs.declared.refusal.Refusal.{Refusal}
use Rattle.refusals.proofs.Blocks.{few_starts}
use Rattle.run_verdict.specs.Runs.{StopsFlow}
use Rattle.run_verdict.proofs.Flow.{flow_stops}
use Rattle.run_verdict.proofs.accepting.blocks.Goals as goal

pub returns-in-Ok-clause-no_fault : goal.returns-in-Ok-clause-no_fault
returns-in-Ok-clause-no_fault c =
    let P : List TableAt → Type 0 = λ t. NoFault c.args.listing.now t in
    subst P c.new-tables.ensures c.in-Ok.ensures.no_fault

pub returns-in-Ok-clause-few : goal.returns-in-Ok-clause-few
returns-in-Ok-clause-few c =
    let P : List TableAt → Type 0 = λ t. IsFlow c.args.listing.now t c.in-Ok.flow in
    few_starts c.args.listing.now c.in-Ok.flow (subst P c.new-tables.ensures c.in-Ok.ensures.blocks)
    c.in-Ok.ensures.few

pub returns-clause-stops : goal.returns-clause-stops
returns-clause-stops c =
    let P : List TableAt → Type 0 = λ t. IsFlowFault c.args.listing.now t c.in-Err.fault in
    let R : Refusal → Type 0 = λ r. StopsFlow c.args.listing.now r in
    subst R (sym c.from.ensures) (flow_stops c.args.listing.now c.in-Err.fault
    (subst P c.new-tables.ensures c.in-Err.ensures.fault))
