use Rattle.std.proofs.Common.{rules}
use Rattle.supported.specs.Supported.{HasBuiltOps}
use Rattle.refusals.specs.Good.{IsGood}
use Rattle.pipeline.specs.Verdict.{IsCause}
use Rattle.pipeline.proofs.Forms.{accepts, stops_refused}
use Rattle.pipeline.proofs.verdict.accept.Goals as goal

pub check_ops-requires : goal.check_ops-requires
check_ops-requires c = c.in_ok-listing.ensures.formed.few

pub returns-clause-accepted : goal.returns-clause-accepted
returns-clause-accepted c =
    let l = c.in_ok-listing.listing in
    let good : IsGood c.args.bytes.now l =
    record { read = c.in_ok-listing.ensures.good; ops = c.in_ok-check_ops.ensures.ok } in
    let built : HasBuiltOps l = c.is_supported.ensures.0 c.if-not-is_supported.false in
    accepts c.args.bytes.now l good built c.in_ok-flow.flow c.in_ok-flow.ensures.blocks c.in_ok-flow.ensures.no_fault
    c.in_ok-flow.ensures.few c.in_ok-frame.frame c.in_ok-frame.ensures.frame c.in_ok-atoms.atoms
    c.in_ok-atoms.ensures.atoms c.in_ok-atoms.ensures.few

pub returns-in_err-atoms-clause-refused : goal.returns-in_err-atoms-clause-refused
returns-in_err-atoms-clause-refused c =
    let l = c.in_ok-listing.listing in
    let bytes = c.args.bytes.now in
    let good : IsGood bytes l = record { read = c.in_ok-listing.ensures.good; ops = c.in_ok-check_ops.ensures.ok } in
    let built : HasBuiltOps l = c.is_supported.ensures.0 c.if-not-is_supported.false in
    let cause = stops_refused bytes l good built _ c.in_err-atoms.ensures.stops in
    search (rules, cause)
