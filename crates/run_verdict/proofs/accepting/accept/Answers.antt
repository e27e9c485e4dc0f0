use Rattle.std.proofs.Common.{rules}
use Rattle.refusals.specs.Good.{IsGood}
use Rattle.run_verdict.specs.Runnable.{IsRunnable}
use Rattle.run_verdict.proofs.Flow.{stops_refused}
use Rattle.run_verdict.proofs.accepting.accept.Goals as goal

pub check_ops-requires : goal.check_ops-requires
check_ops-requires c = c.in_ok-listing.ensures.formed.few

pub returns-clause-runs : goal.returns-clause-runs
returns-clause-runs c =
    let l = c.in_ok-listing.listing in
    let good : IsGood c.args.bytes.now l =
    record { read = c.in_ok-listing.ensures.good; ops = c.in_ok-check_ops.ensures.ok } in
    record {
      good = good;
      runnable = c.is_runnable.ensures.0 c.if-not-is_runnable.false;
      flow = c.in_ok-flow.ensures.no_fault;
      blocks = c.in_ok-flow.ensures.few;
    }

pub returns-in_err-flow-clause-refused : goal.returns-in_err-flow-clause-refused
returns-in_err-flow-clause-refused c =
    let l = c.in_ok-listing.listing in
    let bytes = c.args.bytes.now in
    let good : IsGood bytes l = record { read = c.in_ok-listing.ensures.good; ops = c.in_ok-check_ops.ensures.ok } in
    let runnable : IsRunnable l = c.is_runnable.ensures.0 c.if-not-is_runnable.false in
    let cause = stops_refused bytes l good runnable _ c.in_err-flow.ensures.stops in
    search (rules, cause)
