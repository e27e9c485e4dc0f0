-- Faults of the flow as refusals.
use Rattle.std.proofs.Common.{ℕ, List, []}
use Rattle.pcode_model.specs.declared.listing.Listing.{Listing}
use Rattle.flow.specs.Answer.{IsFlowFault}
use Rattle.flow.specs.declared.answer.FlowFault.{FlowFault}
use Rattle.flow.specs.declared.answer.FlowFault.TheVariants as F
use Rattle.refusals.specs.Refused.{of_flow}
use Rattle.refusals.specs.Good.{IsGood}
use Rattle.refusals.specs.declared.refusal.Refusal.{Refusal}
use Rattle.refusals.specs.declared.refusal.Refusal.TheVariants as R
use Rattle.run_verdict.specs.Runnable.{IsRunnable}
use Rattle.run_verdict.specs.Runs.{IsCause, StopsFlow}

pub flow_stops : (l : Listing) (fault : FlowFault) → IsFlowFault l [] fault → StopsFlow l (of_flow fault)
flow_stops l (F.NoTarget p) h = h
flow_stops l (F.FallsOff p) h = h
flow_stops l (F.BadRelative p) h = h
flow_stops l (F.NoTable p) h = h
flow_stops l (F.TableEntered p) h = h
flow_stops l (F.TooManyBlocks n) h = h
flow_stops l F.Memory h = tt

pub stops_refused : (bytes : List ℕ) (l : Listing)
    → IsGood bytes l
    → IsRunnable l
    → (fault : Refusal)
    → StopsFlow l fault
    → IsCause bytes fault
stops_refused bytes l good runnable (R.Text fault) h = absurd h
stops_refused bytes l good runnable (R.Op fault) h = absurd h
stops_refused bytes l good runnable R.NotBuilt h = absurd h
stops_refused bytes l good runnable (R.Flow (F.NoTarget p)) h = (l, (good, (runnable, h)))
stops_refused bytes l good runnable (R.Flow (F.FallsOff p)) h = (l, (good, (runnable, h)))
stops_refused bytes l good runnable (R.Flow (F.BadRelative p)) h = (l, (good, (runnable, h)))
stops_refused bytes l good runnable (R.Flow (F.NoTable p)) h = (l, (good, (runnable, h)))
stops_refused bytes l good runnable (R.Flow (F.TableEntered p)) h = (l, (good, (runnable, h)))
stops_refused bytes l good runnable (R.Flow (F.TooManyBlocks n)) h = (l, (good, (runnable, h)))
stops_refused bytes l good runnable (R.Flow F.Memory) h = absurd h
stops_refused bytes l good runnable (R.Atoms fault) h = absurd h
stops_refused bytes l good runnable R.Memory h = tt
