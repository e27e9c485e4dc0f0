-- Which inputs are listings that are run, and why the others are refused. This project's own.
-- The order of refusals: faults of the text, faults of ops, a BRANCHIND, faults of the flow, too many blocks. How many
-- ranges a listing accesses isn't asked, as a run keeps bytes.
use Rattle.std.specs.Prelude.{◌≡◌, [], Some, ⊤}
use Rattle.pcode_model.specs.declared.listing.Listing.{Listing}
use Rattle.pcode_model.specs.Flow.{NoFault}
use Rattle.pcode_model.specs.Rules.{first_bad}
use Rattle.pcodetext.specs.Meaning.{Good, Bad, reading}
use Rattle.flow.specs.Answer.{IsFlowFault}
use Rattle.flow.specs.declared.answer.FlowFault.TheVariants as flow
use Rattle.refusals.specs.Good.{Bytes, HasFewBlocks, IsGood, RefusedBy}
use Rattle.refusals.specs.declared.refusal.Refusal.{Refusal}
use Rattle.refusals.specs.declared.refusal.Refusal.TheVariants as refusal
use Rattle.run_verdict.specs.Runnable.{IsRunnable}

-- the input is a listing that is run, no place of its flow has a fault, and there are not too many blocks
pub record Runs (bytes : Bytes) (l : Listing) : Type 0 where
  pub good : IsGood bytes l
  pub runnable : IsRunnable l
  pub flow : NoFault l []
  pub blocks : HasFewBlocks l

-- why the flow of a listing is refused, unless memory ran out
abbrev pub StopsFlow : Listing → Refusal → Type 0
StopsFlow l (refusal.Flow flow.Memory) = ⊥
StopsFlow l (refusal.Flow fault) = IsFlowFault l [] fault
StopsFlow l refusal.Memory = ⊤
StopsFlow l _ = ⊥

-- this is the first fault of the input
abbrev pub IsRefused : Bytes → Refusal → Type 0
IsRefused bytes (refusal.Text fault) = reading bytes ≡ Bad fault
IsRefused bytes (refusal.Op fault) = (l : Listing) × ((reading bytes ≡ Good l) × (first_bad l ≡ Some fault))
IsRefused bytes refusal.NotBuilt = RefusedBy bytes (λ l. IsRunnable l → ⊥)
IsRefused bytes (refusal.Flow flow.Memory) = ⊥
IsRefused bytes (refusal.Flow fault) = RefusedBy bytes (λ l. IsRunnable l × IsFlowFault l [] fault)
IsRefused bytes (refusal.Atoms fault) = ⊥
IsRefused bytes refusal.Memory = ⊥

-- a refusal of the input, unless memory ran out
abbrev pub IsCause : Bytes → Refusal → Type 0
IsCause bytes refusal.Memory = ⊤
IsCause bytes fault = IsRefused bytes fault
