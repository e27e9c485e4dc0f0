-- The whole table.
use Rattle.std.proofs.Common.{◌≡◌, ℕ, List, inl, inr}
use Rattle.outside.specs.Told.{Held}
use Rattle.statuses.specs.Answer.{Answer, Shown, Refused, BadArguments, ReadFault, TooLong, Memory, status_of}
use Rattle.statuses.specs.Delivery.{Delivers, Writes}
use Rattle.statuses.specs.Table.{Table}
use Rattle.statuses.specs.Told.{Quiet}
use Rattle.statuses.proofs.Rows.{rows}
use Rattle.statuses.proofs.Told.{no_fault}

written : (told : ℕ) (text : List ℕ) (old new : Held) (status : ℕ)
    → Quiet old.faults new.faults
    → Writes told text old new status
    → status ≡ told
written told text old new status quiet (inl w) = w.0
written told text old new status quiet (inr w) = no_fault old.faults new.faults quiet w.1.0

module _ (name : List ℕ) (out out_new err err_new : Held) where
  -- where neither sink failed, the status is the answer's own
  status_is : Quiet out.faults out_new.faults
      → Quiet err.faults err_new.faults
      → (a : Answer) (status : ℕ)
      → Delivers name a out out_new err err_new status
      → status ≡ status_of a
  status_is quiet_out quiet_err (Shown text) status d = written _ _ _ _ status quiet_out d.0
  status_is quiet_out quiet_err (Refused line) status d = written _ _ _ _ status quiet_err d.0
  status_is quiet_out quiet_err BadArguments status d = written _ _ _ _ status quiet_err d.0
  status_is quiet_out quiet_err ReadFault status d = written _ _ _ _ status quiet_err d.0
  status_is quiet_out quiet_err TooLong status d = written _ _ _ _ status quiet_err d.0
  status_is quiet_out quiet_err Memory status d = d.0

  -- The table of a call that came to an answer and delivered it, where that answer is one that must come of the facts.
  pub table : {F : Type 0} (Why : Answer → Type 0) (Known : F → Type 0) (Must : F → Answer → Type 0)
      → ((facts : F) → Known facts → (a : Answer) → Why a → Must facts a)
      → (a : Answer) (status : ℕ) → Why a → Delivers name a out out_new err err_new status → Table name Why Known Must
      out out_new err err_new status
  table Why Known Must comes a status why told = record {
    rows = rows name Why out out_new err err_new a status why told;
    exact = λ facts known quiet_out quiet_err.
        (a, (comes facts known a why, status_is quiet_out quiet_err a status told));
  }
