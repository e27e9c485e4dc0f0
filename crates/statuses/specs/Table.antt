-- The table of statuses of any program. `name` is the program's, `Why` says why it comes to an answer; out and err are told
-- before the call and after it. This project's own.
use Rattle.std.specs.Prelude.{◌≡◌, ◌⊎◌, ◌≤◌, ℕ, List}
use Rattle.outside.specs.Told.{Held}
use Rattle.outside.specs.Writing.{Wrote, WroteShort}
use Rattle.statuses.specs.Answer.{Answer, Shown, Refused, BadArguments, ReadFault, TooLong, status_of}
use Rattle.statuses.specs.Delivery.{bad_arguments, read_fault, too_long}
use Rattle.statuses.specs.Told.{Quiet}

module _ (name : List ℕ) (Why : Answer → Type 0) where
  -- the line that goes with a status, and why
  abbrev pub MayComplain : List ℕ → Type 0
  MayComplain line = Why (Refused line)
      ⊎ ((Why BadArguments × (line ≡ bad_arguments name)) ⊎
      ((Why ReadFault × (line ≡ read_fault name)) ⊎ (Why TooLong × (line ≡ too_long name))))

  -- Out's count rose, the row of status 0 holds but for that, out took a proper prefix of its text, and err is unchanged;
  -- or err's count rose, the row of status 1, 2, 3 or 6 holds but for that, err took a proper prefix of its line, and out
  -- is unchanged.
  abbrev pub CutShort : Held → Held → Held → Held → Type 0
  CutShort out out_new err err_new =
      (((text : List ℕ) × (Why (Shown text) × WroteShort out out_new text)) × (err_new ≡ err))
      ⊎ (((line : List ℕ) × (MayComplain line × WroteShort err err_new line)) × (out_new ≡ out))

  -- what each status says
  pub record Rows (out out_new err err_new : Held) (status : ℕ) : Type 0 where
    pub done : status ≡ 0 → ((text : List ℕ) × (Why (Shown text) × Wrote out out_new text)) × (err_new ≡ err)
    pub refused : status ≡ 1 → ((line : List ℕ) × (Why (Refused line) × Wrote err err_new line)) × (out_new ≡ out)
    pub arguments : status ≡ 2 → Why BadArguments × (Wrote err err_new (bad_arguments name) × (out_new ≡ out))
    pub read : status ≡ 3 → Why ReadFault × (Wrote err err_new (read_fault name) × (out_new ≡ out))
    pub write : status ≡ 4 → CutShort out out_new err err_new
    pub memory : status ≡ 5 → (out_new ≡ out) × (err_new ≡ err)
    pub long : status ≡ 6 → Why TooLong × (Wrote err err_new (too_long name) × (out_new ≡ out))
    pub range : status ≤ 6

-- the status of an answer that has a reason: 5 wherever memory may have run out
abbrev pub IsDue : (Answer → Type 0) → ℕ → Type 0
IsDue Why status = (a : Answer) × (Why a × (status ≡ status_of a))

-- The table: what each status says; and where no fault is counted and these facts are told of what lies outside, the status
-- is the one that is due by what must come of them.
pub record Table {F : Type 0} (name : List ℕ) (Why : Answer → Type 0) (Known : F → Type 0)
    (Must : F → Answer → Type 0) (out out_new err err_new : Held) (status : ℕ) : Type 0 where
  pub rows : Rows name Why out out_new err err_new status
  pub exact : (facts : F)
      → Known facts
      → Quiet out.faults out_new.faults
      → Quiet err.faults err_new.faults
      → IsDue (Must facts) status
