-- When a call of the outside may fail: where a fault was counted in it. This project's own.
use Rattle.std.specs.Prelude.{◌≡◌, ℕ, ◌+◌, ◌-◌, ◌^◌, ◌≤◌, if◌then◌else◌, is_err, min, OnErr, OnOk, Result}

-- the count after one more: it goes up by one, and stays at 2^64 - 1 once it is there
abbrev pub one_more : ℕ → ℕ
one_more count = min (count + 1) (2 ^ 64 - 1)

-- at least one fault was counted, or the count stood at its end
abbrev pub Rose : ℕ → ℕ → Type 0
Rose before now = one_more before ≤ now

-- each failure is a fault that was counted, and no fault is passed over
pub record HasCause {T E : Type 0} (before now : ℕ) (result : Result T E) : Type 0 where
  pub later : before ≤ now
  pub most : now ≤ 2 ^ 64 - 1
  pub failed : OnErr result (Rose before now)
  pub kept : OnOk result (now ≡ before)

-- the count after a call: one more where it failed
abbrev pub count_after : {T E : Type 0} → ℕ → Result T E → ℕ
count_after count result = if is_err result then one_more count else count
