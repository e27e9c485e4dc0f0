-- The calls of an object in memory, of which some are to fail. This project's own.
use Rattle.std.specs.Prelude.{ℕ, ◌^◌, ◌==◌, ◌&&◌, Bool, List, if◌then◌else◌, nat_lt}
use Rattle.std.specs.List.{list_any}
use Rattle.outside.specs.Causes.{one_more}

pub record CallsView : Type 0 where
  -- the numbers of the calls that are to fail, counted from 0
  pub fails : List ℕ
  -- the calls that were made, which is the next call's number
  pub made : ℕ
  pub faults : ℕ

-- the next call is to fail: its number is listed, and no number past 2^32 - 1 is
abbrev pub is_due : CallsView → Bool
is_due calls = nat_lt calls.made (2 ^ 32) && list_any (λ n. n == calls.made) calls.fails

-- the calls after one more, in which a fault was counted or none
abbrev pub after_call : CallsView → Bool → CallsView
after_call calls fault = record { fails = calls.fails; made = one_more calls.made; faults = if fault then one_more calls.faults else calls.faults }
