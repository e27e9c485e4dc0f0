-- Worked runs.
use Rattle.std.specs.Prelude.{◌≡◌, ℕ, List, [], ◌∷◌, codes, None}
use Rattle.machine.specs.Trace.{Trace, BadTarget, NoReturn, Call, Store}
use Rattle.cmeaning.specs.Examples as small
use Rattle.ssa_model.specs.Run.{seen_ssa}
use Rattle.ssa_model.specs.declared.form.Parts.{Parts}
use Rattle.ssa_model.specs.Examples.{named, sum_loop, endless, all_lines}

-- what a function shows where its first argument is this word, after so many steps
abbrev shows : Parts → ℕ → ℕ → Trace
shows p argument n = seen_ssa (named (codes "f")) p (small.entry argument []) n

-- The loop gives 0 where its argument is 0. The endless loop shows nothing. The switch
-- leads to the call that doesn't return, after the store, or ends where no arm names the value.
pub record Runs : Type 0 where
  pub sum_of_none : shows sum_loop 0 7 ≡ small.gave 0
  pub endless : shows endless 0 50 ≡ record { events = []; over = None }
  pub stops : shows all_lines 0 3
      ≡ small.ended (Store 1 0 (0 ∷ 0 ∷ 0 ∷ 0 ∷ []) ∷ Call 0x2000 (0 ∷ []) ∷ []) NoReturn
  pub no_arm : shows all_lines 5 1 ≡ small.ended [] BadTarget
