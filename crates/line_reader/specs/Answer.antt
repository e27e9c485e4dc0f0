-- What the calls that read lines answer.
use Rattle.std.specs.Prelude.{◌≡◌, ℕ, Result, Ok, Err, ⊤}
use Rattle.line_reader.specs.declared.fault.LineFault.{LineFault}
use Rattle.line_reader.specs.declared.fault.LineFault.TheVariants.{Fault, Memory}
use Rattle.line_reader.specs.declared.fault.Stop.{Stop}
use Rattle.line_reader.specs.Reading.{Progress, Step}
use Rattle.line_reader.specs.Reading.Progress.{Stopped}
use Rattle.line_reader.specs.Reading.Step.{Fails, Goes}

module _ {State Why : Type 0} where
  -- the call did what the step says, or memory ran out
  abbrev pub Does : {T : Type 0} → Step State Why → State → Result T (LineFault Why) → Type 0
  Does step new (Ok done) = step ≡ Goes new
  Does step new (Err (Fault why)) = step ≡ Fails why
  Does step new (Err Memory) = ⊤

  abbrev pub StopsAt : Progress State Why → ℕ → LineFault Why → Type 0
  StopsAt progress n (Fault why) = progress ≡ Stopped n why
  StopsAt progress n Memory = ⊤

  -- the text stops at that line by that fault, or memory ran out
  abbrev pub IsStopOf : Progress State Why → Stop Why → Type 0
  IsStopOf progress stop = StopsAt progress stop.line stop.fault
