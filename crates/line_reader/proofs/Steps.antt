-- The first faulty line of a text is the one that counts.
use Rattle.std.proofs.Common.{◌≡◌, ◌∙◌, ℕ, List, [], ◌∷◌, ap, refl}
use Rattle.std.specs.Prelude.{Err}
use Rattle.listing_lines.specs.Text.{Line}
use Rattle.line_reader.specs.declared.fault.LineFault.{LineFault}
use Rattle.line_reader.specs.declared.fault.LineFault.TheVariants.{Fault, Memory}
use Rattle.line_reader.specs.Answer.{Does, StopsAt}
use Rattle.line_reader.specs.Reading.{Progress, Step, advanced, moved}
use Rattle.line_reader.specs.Reading.Progress.{Going, Stopped}

module _ {State Why : Type 0} (step : State → Line → Step State Why) where
  -- no line changes anything once one has failed
  pub stays : (n : ℕ) (why : Why) (lines : List Line) → advanced step (Stopped n why) lines ≡ Stopped n why
  stays n why [] = refl
  stays n why (line ∷ lines) = stays n why lines

  -- where a line fails, the text does
  pub fails_here : (whole : Progress State Why) (all lines : List Line) (n : ℕ) (s new : State) (line : Line)
      (fault : LineFault Why)
      → whole ≡ advanced step (Going n s) all
      → all ≡ line ∷ lines
      → Does {T = Unit {0}} (step s line) new (Err fault)
      → StopsAt whole n fault
  fails_here whole all lines n s new line (Fault why) is cut e =
      is ∙ ap (λ (ls : List Line). advanced step (Going n s) ls) cut
      ∙ ap (λ (st : Step State Why). advanced step (moved n st) lines) e
      ∙ stays n why lines
  fails_here whole all lines n s new line Memory is cut e = tt
