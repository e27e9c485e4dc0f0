-- What each line keeps holds of the state at the end of a text, and so of what the text says.
use Rattle.std.proofs.Common.{◌≡◌, ℕ, ◌+◌, List, [], ◌∷◌, refl, subst, sym}
use Rattle.listing_lines.specs.Text.{Line, lines_of}
use Rattle.line_reader.specs.Reading.{Progress, Read, Step, advanced, concluded, moved, progress}
use Rattle.line_reader.specs.Reading.Progress.{Going, Stopped}
use Rattle.line_reader.specs.Reading.Read.{Bad, Good}
use Rattle.line_reader.specs.Reading.Step.{Fails, Goes}
use Rattle.line_reader.proofs.Steps.{stays}

module _ {Value Fault : Type 0} where
  pub good_same : (v w : Value) → ◌≡◌ {A = Read Value Fault} (Good v) (Good w) → v ≡ w
  good_same v w e = cc

  pub bad_not : (fault : Fault) (v : Value) → ◌≡◌ {A = Read Value Fault} (Bad fault) (Good v) → ⊥
  bad_not fault v e = cc

module _ {State Why : Type 0} (step : State → Line → Step State Why) (P : State → Type 0)
    (keeps : (s t : State) (line : Line) → P s → step s line ≡ Goes t → P t) where
  -- P holds of the state before the next line, if no line has failed
  abbrev pub OfGoing : Progress State Why → Type 0
  OfGoing (Going n s) = P s
  OfGoing (Stopped n why) = Unit {0}

  -- what each line keeps, all of them keep
  pub lines_keep : (lines : List Line) (n : ℕ) (s : State) → P s → OfGoing (advanced step (Going n s) lines)
  lines_keep [] n s p = p
  lines_keep (line ∷ lines) n s p = by_step (λ t q. lines_keep lines (n + 1) t q) (step s line) refl
    where
      by_step : ((t : State) → P t → OfGoing (advanced step (Going (n + 1) t) lines))
          → (st : Step State Why)
          → step s line ≡ st
          → OfGoing (advanced step (moved n st) lines)
      by_step on (Goes t) e = on t (keeps s t line p e)
      by_step on (Fails why) e = subst OfGoing (sym (stays step n why lines)) tt

  -- if the end of a text makes Q of P, then Q holds of all that is read
  pub read_keeps : {Value Fault : Type 0} (fault_at : ℕ → Why → Fault)
      (finished : ℕ → State → Read Value Fault)
      (Q : Value → Type 0)
      → ((n : ℕ) (s : State) (v : Value) → P s → finished n s ≡ Good v → Q v)
      → (start : State)
      → P start
      → (bytes : List ℕ) (v : Value)
      → concluded fault_at finished (progress step start bytes) ≡ Good v
      → Q v
  read_keeps fault_at finished Q ends start p bytes v =
      by_progress (progress step start bytes) (lines_keep (lines_of bytes) 1 start p)
    where
      by_progress : (at : Progress State Why) → OfGoing at → concluded fault_at finished at ≡ Good v → Q v
      by_progress (Going n s) q e = ends n s v q e
      by_progress (Stopped n why) q e = absurd (bad_not _ _ e)
