-- What the words of the command line ask for. This project's own.
use Rattle.std.specs.Prelude.{ℕ, List, [], ◌∷◌, codes, Option, Some, None, if◌then◌else◌}
use Rattle.std.specs.Str.{bytes_eq}
use Rattle.listing_lines.specs.Tokens.{decimal_of}
use Rattle.runwords.specs.declared.plan.Plan.{Plan}

-- the names of three files, and how many steps each machine makes
pub record Asked : Type 0 where
  pub listing : List ℕ
  pub c_text : List ℕ
  pub entry : List ℕ
  pub steps : ℕ

-- a number from 0 to 100,000 in decimal digits without a leading zero
abbrev pub steps_of : List ℕ → Option ℕ
steps_of word = if bytes_eq word (codes "100000") then Some 100000 else decimal_of word

abbrev pub asked_for : List ℕ → List ℕ → List ℕ → Option ℕ → Option Asked
asked_for listing c_text entry None = None
asked_for listing c_text entry (Some steps) =
    Some (record { listing = listing; c_text = c_text; entry = entry; steps = steps })

-- exactly four words, of which the last is a number of steps
abbrev pub asked_by : List (List ℕ) → Option Asked
asked_by (listing ∷ c_text ∷ entry ∷ steps ∷ []) = asked_for listing c_text entry (steps_of steps)
asked_by _ = None

abbrev pub plan_of : Plan → Asked
plan_of p = record { listing = p.listing.now; c_text = p.c_text.now; entry = p.entry.now; steps = p.steps }
