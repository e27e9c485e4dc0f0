-- What a parse of the words gives.
use Rattle.std.proofs.Common.{◌≡◌, ◌∙◌, Bool, true, false, List, [], codes, Option, None, ap, refl, sym}
use Rattle.std.specs.Prelude.{if◌then◌else◌}
use Rattle.clap.specs.Words.{App, HasMatchesOf, Text, fault_of, first_value, found_of, is_simple, matches_of, rows_of, takes}
use Rattle.clap.specs.declared.parser.matches.ArgMatches.{ArgMatches}
use Rattle.clap.specs.declared.parser.matches.Found.{Found}
use Rattle.clap.proofs.WalkLemmas.{first_value-rows}
use Rattle.words.specs.Request.{Asked, asked_by, command, given, given_in}
use Rattle.words.proofs.Takes.{takes_so}

module _ (a : App) (words : List Text) (is : a ≡ command) where
  -- Where the parse ends well, what is asked for is what its matches give.
  pub asked_so : (m : ArgMatches)
      → HasMatchesOf a words m
      → fault_of a words ≡ []
      → given (first_value (found_of m) (codes "stage")) (first_value (found_of m) (codes "gen"))
      (first_value (found_of m) (codes "file")) ≡ asked_by words
  asked_so m matches none =
      let f : Found = found_of m in
      let rows : rows_of f ≡ matches_of command words = (matches (ap is_simple is)).0
      ∙ ap (λ (x : App). matches_of x words) is in
      let taken : takes command words ≡ true = takes_so words (ap (λ (x : App). fault_of x words) (sym is) ∙ none) in
      (λ i. given (first_value-rows f (codes "stage") i) (first_value-rows f (codes "gen") i)
      (first_value-rows f (codes "file") i)) ∙ ap given_in rows
      ∙ sym (ap (λ (t : Bool). if t then given_in (matches_of command words) else None) taken)

  -- Where it fails, and not for want of memory, nothing is asked for.
  pub refused_so : (takes a words ≡ true → ⊥) → None ≡ asked_by words
  refused_so not_taken = by_test (takes command words) (λ e. not_taken (ap (λ (x : App). takes x words) is ∙ e))
    where
      by_test : (t : Bool) → (t ≡ true → ⊥) → None ≡ (if t then given_in (matches_of command words) else None)
      by_test true h = absurd (h refl)
      by_test false h = refl
