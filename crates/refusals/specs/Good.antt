-- Which inputs are texts of listings whose ops obey their rules, and which have few blocks. This project's own.
use Rattle.std.specs.Prelude.{◌≡◌, ◌≤◌, ℕ, List, [], length, None}
use Rattle.pcode_model.specs.declared.listing.Listing.{Listing}
use Rattle.pcode_model.specs.declared.listing.Place.{Place}
use Rattle.pcode_model.specs.Flow.{AreStarts}
use Rattle.pcode_model.specs.Limits.{max_blocks}
use Rattle.pcode_model.specs.Rules.{first_bad}
use Rattle.pcodetext.specs.Meaning.{Good, reading}

abbrev pub Bytes : Type 0
Bytes = List ℕ

-- the input is the text of a listing whose ops obey their rules
pub record IsGood (bytes : Bytes) (l : Listing) : Type 0 where
  pub read : reading bytes ≡ Good l
  pub ops : first_bad l ≡ None

-- the input is good, and its listing is refused for a reason of its own
abbrev pub RefusedBy : Bytes → (Listing → Type 0) → Type 0
RefusedBy bytes P = (l : Listing) × (IsGood bytes l × P l)

-- there are at most so many blocks as are accepted, counted by where they begin
abbrev pub HasFewBlocks : Listing → Type 0
HasFewBlocks l = (starts : List Place) × (AreStarts l [] starts × (length starts ≤ max_blocks))
