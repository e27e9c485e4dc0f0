-- Which listings have a text.
use Rattle.std.specs.Prelude.{◌≡◌, ℕ, List}
use Rattle.pcode_model.specs.declared.listing.Listing.{Listing}
use Rattle.listing_print.specs.Printed.{text_of}
use Rattle.pcodetext.specs.Meaning.{reading}
use Rattle.pcodetext.specs.Meaning.Read.{Good}

-- the text has no fault, and it is the listing's
abbrev pub StandsFor : List ℕ → Listing → Type 0
StandsFor text l = reading text ≡ Good l

-- some text stands for the listing
abbrev pub HasText : Listing → Type 0
HasText l = (text : List ℕ) × StandsFor text l

-- the text is canonical, of the listing that the other text stands for, and stands for it too
pub record IsCanonicalOf (bytes text : List ℕ) : Type 0 where
  pub listing : Listing
  pub read : StandsFor bytes listing
  pub printed : text ≡ text_of listing
  pub again : StandsFor text listing
