-- What is proved of functions that a certificate shows to stand for a code. Each law is the contract of a function of its
-- name.
use Rattle.machine.specs.Trace.{Undefined}
use Rattle.machine.specs.TwoWay.{TwoWay, NeverEnds}
use Rattle.pcode_model.specs.declared.listing.Listing.{Listing}
use Rattle.pcode_model.specs.World.{Entry}
use Rattle.blockcode.specs.declared.code.Code.{Code}
use Rattle.blockcode.specs.Run.{seen_code}
use Rattle.edges.specs.Run.{blocks_of_code}
use Rattle.edges.specs.Live.{IsSound}
use Rattle.ssa_model.specs.declared.form.Parts.{Parts}
use Rattle.ssa_model.specs.Outline.{form}
use Rattle.ssa_model.specs.Paths.{Strict}
use Rattle.ssa_model.specs.Run.{seen_ssa}
use Rattle.heritage_laws.specs.Certificate.{Tables, Certified}

-- every path to a use passes the definition
abbrev pub CertifiedIsStrict : Listing → Code → Parts → Type 0
CertifiedIsStrict l k p = (c : Tables) → Certified l k p c → Strict (form p)

-- The function shows what the code shows, and never ends Undefined.
pub record ShowsCode (l : Listing) (k : Code) (p : Parts) (e : Entry) : Type 0 where
  pub runs : TwoWay (seen_code l k e) (seen_ssa l p e)
  pub defined : NeverEnds Undefined (seen_ssa l p e)

-- from every entry
abbrev pub CertifiedShows : Listing → Code → Parts → Type 0
CertifiedShows l k p =
    (c : Tables) → Certified l k p c → IsSound (blocks_of_code k) → (e : Entry) → ShowsCode l k p e
