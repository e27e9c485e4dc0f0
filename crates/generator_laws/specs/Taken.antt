-- What a listing has that is accepted with room to spare.
use Rattle.std.specs.Prelude.{◌≡◌, ◌≤◌, List, [], length, None}
use Rattle.pcode_model.specs.declared.atoms.Atom.{Atom}
use Rattle.pcode_model.specs.declared.listing.Listing.{Listing}
use Rattle.pcode_model.specs.declared.listing.Place.{Place}
use Rattle.pcode_model.specs.Atoms.{AreAtoms}
use Rattle.pcode_model.specs.Flow.{AreStarts, NoFault}
use Rattle.pcode_model.specs.Frame.{no_variables}
use Rattle.pcode_model.specs.Rules.{first_bad}
use Rattle.supported.specs.Supported.{HasBuiltOps}

-- There is no stack pointer, no op breaks a rule, each is built, no place of the flow has a fault, and however its blocks
-- and its atoms are listed, there are few.
pub record IsTaken (l : Listing) : Type 0 where
  pub stack : l.stack ≡ None
  pub ops : first_bad l ≡ None
  pub built : HasBuiltOps l
  pub flow : NoFault l []
  pub blocks : (starts : List Place) → AreStarts l [] starts → length starts ≤ 2001
  pub atoms : (atoms : List Atom) → AreAtoms l [] no_variables atoms → length atoms ≤ 39
