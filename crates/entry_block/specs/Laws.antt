-- What is proved of codes that begin apart. Each law is the contract of a function of its name.
use Rattle.std.specs.Prelude.{ℕ}
use Rattle.machine.specs.TwoWay.{TwoWay}
use Rattle.pcode_model.specs.declared.listing.Listing.{Listing}
use Rattle.pcode_model.specs.World.{Entry}
use Rattle.blockcode.specs.declared.code.Code.{Code}
use Rattle.blockcode.specs.Numbers.{AreNumbered}
use Rattle.edges.specs.Exits.{LeadsTo}
use Rattle.edges.specs.Run.{exit_at, seen_blocks, blocks_of_code}
use Rattle.edges.specs.Live.{IsStrict, IsDefined, IsSound}
use Rattle.entry_block.specs.Entered.{begun_apart}

-- It shows what the code shows.
abbrev pub ShowsTheSame : Type 0
ShowsTheSame =
    (l : Listing) (k : Code) (e : Entry)
    → AreNumbered k
    → IsDefined l (blocks_of_code k) e
    → TwoWay (seen_blocks l (blocks_of_code k) e) (seen_blocks l (blocks_of_code (begun_apart k)) e)

-- No edge leads to its entry.
abbrev pub NoneEnters : Type 0
NoneEnters =
    (k : Code)
    → AreNumbered k
    → (b : ℕ)
    → LeadsTo (exit_at (blocks_of_code (begun_apart k)) b) k.entry
    → ⊥

-- Its entry has the old number, and its statements and exits are as they should be where the code's are.
abbrev pub StaysSound : Type 0
StaysSound = (k : Code) → AreNumbered k → IsSound (blocks_of_code k) → IsSound (blocks_of_code (begun_apart k))

-- What is live as it is entered has a word where this holds of the code.
abbrev pub StaysStrict : Type 0
StaysStrict =
    (l : Listing) (k : Code) (e : Entry)
    → AreNumbered k
    → IsStrict l (blocks_of_code k) e
    → IsStrict l (blocks_of_code (begun_apart k)) e
