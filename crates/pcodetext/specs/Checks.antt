-- Tests of ranges as they are written, and of the spaces, that several kinds of line share.
use Rattle.std.specs.Prelude.{Bool, List, None, Option, Some, false, nat_le, true, ℕ, ◌&&◌, ◌==◌}
use Rattle.pcode_model.specs.Ranges.{is_kind, leaves}
use Rattle.pcode_model.specs.WellFormed.{how_many}
use Rattle.pcode_model.specs.declared.listing.Space.{Space}
use Rattle.pcode_model.specs.declared.listing.SpaceKind.TheVariants.{Ram, Register, Unique}
use Rattle.pcode_model.specs.declared.listing.SpaceKind.{SpaceKind}
use Rattle.pcodetext.specs.declared.written.Named.TheVariants as named
use Rattle.pcodetext.specs.declared.written.Named.{Named}
use Rattle.pcodetext.specs.declared.written.Written.{Written}

-- a test of what may be missing
abbrev pub of_some : {A : Type 0} → (A → Bool) → Option A → Bool
of_some test None = false
of_some test (Some a) = test a

-- ---- the space of a range

abbrev pub is_unknown : Named → Bool
is_unknown (named.Space n) = false
is_unknown named.Stack = true
is_unknown named.Unknown = true

-- a known space of that kind
abbrev pub is_of_kind : SpaceKind → List Space → Named → Bool
is_of_kind kind spaces (named.Space n) = is_kind kind spaces n
is_of_kind kind spaces named.Stack = false
is_of_kind kind spaces named.Unknown = false

-- bytes that leave their known space
abbrev pub leaves_known : List Space → Named → ℕ → ℕ → Bool
leaves_known spaces (named.Space n) offset size = leaves spaces n offset size
leaves_known spaces named.Stack offset size = false
leaves_known spaces named.Unknown offset size = false

-- ---- ranges

abbrev pub of_unknown : Written → Bool
of_unknown w = is_unknown w.space

abbrev pub is_empty : Written → Bool
is_empty w = w.size == 0

abbrev pub leaves_space : List Space → Written → Bool
leaves_space spaces w = leaves_known spaces w.space w.offset w.size

-- ---- the spaces

-- exactly one register space, exactly one unique space and at least one ram space
abbrev pub is_complete : List Space → Bool
is_complete spaces = (how_many Register spaces == 1 && how_many Unique spaces == 1) && nat_le 1 (how_many Ram spaces)
