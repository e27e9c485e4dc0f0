-- The op that stands at a place. This project's own.
use Rattle.std.specs.Prelude.{Option, Some, None}
use Rattle.pcode_model.specs.declared.listing.Op.{Op}
use Rattle.pcode_model.specs.Places.{Standing, Nothing, Passes, Does}

abbrev pub op_of : Standing → Option Op
op_of Nothing = None
op_of (Passes i) = None
op_of (Does i op) = Some op
