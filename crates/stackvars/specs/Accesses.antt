-- The ranges of a call's arguments, and the accesses that an atom of a list stands for. This project's own.
use Rattle.std.specs.Prelude.{List, [], ◌∷◌, ◌++◌}
use Rattle.pcode_model.specs.declared.listing.Storage.{Storage}
use Rattle.pcode_model.specs.declared.listing.Storage.TheVariants.{At, Stack}
use Rattle.pcode_model.specs.declared.listing.Varnode.{Varnode}

-- the range of an argument that isn't passed on the stack
abbrev pub passed_in : Storage → List Varnode
passed_in (At v) = v ∷ []
passed_in (Stack offset size) = []

-- the ranges of the arguments that aren't passed on the stack
abbrev pub passed : List Storage → List Varnode
passed [] = []
passed (a ∷ rest) = passed_in a ++ passed rest
