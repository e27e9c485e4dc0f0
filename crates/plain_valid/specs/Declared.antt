-- Declarations of callees that say what a listing says. This project's own.
use Rattle.std.specs.Prelude.{◌≡◌}
use Rattle.pcode_model.specs.declared.listing.Listing.{Listing}
use Rattle.cmeaning.specs.declared.tree.CalleeDecl.{CalleeDecl}
use Rattle.layout.specs.Callees.{callee_decl}

-- of the callee at its address: the name, the widths and whether it returns
abbrev pub IsDeclaredBy : Listing → CalleeDecl → Type 0
IsDeclaredBy l c = c ≡ callee_decl l c.address
