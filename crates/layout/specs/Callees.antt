-- The declarations of the functions that a code calls, by the prototypes of its listing. This project's own.
use Rattle.std.specs.Prelude.{ℕ, Bool, true, false, List, [], ◌∷◌, map, Option, Some, None}
use Rattle.bits_core.specs.declared.word.Width.{Width}
use Rattle.pcode_model.specs.declared.listing.Function.{Function}
use Rattle.pcode_model.specs.declared.listing.Listing.{Listing}
use Rattle.pcode_model.specs.declared.listing.Storage.{Storage}
use Rattle.pcode_model.specs.declared.listing.Storage.TheVariants.{At, Stack}
use Rattle.pcode_model.specs.declared.listing.Varnode.{Varnode}
use Rattle.pcode_model.specs.Step.{callee_at, proto_of, returns}
use Rattle.cmeaning.specs.declared.tree.CName.{CName}
use Rattle.cmeaning.specs.declared.tree.CName.TheVariants.{Bare, Declared}
use Rattle.cmeaning.specs.declared.tree.CalleeDecl.{CalleeDecl}
use Rattle.cmeaning.specs.declared.tree.Stmt.{Stmt}
use Rattle.cmeaning.specs.Do.{callee_of}
use Rattle.naming.specs.Listed.{with_one}
use Rattle.blockcode.specs.declared.code.Block.{Block}
use Rattle.blockcode.specs.declared.code.Code.{Code}
use Rattle.op_values.specs.Nodes.{width_by, width_of_range}

-- ---- a declaration

-- the declared name, or a bare one where the listing declares no callee at the address
abbrev pub name_by : Option Function → CName
name_by None = Bare
name_by (Some f) = Declared f.name

abbrev pub width_passed : Storage → Width
width_passed (At v) = width_by v.size
width_passed (Stack offset size) = width_by size

-- one that never returns has no result
abbrev pub gives_by : Bool → Option Varnode → Option Width
gives_by true gives = width_of_range gives
gives_by false gives = None

-- The callee at an address, with the widths of its prototype.
abbrev pub callee_decl : Listing → ℕ → CalleeDecl
callee_decl l a = record {
  name = name_by (callee_at l a);
  address = a;
  gives = gives_by (returns (callee_at l a)) (proto_of l (callee_at l a)).gives;
  args = map width_passed (proto_of l (callee_at l a)).args;
  returns = returns (callee_at l a);
}

-- ---- what is called

abbrev pub with_called : List ℕ → Option ℕ → List ℕ
with_called known None = known
with_called known (Some a) = with_one known a

-- those that are known and those that statements call, each once and in the order of first calls
abbrev pub called_by : List ℕ → List Stmt → List ℕ
called_by known [] = known
called_by known (s ∷ ss) = called_by (with_called known (callee_of s)) ss

abbrev pub called_in : List ℕ → List Block → List ℕ
called_in known [] = known
called_in known (b ∷ bs) = called_in (called_by known b.body) bs

-- The declarations of the callees of a code, each address once.
abbrev pub callees_of : Listing → Code → List CalleeDecl
callees_of l k = map (callee_decl l) (called_in [] k.blocks)
