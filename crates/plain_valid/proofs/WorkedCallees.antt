-- Declarations of callees of a small listing, by computation.
use Rattle.std.proofs.Common.{◌≡◌, ℕ, true, false, List, [], ◌∷◌, Some, None, refl, ap, ◌∙◌}
use Rattle.std.specs.Prelude.{codes}
use Rattle.pcode_model.specs.declared.listing.SpaceKind.TheVariants.{Constant, Ram, Register}
use Rattle.pcode_model.specs.declared.listing.Listing.{Listing}
use Rattle.pcode_model.specs.declared.listing.Proto.{Proto}
use Rattle.pcode_model.specs.declared.listing.Storage.TheVariants.{At}
use Rattle.pcode_model.specs.declared.listing.Varnode.{Varnode}
use Rattle.cmeaning.specs.declared.tree.CName.TheVariants.{Bare, Declared}
use Rattle.cmeaning.specs.declared.tree.Expr.{Expr}
use Rattle.cmeaning.specs.declared.tree.Stmt.{Stmt}
use Rattle.cmeaning.specs.declared.tree.Stmt.TheVariants as S
use Rattle.naming.specs.Listed.{with_one}
use Rattle.layout.specs.Callees.{called_by, callee_decl, with_called}
use Rattle.op_values.specs.Nodes.{width_by}
use Rattle.plain_valid.proofs.Callees.{callee_of_call}

abbrev register : ℕ → ℕ → Varnode
register offset size = record { space = 2; offset = offset; size = size }

abbrev own : Proto
own = record {
  name = codes "own";
  args = At (register 0 4) ∷ [];
  gives = Some (register 8 8);
  pop = 0;
  keep = [];
}

abbrev pair : Proto
pair = record {
  name = codes "pair";
  args = At (register 0 1) ∷ At (register 4 2) ∷ [];
  gives = Some (register 8 4);
  pop = 0;
  keep = [];
}

-- `mix` has a prototype of its own, and `halt`, of the same one, never returns
abbrev listing : Listing
listing = record {
  version = 2;
  spaces = record { name = codes "const"; kind = Constant; size = 8; big = false; word = 1 }
      ∷ record { name = codes "ram"; kind = Ram; size = 4; big = false; word = 1 }
      ∷ record { name = codes "register"; kind = Register; size = 4; big = false; word = 1 }
      ∷ [];
  stack = None;
  protos = own ∷ pair ∷ [];
  func = record { name = codes "main"; address = 16; proto = 0; returns = true };
  callees = record { name = codes "mix"; address = 64; proto = 1; returns = true }
      ∷ record { name = codes "halt"; address = 80; proto = 1; returns = false }
      ∷ [];
  fixed = [];
  code = [];
}

-- A callee has its prototype's widths.
declared : callee_decl listing 64
    ≡ record {
      name = Declared (codes "mix");
      address = 64;
      gives = Some (width_by 4);
      args = width_by 1 ∷ width_by 2 ∷ [];
      returns = true;
    }
declared = refl

-- One that never returns gives nothing, whatever its prototype says.
never_returns : callee_decl listing 80
    ≡ record {
      name = Declared (codes "halt");
      address = 80;
      gives = None;
      args = width_by 1 ∷ width_by 2 ∷ [];
      returns = false;
    }
never_returns = refl

-- One that isn't declared has no name, and the prototype of the listing's function.
undeclared : callee_decl listing 96
    ≡ record {
      name = Bare;
      address = 96;
      gives = Some (width_by 8);
      args = width_by 4 ∷ [];
      returns = true;
    }
undeclared = refl

one_called : (known : List ℕ) (a : ℕ) (args : List Expr) (ss : List Stmt)
    → called_by known (S.Call None a args ∷ ss) ≡ called_by (with_one known a) ss
one_called known a args ss = ap (λ o. called_by (with_called known o) ss) (callee_of_call None a args)

-- Each address is listed once, where it is called first.
once : (d e f : List Expr)
    → called_by [] (S.Call None 80 d ∷ S.Call None 64 e ∷ S.Call None 80 f ∷ []) ≡ 80 ∷ 64 ∷ []
once d e f =
    one_called [] 80 d (S.Call None 64 e ∷ S.Call None 80 f ∷ [])
    ∙ one_called (80 ∷ []) 64 e (S.Call None 80 f ∷ [])
    ∙ one_called (80 ∷ 64 ∷ []) 80 f []
