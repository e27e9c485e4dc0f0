-- The function that is made of a body: what stands at its head, and what the body mentions of all that it may mention.
use Rattle.std.specs.Prelude.{ℕ, ◌-◌, List, [], ◌∷◌, length, slice_get, Option, Some, None}
use Rattle.cmeaning.specs.declared.tree.CalleeDecl.{CalleeDecl}
use Rattle.cmeaning.specs.declared.tree.CFunction.{CFunction}
use Rattle.cmeaning.specs.declared.tree.Local.{Local}
use Rattle.cmeaning.specs.declared.tree.Stmt.{Stmt}
use Rattle.cmeaning.specs.Callees.{declared_in}
use Rattle.naming.specs.declared.head.Head.{Head}
use Rattle.naming.specs.First.{order_of, named_body}

-- one more in front, if there is one
abbrev pub with_found : {A : Type 0} → Option A → List A → List A
with_found None xs = xs
with_found (Some x) xs = x ∷ xs

-- what is found by each number, in their order
abbrev pub all_found : {A : Type 0} → (ℕ → Option A) → List ℕ → List A
all_found find [] = []
all_found find (n ∷ ns) = with_found (find n) (all_found find ns)

-- the local that stands for a variable, by the body's own number
abbrev pub local_of : ℕ → List Local → ℕ → Option Local
local_of params locals v = slice_get locals (v - params)

-- the declarations of the callees at these addresses
abbrev pub declared_all : List CalleeDecl → List ℕ → List CalleeDecl
declared_all callees addresses = all_found (declared_in callees) addresses

abbrev pub locals_named : Head → List Stmt → List Local
locals_named h body =
    all_found (local_of (length h.params) h.locals) (order_of (length h.params) body).variables

abbrev pub callees_named : Head → List Stmt → List CalleeDecl
callees_named h body = declared_all h.callees (order_of (length h.params) body).callees

-- Its locals and its callees are those that the body mentions, by first appearance.
abbrev pub named_function : Head → List Stmt → CFunction
named_function h body = record {
  callees = callees_named h body;
  name = h.name;
  gives = h.gives;
  params = h.params;
  locals = locals_named h body;
  body = named_body (length h.params) body;
}
