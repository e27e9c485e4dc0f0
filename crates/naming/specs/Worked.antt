-- Small bodies with their numbers by first appearance. This project's own.
use Rattle.std.specs.Prelude.{◌≡◌, ℕ, true, false, List, [], ◌∷◌, codes, Some, None}
use Rattle.std.proofs.Common.{lit<, lit≤}
use Rattle.bits_core.specs.declared.word.Width.{Width}
use Rattle.pcode_model.specs.declared.storage.ParamStorage.TheVariants as P
use Rattle.cmeaning.specs.declared.tree.CalleeDecl.{CalleeDecl}
use Rattle.cmeaning.specs.declared.tree.CFunction.{CFunction}
use Rattle.cmeaning.specs.declared.tree.CName.TheVariants.{Declared}
use Rattle.cmeaning.specs.declared.tree.Expr.TheVariants as E
use Rattle.cmeaning.specs.declared.tree.Local.{Local}
use Rattle.cmeaning.specs.declared.tree.Param.{Param}
use Rattle.cmeaning.specs.declared.tree.Stmt.{Stmt}
use Rattle.cmeaning.specs.declared.tree.Stmt.TheVariants as S
use Rattle.cmeaning.specs.Examples.{four, callee}
use Rattle.naming.specs.declared.head.Head.{Head}
use Rattle.naming.specs.declared.order.Order.{Order}
use Rattle.naming.specs.First.{order_of}
use Rattle.naming.specs.Named.{named_function}

abbrev pub one : Width
one = record { bytes = 1; from = lit< tt; to = lit≤ tt }

abbrev pub two : Width
two = record { bytes = 2; from = lit< tt; to = lit≤ tt }

abbrev pub local : Width → Local
local w = record { width = w; signed = false }

abbrev pub param : ℕ → Param
param offset = record { storage = P.Register offset; model = false; width = four; signed = false }

-- two parameters, and variables 2 to 7
abbrev pub head : Head
head = record {
  name = codes "f";
  gives = None;
  params = param 0x0 ∷ (param 0x8 ∷ []);
  locals = local four ∷ (local four ∷ (local four ∷ (local one ∷ (local four ∷ (local two ∷ [])))));
  callees = callee 0x1000 None true ∷ (callee 0x2000 (Some two) true ∷ (callee 0x3000 None true ∷ []));
}

-- Nothing mentions parameter 1. Variable 7 is used in two blocks, variable 5 is met first in a condition, and the callee
-- at 0x2000 is called twice, before another. None of the callees is declared, so they have bare names.
abbrev pub body : List Stmt
body = S.Label 8
    ∷ (S.Call (Some 7) 0x2000 (E.Var 0 ∷ [])
    ∷ (S.If (E.Var 5) (S.Goto 3 ∷ [])
    ∷ (S.Goto 8
    ∷ (S.Label 3
    ∷ (S.Call None 0x1000 (E.Var 7 ∷ [])
    ∷ (S.Call (Some 5) 0x2000 (E.Var 0 ∷ []) ∷ (S.Return None ∷ [])))))))

abbrev pub order : Order
order = record {
  params = 2;
  variables = 7 ∷ (5 ∷ []);
  callees = 0x2000 ∷ (0x1000 ∷ []);
  labels = 8 ∷ (3 ∷ []);
}

abbrev pub function : CFunction
function = record {
  callees = callee 0x2000 (Some two) true ∷ (callee 0x1000 None true ∷ []);
  name = codes "f";
  gives = None;
  params = param 0x0 ∷ (param 0x8 ∷ []);
  locals = local two ∷ (local one ∷ []);
  body = S.Label 1
      ∷ (S.Call (Some 2) 0x2000 (E.Var 0 ∷ [])
      ∷ (S.If (E.Var 3) (S.Goto 2 ∷ [])
      ∷ (S.Goto 1
      ∷ (S.Label 2
      ∷ (S.Call None 0x1000 (E.Var 2 ∷ [])
      ∷ (S.Call (Some 3) 0x2000 (E.Var 0 ∷ []) ∷ (S.Return None ∷ [])))))));
}

abbrev pub FirstAppearance : Type 0
FirstAppearance = (order_of 2 body ≡ order) × (named_function head body ≡ function)

-- ---- a function that calls itself

abbrev pub declared : List ℕ → ℕ → CalleeDecl
declared name address = record {
  name = Declared name;
  address = address;
  gives = None;
  args = four ∷ [];
  returns = true;
}

-- its own declaration, one that nothing calls, and a callee that isn't declared
abbrev pub own_head : Head
own_head = record {
  name = codes "f";
  gives = None;
  params = param 0x0 ∷ [];
  locals = [];
  callees = declared (codes "f") 0x5000 ∷ (declared (codes "g") 0x6000 ∷ (callee 0x9000 None true ∷ []));
}

abbrev pub own_body : List Stmt
own_body = S.Call None 0x9000 (E.Var 0 ∷ []) ∷ (S.Call None 0x5000 (E.Var 0 ∷ []) ∷ (S.Return None ∷ []))

abbrev pub own_order : Order
own_order = record { params = 1; variables = []; callees = 0x9000 ∷ (0x5000 ∷ []); labels = [] }

-- It is a callee as any other: its declaration stands where it is called first.
abbrev pub own_function : CFunction
own_function = record {
  callees = callee 0x9000 None true ∷ (declared (codes "f") 0x5000 ∷ []);
  name = codes "f";
  gives = None;
  params = param 0x0 ∷ [];
  locals = [];
  body = own_body;
}

abbrev pub OwnCallee : Type 0
OwnCallee = (order_of 1 own_body ≡ own_order) × (named_function own_head own_body ≡ own_function)
