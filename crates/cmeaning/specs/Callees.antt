-- The callee at an address is the first one that is declared there. This project's own.
use Rattle.std.specs.Prelude.{ℕ, ◌==◌, if◌then◌else◌, Bool, true, List, [], ◌∷◌, Option, Some, None}
use Rattle.cmeaning.specs.declared.tree.CalleeDecl.{CalleeDecl}

-- the first that passes a test
abbrev pub first_of : {A : Type 0} → (A → Bool) → List A → Option A
first_of test [] = None
first_of test (x ∷ xs) = if test x then Some x else first_of test xs

abbrev pub has_address : ℕ → CalleeDecl → Bool
has_address address c = c.address == address

-- the declaration of the callee at an address
abbrev pub declared_in : List CalleeDecl → ℕ → Option CalleeDecl
declared_in callees address = first_of (has_address address) callees

-- one without a declaration returns
abbrev pub does_return : Option CalleeDecl → Bool
does_return None = true
does_return (Some c) = c.returns

-- whether the callee at an address is declared to return
abbrev pub returns_by : List CalleeDecl → ℕ → Bool
returns_by callees address = does_return (declared_in callees address)
