-- The names and types of the C text, and what the numbers of a tree stand for. This project's own.
-- All texts are lists of ASCII codes.
use Rattle.std.specs.Prelude.{ℕ, ◌+◌, ◌-◌, ◌*◌, ◌==◌, Bool, false, if◌then◌else◌, ℤ, pos, negsuc, List, [], ◌∷◌, ◌++◌, length, codes, Option, Some, None, slice_get}
use Rattle.std.specs.Fmt.{decimal, digits}
use Rattle.bits_core.specs.declared.word.Width.{Width}
use Rattle.pcode_model.specs.declared.storage.ParamStorage.{ParamStorage}
use Rattle.pcode_model.specs.declared.storage.ParamStorage.TheVariants.{Register, Unique, Stack}
use Rattle.cmeaning.specs.declared.tree.CName.{CName}
use Rattle.cmeaning.specs.declared.tree.CName.TheVariants.{Declared, Bare}
use Rattle.cmeaning.specs.declared.tree.CalleeDecl.{CalleeDecl}
use Rattle.cmeaning.specs.declared.tree.CFunction.{CFunction}
use Rattle.cmeaning.specs.declared.tree.Param.{Param}
use Rattle.cmeaning.specs.declared.tree.Local.{Local}

-- a number in hexadecimal, in small letters, with no zero before it
abbrev pub hex : ℕ → List ℕ
hex n = digits 16 false n

-- the unsigned type of a width in bytes: u and the number of bits
abbrev pub unsigned_type : ℕ → List ℕ
unsigned_type w = 117 ∷ decimal (8 * w)

-- the signed type of a width in bytes: s and the number of bits
abbrev pub signed_type : ℕ → List ℕ
signed_type w = 115 ∷ decimal (8 * w)

abbrev pub type_text : Bool → ℕ → List ℕ
type_text signed w = if signed then signed_type w else unsigned_type w

-- the type of a result
abbrev pub result_type : Option Width → List ℕ
result_type None = codes "void"
result_type (Some w) = unsigned_type w.bytes

-- each text behind a comma
abbrev pub further : List (List ℕ) → List ℕ
further [] = []
further (t ∷ ts) = codes ", " ++ (t ++ further ts)

-- texts with commas between them
abbrev pub separated : List (List ℕ) → List ℕ
separated [] = []
separated (t ∷ ts) = t ++ further ts

-- the same, and void where there is none
abbrev pub separated_or_void : List (List ℕ) → List ℕ
separated_or_void [] = codes "void"
separated_or_void (t ∷ ts) = t ++ further ts

-- where a parameter's word stands as the function is entered: an offset below zero has an m and its absolute value
abbrev pub stack_text : ℤ → List ℕ
stack_text (pos n) = codes "stack_" ++ hex n
stack_text (negsuc n) = codes "stack_m" ++ hex (n + 1)

abbrev pub storage_text : ParamStorage → List ℕ
storage_text (Register offset) = codes "register_" ++ hex offset
storage_text (Unique offset) = codes "unique_" ++ hex offset
storage_text (Stack offset) = stack_text offset

abbrev pub param_name : Param → List ℕ
param_name p = (if p.model then codes "p_" else codes "in_") ++ storage_text p.storage

-- the n-th local, counted from 1
abbrev pub local_name : ℕ → List ℕ
local_name n = 118 ∷ decimal n

-- a callee's name: as it is declared, or made from its address
abbrev pub callee_name : CName → ℕ → List ℕ
callee_name (Declared name) address = codes "f_" ++ name
callee_name Bare address = codes "g_" ++ hex address

-- ---- what the numbers of a tree stand for

-- the declarations that a body's text needs
pub record Scope : Type 0 where
  pub params : List Param
  pub locals : List Local
  pub callees : List CalleeDecl

abbrev pub scope_of : CFunction → Scope
scope_of f = record { params = f.params; locals = f.locals; callees = f.callees }

-- a variable by its name, its width in bytes and its sign
pub record Variable : Type 0 where
  pub name : List ℕ
  pub width : ℕ
  pub signed : Bool

-- what a number past the last variable stands for; no valid tree has one
abbrev pub no_variable : Variable
no_variable = record { name = []; width = 0; signed = false }

abbrev pub of_local : ℕ → Option Local → Variable
of_local n None = no_variable
of_local n (Some l) = record { name = local_name n; width = l.width.bytes; signed = l.signed }

abbrev pub of_param_or_local : Scope → ℕ → Option Param → Variable
of_param_or_local sc n (Some p) = record { name = param_name p; width = p.width.bytes; signed = p.signed }
of_param_or_local sc n None = of_local (n - length sc.params + 1) (slice_get sc.locals (n - length sc.params))

-- the variable of a number: the parameters first, then the locals
unfoldable pub variable : Scope → ℕ → Variable
variable sc n = of_param_or_local sc n (slice_get sc.params n)

abbrev pub name_at : Option CalleeDecl → List ℕ
name_at None = []
name_at (Some c) = callee_name c.name c.address
