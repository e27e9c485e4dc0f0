-- The text of a C function with the declarations of its callees. This project's own.
use Rattle.std.specs.Prelude.{ℕ, ◌+◌, Bool, true, false, List, [], ◌∷◌, ◌++◌, map, codes}
use Rattle.bits_core.specs.declared.word.Width.{Width}
use Rattle.cmeaning.specs.declared.tree.CalleeDecl.{CalleeDecl}
use Rattle.cmeaning.specs.declared.tree.CFunction.{CFunction}
use Rattle.cmeaning.specs.declared.tree.Param.{Param}
use Rattle.cmeaning.specs.declared.tree.Local.{Local}
use Rattle.ctext.specs.Names.{scope_of, hex, type_text, unsigned_type, result_type, separated_or_void, param_name, local_name, callee_name}
use Rattle.ctext.specs.Statements.{body_text}

abbrev pub width_types : List Width → List (List ℕ)
width_types ws = map (λ w. unsigned_type w.bytes) ws

-- what stands before the declaration of a callee that never returns
abbrev pub returns_mark : Bool → List ℕ
returns_mark true = []
returns_mark false = codes "[[noreturn]] "

-- the result type and the name of a callee
abbrev pub callee_head : CalleeDecl → List ℕ
callee_head c = returns_mark c.returns ++ (result_type c.gives ++ (codes " " ++ callee_name c.name c.address))

-- the address of a callee, behind its arguments
abbrev pub address_text : ℕ → List ℕ
address_text address = codes "); // 0x" ++ (hex address ++ codes "\n")

-- the declaration of a callee
abbrev pub callee_line : CalleeDecl → List ℕ
callee_line c = callee_head c ++ (codes "(" ++ (separated_or_void (width_types c.args) ++ address_text c.address))

abbrev pub callee_lines : List CalleeDecl → List ℕ
callee_lines [] = []
callee_lines (c ∷ cs) = callee_line c ++ callee_lines cs

abbrev pub param_text : Param → List ℕ
param_text p = type_text p.signed p.width.bytes ++ (codes " " ++ param_name p)

-- the declarations of locals, of which `n` stand before
abbrev pub local_lines : ℕ → List Local → List ℕ
local_lines n [] = []
local_lines n (l ∷ ls) = codes "  "
    ++ (type_text l.signed l.width.bytes
    ++ (codes " " ++ (local_name (n + 1) ++ (codes ";\n" ++ local_lines (n + 1) ls))))

abbrev pub function_line : CFunction → List ℕ
function_line f = result_type f.gives
    ++ (codes " f_" ++ (f.name ++ (codes "(" ++ (separated_or_void (map param_text f.params) ++ codes ")\n"))))

-- the whole text
unfoldable pub text_of : CFunction → List ℕ
text_of f = callee_lines f.callees
    ++ (function_line f ++ (codes "{\n"
    ++ (local_lines 0 f.locals ++ (body_text (scope_of f) f.body (codes "  ") ++ codes "}\n"))))
