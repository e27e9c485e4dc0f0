-- Reading a function with the declarations of its callees.
use Rattle.std.specs.Prelude.{ℕ, ◌%◌, ◌^◌, Bool, true, false, List, [], length, codes, Option, Some, None}
use Rattle.bits_core.specs.declared.word.Width.{Width}
use Rattle.cmeaning.specs.declared.tree.CName.{CName}
use Rattle.cmeaning.specs.declared.tree.CName.TheVariants.{Declared, Bare}
use Rattle.cmeaning.specs.declared.tree.CalleeDecl.{CalleeDecl}
use Rattle.cmeaning.specs.declared.tree.CFunction.{CFunction}
use Rattle.cmeaning.specs.declared.tree.Local.{Local}
use Rattle.cmeaning.specs.declared.tree.Param.{Param}
use Rattle.cmeaning.specs.declared.tree.Stmt.{Stmt}
use Rattle.ctext.specs.Names.{scope_of}
use Rattle.cread.specs.declared.item.Entry.{Entry}
use Rattle.cread.specs.declared.item.Head.{Head}
use Rattle.cread.specs.Words.{◌>>=◌, after, ended, chosen, name_at, decimal_at, hex_at, put_first, many_by}
use Rattle.cread.specs.Names.{type_at, entry_at}
use Rattle.cread.specs.Statements.{body_by, statement_at}

-- ---- what callees and the function begin with

abbrev pub result_at : List ℕ → Option (Option Width × List ℕ)
result_at bytes = chosen (after (codes "void") bytes) (λ rest. Some (None, rest))
    (type_at bytes >>= λ t. Some (Some t.0.width, t.1))

abbrev pub declared_by : List ℕ × List ℕ → CName × List ℕ
declared_by n = (Declared n.0, n.1)

abbrev pub bare_by : ℕ × List ℕ → CName × List ℕ
bare_by n = (Bare, n.1)

abbrev pub callee_name_at : List ℕ → Option (CName × List ℕ)
callee_name_at bytes =
    chosen (after (codes "f_") bytes) (λ rest. Some (declared_by (name_at rest)))
    (chosen (after (codes "g_") bytes) (λ rest. Some (bare_by (hex_at rest)))
    None)

abbrev pub marked_by : Bool → List ℕ → Option (Head × List ℕ)
marked_by returns bytes = result_at bytes >>= λ w. after (codes " ") w.1 >>= callee_name_at >>= ended (codes "(")
    >>= λ n. Some (record { returns = returns; gives = w.0; name = n.0 }, n.1)

-- what the declaration of a callee that never returns begins with
unfoldable pub no_return_mark : List ℕ
no_return_mark = codes "[[noreturn]] "

-- up to the parenthesis
unfoldable pub head_at : List ℕ → Option (Head × List ℕ)
head_at bytes = chosen (after no_return_mark bytes) (marked_by false) (marked_by true bytes)

-- ---- callees

unfoldable pub width_at : List ℕ → Option (Width × List ℕ)
width_at bytes = type_at bytes >>= λ t. Some (t.0.width, t.1)

unfoldable pub further_width : List ℕ → Option (Width × List ℕ)
further_width bytes = after (codes ", ") bytes >>= width_at

abbrev pub more_widths : List ℕ → List Width × List ℕ
more_widths bytes = many_by further_width (length bytes) bytes

unfoldable pub widths_at : List ℕ → Option (List Width × List ℕ)
widths_at bytes = chosen (after (codes "void") bytes) (λ rest. Some ([], rest))
    (width_at bytes >>= λ w. Some (put_first w.0 (more_widths w.1)))

-- the address at the end of the line
abbrev pub addressed : List Width → ℕ × List ℕ → Option ((List Width × ℕ) × List ℕ)
addressed ws n = ended (codes "\n") ((ws, n.0 % 2 ^ 64), n.1)

-- the widths of the arguments and the address, up to the end of the line
unfoldable pub tail_at : List ℕ → Option ((List Width × ℕ) × List ℕ)
tail_at bytes = widths_at bytes >>= ended (codes "); // 0x") >>= λ ws. addressed ws.0 (hex_at ws.1)

abbrev pub callee_of : Head → List Width × ℕ → CalleeDecl
callee_of h t = record { name = h.name; address = t.1; gives = h.gives; args = t.0; returns = h.returns }

unfoldable pub callee_at : List ℕ → Option (CalleeDecl × List ℕ)
callee_at bytes = head_at bytes >>= λ h. tail_at h.1 >>= λ t. Some (callee_of h.0 t.0, t.1)

abbrev pub callees_at : List ℕ → List CalleeDecl × List ℕ
callees_at bytes = many_by callee_at (length bytes) bytes

-- ---- parameters and locals

abbrev pub param_of : Local → Entry → Param
param_of t e = record { storage = e.storage; model = e.model; width = t.width; signed = t.signed }

unfoldable pub param_at : List ℕ → Option (Param × List ℕ)
param_at bytes = type_at bytes >>= λ t. after (codes " ") t.1 >>= λ r. entry_at r >>= λ e. Some (param_of t.0 e.0, e.1)

unfoldable pub further_param : List ℕ → Option (Param × List ℕ)
further_param bytes = after (codes ", ") bytes >>= param_at

abbrev pub more_params : List ℕ → List Param × List ℕ
more_params bytes = many_by further_param (length bytes) bytes

unfoldable pub params_at : List ℕ → Option (List Param × List ℕ)
params_at bytes = chosen (after (codes "void") bytes) (λ rest. Some ([], rest))
    (param_at bytes >>= λ p. Some (put_first p.0 (more_params p.1)))

abbrev pub local_by : Local → ℕ × List ℕ → Option (Local × List ℕ)
local_by t n = after (codes ";\n") n.1 >>= λ rest. Some (t, rest)

unfoldable pub local_at : List ℕ → Option (Local × List ℕ)
local_at bytes = after (codes "  ") bytes >>= type_at >>= λ t. after (codes " v") t.1
    >>= λ r. local_by t.0 (decimal_at r)

abbrev pub locals_at : List ℕ → List Local × List ℕ
locals_at bytes = many_by local_at (length bytes) bytes

-- ---- the function

abbrev pub declared_name : CName → Option (List ℕ)
declared_name (Declared name) = Some name
declared_name Bare = None

-- the name and the width of the result
unfoldable pub title_at : List ℕ → Option ((List ℕ × Option Width) × List ℕ)
title_at bytes = head_at bytes >>= λ h. declared_name h.0.name >>= λ name. Some ((name, h.0.gives), h.1)

abbrev pub beside : List Param → List Local × List ℕ → (List Param × List Local) × List ℕ
beside ps ls = ((ps, ls.0), ls.1)

-- the parameters and the locals
unfoldable pub variables_at : List ℕ → Option ((List Param × List Local) × List ℕ)
variables_at bytes = params_at bytes >>= ended (codes ")\n{\n") >>= λ ps. Some (beside ps.0 (locals_at ps.1))

-- with no body yet
abbrev pub frame_of : List CalleeDecl → List ℕ × Option Width → List Param × List Local → CFunction
frame_of cs title vs = record { callees = cs; name = title.0; gives = title.1; params = vs.0; locals = vs.1; body = [] }

abbrev pub frame_by : List CalleeDecl × List ℕ → Option (CFunction × List ℕ)
frame_by cs = title_at cs.1 >>= λ t. variables_at t.1 >>= λ vs. Some (frame_of cs.0 t.0 vs.0, vs.1)

unfoldable pub frame_at : List ℕ → Option (CFunction × List ℕ)
frame_at bytes = frame_by (callees_at bytes)

abbrev pub with_body : CFunction → List Stmt → CFunction
with_body f body = record {
  callees = f.callees;
  name = f.name;
  gives = f.gives;
  params = f.params;
  locals = f.locals;
  body = body;
}

unfoldable pub function_at : List ℕ → Option CFunction
function_at bytes = frame_at bytes >>= λ f. Some (with_body f.0 (body_by false (statement_at (scope_of f.0) 256) f.1).0)
