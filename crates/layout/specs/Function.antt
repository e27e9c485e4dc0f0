-- The C function of a code below a head, and the head. This project's own.
use Rattle.std.specs.Prelude.{ℕ, false, List, [], ◌∷◌, ◌++◌, Option, Some, None}
use Rattle.bits_core.specs.declared.word.Width.{Width}
use Rattle.pcode_model.specs.declared.storage.ParamStorage.{ParamStorage}
use Rattle.cmeaning.specs.declared.tree.Param.{Param}
use Rattle.cmeaning.specs.declared.tree.Local.{Local}
use Rattle.cmeaning.specs.declared.tree.CFunction.{CFunction}
use Rattle.cmeaning.specs.declared.tree.CalleeDecl.{CalleeDecl}
use Rattle.naming.specs.declared.head.Head.{Head}
use Rattle.naming.specs.Named.{named_function}
use Rattle.blockcode.specs.declared.code.Variable.{Variable}
use Rattle.blockcode.specs.declared.code.Code.{Code}
use Rattle.blockcode.specs.Laid.{laid_body}

-- with its numbers by first appearance
abbrev pub laid_out : Head → Code → CFunction
laid_out h k = named_function h (laid_body k)

-- ---- variables: those with a storage are parameters, and the others locals; all are unsigned

abbrev pub param_of : Width → Option ParamStorage → List Param
param_of w None = []
param_of w (Some s) = record { storage = s; model = false; width = w; signed = false } ∷ []

abbrev pub params_of : List Variable → List Param
params_of [] = []
params_of (v ∷ vs) = param_of v.width v.storage ++ params_of vs

abbrev pub local_of : Width → Option ParamStorage → List Local
local_of w None = record { width = w; signed = false } ∷ []
local_of w (Some s) = []

abbrev pub locals_of : List Variable → List Local
locals_of [] = []
locals_of (v ∷ vs) = local_of v.width v.storage ++ locals_of vs

-- of a function of this name, with a result of this width or none, that may call these
abbrev pub head_of : List ℕ → Option Width → List CalleeDecl → List Variable → Head
head_of name gives callees vs = record {
  name = name;
  gives = gives;
  params = params_of vs;
  locals = locals_of vs;
  callees = callees;
}
