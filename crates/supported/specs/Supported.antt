-- Which listings are built so far. This project's own.
use Rattle.std.specs.Prelude.{◌≡◌, Bool, true, false, ◌&&◌, List, [], ◌∷◌}
use Rattle.pcode_model.specs.declared.opcode.Opcode.{Opcode}
use Rattle.pcode_model.specs.declared.opcode.Opcode.TheVariants as O
use Rattle.pcode_model.specs.declared.listing.Op.{Op}
use Rattle.pcode_model.specs.declared.listing.Instruction.{Instruction}
use Rattle.pcode_model.specs.declared.listing.Listing.{Listing}

-- the operations of one input and of two inputs, divisions too, LOAD, STORE, calls, BRANCH, CBRANCH and RETURN
abbrev pub is_supported_code : Opcode → Bool
is_supported_code (O.Unary op) = true
is_supported_code (O.Binary op) = true
is_supported_code (O.Divide op) = true
is_supported_code O.Load = true
is_supported_code O.Store = true
is_supported_code O.Branch = true
is_supported_code O.CBranch = true
is_supported_code O.Call = true
is_supported_code O.CallInd = true
is_supported_code O.CallOther = true
is_supported_code O.Return = true
is_supported_code code = false

abbrev pub are_supported_ops : List Op → Bool
are_supported_ops [] = true
are_supported_ops (op ∷ rest) = is_supported_code op.code && are_supported_ops rest

abbrev pub is_supported_code_of : List Instruction → Bool
is_supported_code_of [] = true
is_supported_code_of (i ∷ rest) = are_supported_ops i.ops && is_supported_code_of rest

-- A listing that is built: each of its ops is.
abbrev pub HasBuiltOps : Listing → Type 0
HasBuiltOps l = is_supported_code_of l.code ≡ true
