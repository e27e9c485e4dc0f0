-- The C function of the plain lowering. This project's own.
use Rattle.std.specs.Prelude.{List}
use Rattle.pcode_model.specs.declared.atoms.Atom.{Atom}
use Rattle.pcode_model.specs.declared.flow.Block as flow_block
use Rattle.pcode_model.specs.declared.listing.Listing.{Listing}
use Rattle.pcode_model.specs.Memory.{Frame}
use Rattle.cmeaning.specs.declared.tree.CFunction.{CFunction}
use Rattle.naming.specs.declared.head.Head.{Head}
use Rattle.blockcode.specs.declared.code.Code.{Code}
use Rattle.layout.specs.Callees.{callees_of}
use Rattle.layout.specs.Function.{head_of, laid_out}
use Rattle.op_code.specs.Lowered.{lowered, result_width}

-- the listing's name, the result that its prototype says, and the callees that the code calls
abbrev pub plain_head : Listing → Code → Head
plain_head l k = head_of l.func.name (result_width l) (callees_of l k) k.variables

abbrev pub plain_function : Listing → Frame → List flow_block.Block → List Atom → CFunction
plain_function l f blocks atoms = laid_out (plain_head l (lowered l f blocks atoms)) (lowered l f blocks atoms)
