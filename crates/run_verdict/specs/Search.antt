-- How the code looks for a branch that a jump table leads on. No definition of which listings are run: that it finds none
-- exactly where IsRunnable holds is proved in proofs/Search.antt, by the lemmas runnable and none_found.
use Rattle.std.specs.Prelude.{Bool, true, false, List, [], ◌∷◌}
use Rattle.pcode_model.specs.declared.opcode.Opcode.{Opcode}
use Rattle.pcode_model.specs.declared.opcode.Opcode.TheVariants as O
use Rattle.pcode_model.specs.declared.listing.Op.{Op}
use Rattle.pcode_model.specs.declared.listing.Instruction.{Instruction}
use Rattle.pcode_model.specs.Spaces.{or}

abbrev pub is_table_code : Opcode → Bool
is_table_code O.BranchInd = true
is_table_code code = false

abbrev pub is_table : Op → Bool
is_table op = is_table_code op.code

abbrev pub names_table : List Op → Bool
names_table [] = false
names_table (op ∷ ops) = or (is_table op) (names_table ops)

abbrev pub any_table : List Instruction → Bool
any_table [] = false
any_table (i ∷ code) = or (names_table i.ops) (any_table code)
