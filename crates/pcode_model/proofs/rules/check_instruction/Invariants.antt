use Rattle.std.proofs.Common.{◌≡◌, Option, drop}
use Rattle.pcode_model.specs.declared.rules.OpFault.{OpFault}
use Rattle.pcode_model.specs.Rules.{first_bad_of}
use Rattle.pcode_model.proofs.rules.check_instruction.Given as goal

abbrev pub invariant-loop-op : goal.invariant-loop-op
invariant-loop-op l = (l.index ≡ l.op-index)
    × ((rest : Option OpFault) → first_bad_of l.listing l.instruction.address 0 l.instruction.ops rest ≡ first_bad_of l.listing l.instruction.address l.op-index (drop l.op-index l.instruction.ops) rest)
