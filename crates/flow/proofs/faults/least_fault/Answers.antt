use Rattle.std.proofs.Common.{subst, Option}
use Rattle.pcode_model.specs.declared.flow.FlowWhy.{FlowWhy}
use Rattle.flow.specs.Edges.{IsLesser, fault_of}
use Rattle.flow.proofs.Faulting.{least_two}
use Rattle.flow.proofs.faults.least_fault.Goals as goal

pub returns-in-Two : goal.returns-in-Two
returns-in-Two c =
    let P : Option FlowWhy → Type 0 = λ a. IsLesser a c.fault-in-Two-2.result c.lesser.result in
    let Q : Option FlowWhy → Type 0 = λ b. IsLesser (fault_of c.in-Two.first) b c.lesser.result in
    least_two c.in-Two.first c.in-Two.second c.lesser.result c.args.edges c.in-Two.is
    (subst Q c.fault-in-Two-2.ensures (subst P c.fault-in-Two.ensures c.lesser.ensures))
