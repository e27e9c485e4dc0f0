-- A fault of a pass as a refusal of the input: want of memory is the refusal's own. This project's own.
use Rattle.pcodetext.specs.declared.fault.TextFault.{TextFault}
use Rattle.pcodetext.specs.declared.fault.TextFault.TheVariants as text
use Rattle.flow.specs.declared.answer.FlowFault.{FlowFault}
use Rattle.flow.specs.declared.answer.FlowFault.TheVariants as flow
use Rattle.stackvars.specs.declared.fault.AtomFault.{AtomFault}
use Rattle.stackvars.specs.declared.fault.AtomFault.TheVariants as atoms
use Rattle.refusals.specs.declared.refusal.Refusal.{Refusal}
use Rattle.refusals.specs.declared.refusal.Refusal.TheVariants as refusal

abbrev pub of_text : TextFault → Refusal
of_text text.Memory = refusal.Memory
of_text fault = refusal.Text fault

abbrev pub of_flow : FlowFault → Refusal
of_flow flow.Memory = refusal.Memory
of_flow fault = refusal.Flow fault

abbrev pub of_atoms : AtomFault → Refusal
of_atoms atoms.Memory = refusal.Memory
of_atoms fault = refusal.Atoms fault
