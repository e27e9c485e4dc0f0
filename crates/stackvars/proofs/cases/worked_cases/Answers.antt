use Rattle.stackvars.proofs.Worked.{across_entry, argument_cuts, byte_cuts, kept_cuts, last_byte, no_access, overlap_splits, touching_stay}
use Rattle.stackvars.proofs.cases.worked_cases.Goals as goal

pub returns-clause-byte : goal.returns-clause-byte
returns-clause-byte c = byte_cuts

pub returns-clause-kept : goal.returns-clause-kept
returns-clause-kept c = kept_cuts

pub returns-clause-touching : goal.returns-clause-touching
returns-clause-touching c = touching_stay

pub returns-clause-overlap : goal.returns-clause-overlap
returns-clause-overlap c = overlap_splits

pub returns-clause-nothing : goal.returns-clause-nothing
returns-clause-nothing c = no_access

pub returns-clause-last : goal.returns-clause-last
returns-clause-last c = last_byte

pub returns-clause-across : goal.returns-clause-across
returns-clause-across c = across_entry

pub returns-clause-argument : goal.returns-clause-argument
returns-clause-argument c = argument_cuts
