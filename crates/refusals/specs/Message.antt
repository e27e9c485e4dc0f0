-- The words that name a refusal, as they stand in a line behind the program's name. This project's own.
use Rattle.std.specs.Prelude.{ℕ, List, [], ◌++◌, codes}
use Rattle.std.specs.Fmt.{decimal}
use Rattle.ctext.specs.Names.{hex}
use Rattle.pcode_model.specs.declared.listing.Place.{Place}
use Rattle.pcode_model.specs.declared.rules.OpWhy.{OpWhy}
use Rattle.pcode_model.specs.declared.rules.OpWhy.TheVariants as why
use Rattle.pcodetext.specs.declared.fault.TextFault.{TextFault}
use Rattle.pcodetext.specs.declared.fault.TextFault.TheVariants as text
use Rattle.flow.specs.declared.answer.FlowFault.{FlowFault}
use Rattle.flow.specs.declared.answer.FlowFault.TheVariants as flow
use Rattle.stackvars.specs.declared.fault.AtomFault.{AtomFault}
use Rattle.stackvars.specs.declared.fault.AtomFault.TheVariants as atoms
use Rattle.refusals.specs.declared.refusal.Refusal.{Refusal}
use Rattle.refusals.specs.declared.refusal.Refusal.TheVariants as refusal

abbrev pub Text : Type 0
Text = List ℕ

-- lines count from 1
abbrev pub at_line : ℕ → Text → Text
at_line n word = codes "line " ++ (decimal n ++ (codes ": " ++ word))

-- the address in hexadecimal, the index in decimal
abbrev pub at_place : Text → Place → Text → Text
at_place what p word = what ++ (hex p.address ++ (codes "." ++ (decimal p.index ++ (codes ": " ++ word))))

abbrev pub text_words : TextFault → Text
text_words (text.Syntax n) = at_line n (codes "syntax")
text_words (text.Version n) = at_line n (codes "version")
text_words (text.Duplicate n) = at_line n (codes "duplicate")
text_words (text.Unknown n) = at_line n (codes "unknown")
text_words (text.Range n) = at_line n (codes "range")
text_words (text.Order n) = at_line n (codes "order")
text_words text.Memory = []

abbrev pub rule_word : OpWhy → Text
rule_word why.FloatOp = codes "float operation"
rule_word why.AnalysisOp = codes "analysis operation"
rule_word why.OtherOp = codes "operation left out"
rule_word why.Arity = codes "arity"
rule_word why.BadSpace = codes "space"
rule_word why.TooWide = codes "too wide"
rule_word why.OutOfSpace = codes "out of space"
rule_word why.SizeRule = codes "size rule"

abbrev pub flow_words : FlowFault → Text
flow_words (flow.NoTarget p) = at_place (codes "place 0x") p (codes "no target")
flow_words (flow.FallsOff p) = at_place (codes "place 0x") p (codes "falls off")
flow_words (flow.BadRelative p) = at_place (codes "place 0x") p (codes "bad relative branch")
flow_words (flow.NoTable p) = at_place (codes "place 0x") p (codes "no jump table")
flow_words (flow.TableEntered p) = at_place (codes "place 0x") p (codes "jump table entered")
flow_words (flow.TooManyBlocks n) = codes "too many blocks: " ++ decimal n
flow_words flow.Memory = []

abbrev pub atom_words : AtomFault → Text
atom_words (atoms.TooManyAtoms n) = codes "too many atoms: " ++ decimal n
atom_words atoms.Memory = []

abbrev pub words_of : Refusal → Text
words_of (refusal.Text fault) = text_words fault
words_of (refusal.Op fault) = at_place (codes "op 0x") fault.place (rule_word fault.why)
words_of refusal.NotBuilt = codes "not built"
words_of (refusal.Flow fault) = flow_words fault
words_of (refusal.Atoms fault) = atom_words fault
words_of refusal.Memory = []
