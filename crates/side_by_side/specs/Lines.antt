-- The lines that name why the inputs are refused. This project's own.
use Rattle.std.specs.Prelude.{ℕ, List, [], ◌∷◌, ◌++◌, codes}
use Rattle.std.specs.Fmt.{decimal}
use Rattle.entrytext.specs.declared.fault.EntryFault.{EntryFault}
use Rattle.entrytext.specs.declared.fault.EntryFault.TheVariants as entry
use Rattle.refusals.specs.Message as refusal
use Rattle.side_by_side.specs.declared.input_fault.InputFault.{InputFault}
use Rattle.side_by_side.specs.declared.input_fault.InputFault.TheVariants as input_fault

-- lines of the entry's text count from 1
abbrev pub at_line : ℕ → List ℕ → List ℕ
at_line n word = codes "entry line " ++ (decimal n ++ (codes ": " ++ word))

abbrev pub entry_words : EntryFault → List ℕ
entry_words (entry.Syntax n) = at_line n (codes "syntax")
entry_words (entry.Order n) = at_line n (codes "order")
entry_words (entry.Range n) = at_line n (codes "range")
entry_words entry.Memory = []

abbrev pub words_of : InputFault → List ℕ
words_of (input_fault.Listing fault) = refusal.words_of fault
words_of input_fault.NotC = codes "not C"
words_of input_fault.Misfit = codes "C text doesn't fit"
words_of (input_fault.Entry fault) = entry_words fault
words_of input_fault.Memory = []

-- with its line feed
unfoldable pub line_of : InputFault → List ℕ
line_of fault = codes "runboth: " ++ (words_of fault ++ 10 ∷ [])
