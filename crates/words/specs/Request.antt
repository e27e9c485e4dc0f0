-- What the words of the command line ask for. This project's own.
use Rattle.std.specs.Prelude.{◌^◌, ℕ, nat_lt, Bool, true, List, [], ◌∷◌, codes, Option, Some, None, if◌then◌else◌}
use Rattle.std.specs.Borrow.{Bor}
use Rattle.std.specs.Option.{option_and_then, option_map}
use Rattle.std.specs.Str.{bytes_eq}
use Rattle.clap.specs.Words.{App, Row, Rule, Text, first_of, matches_of, new_app, new_rule, takes, with_rule}
use Rattle.clap.specs.Simple.{on_top}
use Rattle.listing_lines.specs.Tokens.{number_of}
use Rattle.words.specs.declared.request.Request.{Request}
use Rattle.words.specs.declared.request.Request.TheVariants as request
use Rattle.words.specs.declared.request.Stage.{Stage}
use Rattle.words.specs.declared.request.Stage.TheVariants.{C, Ssa, Plain, Listing}

-- ---- the command: two options that take a text each, and a file

abbrev pub option_named : Text → Rule
option_named name = record (new_rule name) { long = Some name }

-- the words begin behind the program's name
abbrev pub unnamed : App
unnamed = on_top (λ s. record s { no_binary_name = true }) (new_app (codes "pcode2c"))

abbrev pub command : App
command = with_rule (with_rule (with_rule unnamed (option_named (codes "stage"))) (option_named (codes "gen")))
    (new_rule (codes "file"))

-- ---- what is asked for

-- Prints: a text of a file or, without one, of the standard input. Numbers: the numbers of a generated listing.
pub data Asked : Type 0 where
  Prints : Stage → Option (List ℕ) → Asked
  Numbers : ℕ → Asked

abbrev pub stage_named : List ℕ → Option Stage
stage_named word = if bytes_eq word (codes "c") then Some C
    else (if bytes_eq word (codes "ssa") then Some Ssa
    else (if bytes_eq word (codes "plain") then Some Plain
    else (if bytes_eq word (codes "listing") then Some Listing else None)))

-- 1 to 10 decimal digits, with a value below 2^32
abbrev pub number_in : List ℕ → Option ℕ
number_in word = option_and_then (λ n. if nat_lt n (2 ^ 32) then Some n else None) (number_of 10 10 word)

-- the name `-` is the standard input's
abbrev pub file_named : Option (List ℕ) → Option (List ℕ)
file_named None = None
file_named (Some name) = if bytes_eq name (codes "-") then None else Some name

-- By the texts of `--stage` and `--gen` and the file, where they stand: `--gen` stands beside nothing else.
abbrev pub given : Option (List ℕ) → Option (List ℕ) → Option (List ℕ) → Option Asked
given None None file = Some (Prints C (file_named file))
given (Some stage) None file = option_map (λ s. Prints s (file_named file)) (stage_named stage)
given None (Some number) None = option_map Numbers (number_in number)
given None (Some number) (Some file) = None
given (Some stage) (Some number) file = None

abbrev pub given_in : List Row → Option Asked
given_in rows = given (first_of (codes "stage") rows) (first_of (codes "gen") rows) (first_of (codes "file") rows)

-- The words are taken exactly where the command takes them and what is given asks for something.
abbrev pub asked_by : List (List ℕ) → Option Asked
asked_by words = if takes command words then given_in (matches_of command words) else None

-- ---- of what the code has

abbrev pub text_in : Option (Bor (List ℕ)) → Option (List ℕ)
text_in = option_map (λ s. s.now)

abbrev pub request_of : Request → Asked
request_of (request.Text stage file) = Prints stage (text_in file)
request_of (request.Numbers n) = Numbers n
