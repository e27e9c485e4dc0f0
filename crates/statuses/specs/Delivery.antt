-- What is written of an answer, and the status that comes of it. This project's own.
use Rattle.std.specs.Prelude.{◌≡◌, ◌⊎◌, ℕ, List, ◌++◌, codes}
use Rattle.outside.specs.Told.{Held}
use Rattle.outside.specs.Writing.{Wrote, WroteShort}
use Rattle.statuses.specs.Answer.{Answer, Shown, Refused, BadArguments, ReadFault, TooLong, Memory}

-- the lines that begin with the program's name
abbrev pub bad_arguments : List ℕ → List ℕ
bad_arguments name = name ++ codes ": bad arguments\n"

abbrev pub read_fault : List ℕ → List ℕ
read_fault name = name ++ codes ": read fault\n"

abbrev pub too_long : List ℕ → List ℕ
too_long name = name ++ codes ": input too long\n"

-- the text was written with the status that it has, or the sink failed in it
abbrev pub Writes : ℕ → List ℕ → Held → Held → ℕ → Type 0
Writes told text old new status = ((status ≡ told) × Wrote old new text) ⊎ ((status ≡ 4) × WroteShort old new text)

-- what an answer writes to out or to err, and its status
abbrev pub Delivers : List ℕ → Answer → Held → Held → Held → Held → ℕ → Type 0
Delivers name (Shown text) out out_new err err_new status = Writes 0 text out out_new status × (err_new ≡ err)
Delivers name (Refused line) out out_new err err_new status = Writes 1 line err err_new status × (out_new ≡ out)
Delivers name BadArguments out out_new err err_new status = Writes 2 (bad_arguments name) err err_new status
    × (out_new ≡ out)
Delivers name ReadFault out out_new err err_new status = Writes 3 (read_fault name) err err_new status × (out_new ≡ out)
Delivers name TooLong out out_new err err_new status = Writes 6 (too_long name) err err_new status × (out_new ≡ out)
Delivers name Memory out out_new err err_new status = (status ≡ 5) × ((out_new ≡ out) × (err_new ≡ err))
