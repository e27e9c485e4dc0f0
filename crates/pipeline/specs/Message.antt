-- The line that names a refusal. This project's own.
use Rattle.std.specs.Prelude.{ℕ, List, [], ◌∷◌, ◌++◌, codes}
use Rattle.refusals.specs.Message.{words_of}
use Rattle.refusals.specs.declared.refusal.Refusal.{Refusal}

-- with its line feed
unfoldable pub line_of : Refusal → List ℕ
line_of fault = codes "pcode2c: " ++ (words_of fault ++ 10 ∷ [])
